use Rattle.std.proofs.Common.{ℕ, List, ◌++◌, Option, ap, ap₂, ◌∙◌, subst}
use Rattle.d64_survey.specs.Owners.{owned_as, blocks_from}
use Rattle.d64_survey.specs.OwnerTables.{Adds}
use Rattle.d64_survey.specs.declared.owner.Part.{Part}
use Rattle.d64_survey.specs.declared.owner.Part.TheVariants.{Data, Side}
use Rattle.d64_survey.specs.declared.owner.Owner.{Owner}
use Rattle.d64_survey.specs.declared.owner.Owner.TheVariants.{File}
use Rattle.d64_survey.proofs.OwnerLists.{then_added}
use Rattle.d64_survey.proofs.owner_table.OwnerTable.claim_file.Goals as goal

pub returns-clause-listed : goal.returns-clause-listed
returns-clause-listed c =
    let image = c.args.image.now in
    let k = c.place-slot.result in
    let same = c.place-slot.ensures ∙ c.slot.ensures in
    let part : ℕ → Part → Option (ℕ × ℕ) → List (ℕ × Owner) = λ slot part pair. owned_as (File slot part) (blocks_from image pair) in
    subst (λ (owned : List (ℕ × Owner)). Adds c.args.self.now owned c.claim_way-2.new.self)
    (ap₂ (λ (a b : List (ℕ × Owner)). a ++ b) (ap (λ (n : ℕ). part n Data c.data_pair.result) same ∙ ap (part c.args.entry.now.slot Data) c.data_pair.ensures)
    (ap (λ (n : ℕ). part n Side c.side_pair.result) same ∙ ap (part c.args.entry.now.slot Side) c.side_pair.ensures))
    (then_added c.args.self.now c.claim_way.new.self c.claim_way-2.new.self (part k Data c.data_pair.result) (part k Side c.side_pair.result)
    c.claim_way.ensures.listed c.claim_way-2.ensures.listed)
