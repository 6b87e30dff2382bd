use Rattle.std.proofs.Common.{◌*◌, ◌<◌, ◌+◌, ◌≤◌, ℕ, List, [], ◌∷◌, ◌++◌, length, sym, ap, ◌∙◌, subst, append_assoc, append-nil, length-append, arith}
use Rattle.std.specs.Prelude.{All}
use Rattle.std.specs.List.{flat_map}
use Rattle.std.proofs.lemmas.List.Elements.{All-tail}
use Rattle.d64_image.specs.declared.block.TheConstants.{BLOCKS}
use Rattle.d64_files.specs.Slot.{EntryView}
use Rattle.d64_files.proofs.Owners.{owned_more}
use Rattle.d64_survey.specs.Owners.{slot_owners}
use Rattle.d64_survey.specs.OwnerTables.{owner_row_of, Adds}
use Rattle.d64_survey.specs.declared.owner.Owner.{Owner}
use Rattle.d64_survey.proofs.OwnerLists.{then_added}
use Rattle.d64_survey.proofs.owner_table.OwnerTable.claim_files.Goals as goal

pub loop-entry-preserved : goal.loop-entry-preserved
loop-entry-preserved c =
    let invariant = c.loop-entry.invariant in
    let done = c.loop-entry.yielded in
    let entry = c.in-Some.entry in
    let owned : EntryView → List (ℕ × Owner) = λ entry. slot_owners c.args.image.now (entry.slot, entry.bytes) in
    let longer = length-append done (entry ∷ []) in
    record {
      split = invariant.split
          ∙ ap (λ (left : List EntryView). done ++ left) c.in-Some.ensures.steps
          ∙ sym (append_assoc done (entry ∷ []) c.next.new.self);
      listed = subst (λ (all : List (ℕ × Owner)). Adds c.args.self.now all c.claim_file.new.self) (owned_more owned [] done entry)
          (then_added c.args.self.now c.loop-entry.self c.claim_file.new.self (flat_map owned done) (owned entry) invariant.listed c.claim_file.ensures.listed);
      few = λ (b : ℕ).
          let before = invariant.few b in
          let more = c.claim_file.ensures.few b in
          let goes : (owner_row_of c.claim_file.new.self b).count ≤ (owner_row_of c.args.self.now b).count + 1536 * length (done ++ entry ∷ []) = omega arith in goes;
      numbers = All-tail (λ (entry : EntryView). entry.slot < 8 * BLOCKS) entry c.next.new.self (subst (All (λ (entry : EntryView). entry.slot < 8 * BLOCKS)) c.in-Some.ensures.steps invariant.numbers);
    }

pub returns : goal.returns
returns c =
    let invariant = c.loop-entry.invariant in
    let done = c.loop-entry.yielded in
    let owned : EntryView → List (ℕ × Owner) = λ entry. slot_owners c.args.image.now (entry.slot, entry.bytes) in
    subst (λ (walk : List EntryView). Adds c.args.self.now (flat_map owned walk) c.loop-entry.self)
    (sym (invariant.split ∙ ap (λ (left : List EntryView). done ++ left) c.in-None.ensures.steps.0 ∙ append-nil done)) invariant.listed
