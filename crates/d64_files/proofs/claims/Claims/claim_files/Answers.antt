use Rattle.std.proofs.Common.{List, [], ◌∷◌, ◌++◌, sym, ap, ◌∙◌, append_assoc}
use Rattle.std.specs.List.{flat_map}
use Rattle.std.proofs.lemmas.List.Elements.{All-push}
use Rattle.d64_files.specs.Slot.{EntryView}
use Rattle.d64_files.specs.Ownership.{owned_by, HasItsChains}
use Rattle.d64_files.specs.Claims.{claims_of}
use Rattle.d64_files.proofs.Owners.{owned_more}
use Rattle.d64_files.proofs.claims.Claims.claim_files.Goals as goal

pub loop-entry-preserved : goal.loop-entry-preserved
loop-entry-preserved c =
    let invariant = c.loop-entry.invariant in
    record {
      split = invariant.split
          ∙ ap (λ (left : List EntryView). c.loop-entry.yielded ++ left) c.in-Some.ensures.steps
          ∙ sym (append_assoc c.loop-entry.yielded (c.in-Some.entry ∷ []) c.next.new.self);
      chains = All-push (λ (entry : EntryView). HasItsChains c.args.image.now entry.bytes) c.loop-entry.yielded c.in-Some.entry invariant.chains c.in_ok-claim_file.ensures.chains;
      claimed = λ before is. c.in_ok-claim_file.ensures.claimed (before ++ flat_map (λ (entry : EntryView). owned_by c.args.image.now entry.bytes) c.loop-entry.yielded) (invariant.claimed before is)
          ∙ ap claims_of (owned_more (λ (entry : EntryView). owned_by c.args.image.now entry.bytes) before c.loop-entry.yielded c.in-Some.entry);
    }
