use Rattle.std.proofs.Common.{◌≡◌, ◌++◌, drop}
use Rattle.out_messages.specs.OwnerText.{owners_from}
use Rattle.out_messages.proofs.owner_text.push_shown_owners.Given as goal

abbrev pub invariant-loop-owner : goal.invariant-loop-owner
invariant-loop-owner l = record {
  place : l.place ≡ l.owner-index;
  text : l.out.items ++ owners_from l.survey l.count l.owner-index (drop l.owner-index l.owners) ≡ l.initial.out.items ++ owners_from l.survey l.count 0 l.owners;
}
