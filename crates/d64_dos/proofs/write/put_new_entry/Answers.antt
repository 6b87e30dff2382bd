use Rattle.std.proofs.Common.{ℕ, ◌<◌, List, length, ap, ◌∙◌, sym, subst}
use Rattle.std.proofs.lemmas.Result.{on_ok_weaker}
use Rattle.d64_files.specs.Writing.{with_bytes, entry_bytes}
use Rattle.d64_effects.proofs.Lengths.{length-with_growth}
use Rattle.d64_dos.proofs.Entries.{vacant_place, new_place, last_of_place, new_of_place, vacant_of_place}
use Rattle.d64_dos.proofs.write.put_new_entry.Goals as goal

pub grow_after-requires : goal.grow_after-requires
grow_after-requires c = record {
  last = last_of_place c.args.image.now c.args.place c.in-New.last c.in-New.block c.in-New.is c.requires;
  new = new_of_place c.args.image.now c.args.place c.in-New.last c.in-New.block c.in-New.is c.requires;
}

pub returns-in-Vacant-clause-written : goal.returns-in-Vacant-clause-written
returns-in-Vacant-clause-written c =
    on_ok_weaker c.put_entry_at.result
    (λ written. written ∙ sym (vacant_place c.args.image.now c.args.place c.in-Vacant.block c.in-Vacant.index _ c.in-Vacant.is c.requires))
    c.put_entry_at.ensures.written

pub returns-in_ok-grow_after-in-New-clause-written : goal.returns-in_ok-grow_after-in-New-clause-written
returns-in_ok-grow_after-in-New-clause-written c =
    let entry : List ℕ = entry_bytes c.args.file.now.name.now c.args.file.now.kind c.args.file.now.first c.args.file.now.blocks in
    let grown = c.in_ok-grow_after-in-New.ensures.written in
    on_ok_weaker c.put_entry_at-in-New.result
    (λ written. written
    ∙ ap (λ (image : List (List ℕ)). with_bytes image c.in-New.block 2 entry) grown
    ∙ sym (new_place c.args.image.now c.args.place c.in-New.last c.in-New.block entry c.in-New.is c.requires))
    c.put_entry_at-in-New.ensures.written

pub put_entry_at-requires-clause-block : goal.put_entry_at-requires-clause-block
put_entry_at-requires-clause-block c =
    vacant_of_place c.args.image.now c.args.place c.in-Vacant.block c.in-Vacant.index c.in-Vacant.is c.requires

pub put_entry_at-requires-in-New-clause-block : goal.put_entry_at-requires-in-New-clause-block
put_entry_at-requires-in-New-clause-block c =
    let inside = new_of_place c.args.image.now c.args.place c.in-New.last c.in-New.block c.in-New.is c.requires in
    subst (λ (n : ℕ). c.in-New.block < n) (sym (ap length c.in_ok-grow_after-in-New.ensures.written ∙ length-with_growth c.args.image.now c.in-New.block)) inside
