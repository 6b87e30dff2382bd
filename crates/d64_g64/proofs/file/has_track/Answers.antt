use Rattle.std.proofs.Common.{◌≡◌, ◌+◌, Bool, true, ◌&&◌, not, nat_eq, leb, length, sym, ap, ◌∙◌, arith}
use Rattle.std.proofs.lemmas.Bool.{ne_eqb, eq-eqb}
use Rattle.d64_g64.proofs.Files.{long_enough, lacks_entry, has_entry}
use Rattle.d64_g64.proofs.file.has_track.Goals as goal

pub bounds-file-9 : goal.bounds-file-9
bounds-file-9 c = let long = long_enough c.args.file.now c.requires.file in omega (arith, long.0)

pub returns-then-entry-file : goal.returns-then-entry-file
returns-then-entry-file c = lacks_entry c.args.file.now c.args.entry c.if-entry-file.true

pub offset_of-offset-requires : goal.offset_of-offset-requires
offset_of-offset-requires c = let long = long_enough c.args.file.now c.requires.file in omega (arith, long.1, c.if-entry-file.false)

pub returns-then-offset-ne0 : goal.returns-then-offset-ne0
returns-then-offset-ne0 c =
    ap (λ (b : Bool). not b && leb (c.offset_of-offset.result + 2) (length c.args.file.now)) (sym (ne_eqb c.offset_of-offset.result 0 c.if-offset-ne0.true))
    ∙ has_entry c.args.file.now c.args.entry c.offset_of-offset.result c.if-entry-file.false c.offset_of-offset.ensures.value

pub returns-else-offset-ne0 : goal.returns-else-offset-ne0
returns-else-offset-ne0 c =
    let zero : nat_eq c.offset_of-offset.result 0 ≡ true = eq-eqb _ _ c.if-offset-ne0.false in
    ap not zero
    ∙ sym (ap (λ (b : Bool). not b && leb (c.offset_of-offset.result + 2) (length c.args.file.now)) zero)
    ∙ has_entry c.args.file.now c.args.entry c.offset_of-offset.result c.if-entry-file.false c.offset_of-offset.ensures.value
