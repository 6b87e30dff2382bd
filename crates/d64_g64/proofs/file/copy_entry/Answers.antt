use Rattle.std.proofs.Common.{◌≡◌, ℕ, List, ◌∙◌, subst, arith}
use Rattle.std.specs.Prelude.{OnOk}
use Rattle.d64_g64.proofs.Files.{long_enough, there, no_track, the_track}
use Rattle.d64_g64.proofs.file.copy_entry.Goals as goal

pub returns-then-not-has_track-clause-copied : goal.returns-then-not-has_track-clause-copied
returns-then-not-has_track-clause-copied c = c.clear.ensures.items ∙ no_track c.args.file.now c.args.entry c.if-not-has_track.ensures

pub offset_of-offset-requires : goal.offset_of-offset-requires
offset_of-offset-requires c =
    let long = long_enough c.args.file.now c.requires.file in
    let is = there c.args.file.now c.args.entry c.if-not-has_track.ensures in
    omega (arith, long.1, is.0)

pub number_of_two-requires : goal.number_of_two-requires
number_of_two-requires c =
    let is = there c.args.file.now c.args.entry c.if-not-has_track.ensures in
    omega (arith, is.1, c.offset_of-offset.ensures.value)

pub copy_padded-requires-clause-place : goal.copy_padded-requires-clause-place
copy_padded-requires-clause-place c =
    let is = there c.args.file.now c.args.entry c.if-not-has_track.ensures in
    omega (arith, is.1, c.offset_of-offset.ensures.value)

pub returns-clause-copied : goal.returns-clause-copied
returns-clause-copied c =
    subst (λ (xs : List ℕ). OnOk c.copy_padded.result (c.copy_padded.new.copy.items ≡ xs))
    (the_track c.args.file.now c.args.entry c.offset_of-offset.result c.number_of_two.result c.if-not-has_track.ensures c.offset_of-offset.ensures.value c.number_of_two.ensures.value)
    c.copy_padded.ensures.copied
