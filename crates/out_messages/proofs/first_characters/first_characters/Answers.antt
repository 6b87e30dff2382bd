use Rattle.std.proofs.Common.{arith, rules}
use Rattle.std.proofs.lemmas.Bool.{ne_eqb}
use Rattle.out_messages.proofs.FirstCharacters.{all_of, enough, next_character, other_byte}
use Rattle.out_messages.proofs.first_characters.first_characters.Goals.{then-begins_character+else-left-eq0, else-begins_character}
use Rattle.out_messages.proofs.first_characters.first_characters.Goals as goal

pub returns-then-left-eq0 : goal.returns-then-left-eq0
returns-then-left-eq0 c =
    enough c.args.text.now _ c.loop-place.place c.loop-place.left (search rules) c.if-left-eq0.true (search rules) c.loop-place.invariant

pub loop-place-preserved : goal.loop-place-preserved
loop-place-preserved c = elim c.if-begins_character.branch [
  | then-begins_character+else-left-eq0 w ↦
      rw w.left-is (next_character c.args.text.now _ c.loop-place.place c.loop-place.left (search rules) (ne_eqb _ _ w.if-left-eq0.false) (search rules) c.loop-place.invariant)
  | else-begins_character w ↦
      rw w.left-is (other_byte c.args.text.now _ c.loop-place.place c.loop-place.left (search rules) (search rules) c.loop-place.invariant)
]

pub returns : goal.returns
returns c = all_of c.args.text.now _ c.loop-place.place c.loop-place.left (omega (arith, c.loop-place-test.false)) c.loop-place.invariant
