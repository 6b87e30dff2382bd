use Rattle.std.proofs.Common.{◌≡◌, ◌++◌, take, drop}
use Rattle.out_messages.specs.ShownStart.{first_characters}
use Rattle.out_messages.proofs.first_characters.first_characters.Given as goal

abbrev pub invariant-loop-place : goal.invariant-loop-place
invariant-loop-place l = take l.place l.text ++ first_characters l.left (drop l.place l.text) ≡ first_characters l.most l.text
