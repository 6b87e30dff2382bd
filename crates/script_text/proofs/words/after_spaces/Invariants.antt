use Rattle.std.proofs.Common.{◌≡◌, length}
use Rattle.script_text.specs.Words.{split_words}
use Rattle.script_text.proofs.words.after_spaces.Given as goal

abbrev pub invariant-loop-first : goal.invariant-loop-first
invariant-loop-first l = split_words l.rest ≡ split_words l.text

abbrev pub decreases-loop-first : goal.decreases-loop-first
decreases-loop-first l = length l.rest
