use Rattle.std.proofs.Common.{◌≡◌, ◌+◌, ◌*◌, ◌≤◌, false, length, option_map}
use Rattle.script_text.specs.Words.{ends_word, split_words}
use Rattle.script_text.proofs.words.word_count.Given as goal

abbrev pub invariant-loop-first : goal.invariant-loop-first
invariant-loop-first l = record {
  words : option_map (λ more. l.count + more) (option_map length (split_words l.rest)) ≡ option_map length (split_words l.line);
  room : length l.rest + 2 * l.count ≤ length l.line + 1;
  inside : ends_word l.rest ≡ false → length l.rest + 2 * l.count ≤ length l.line;
}

abbrev pub decreases-loop-first : goal.decreases-loop-first
decreases-loop-first l = length l.rest
