use Rattle.std.proofs.Common.{◌≡◌, ◌∷◌, sym, ap, ◌∙◌, rules}
use Rattle.script_text.specs.Words.{space, split_words}
use Rattle.script_text.proofs.Splitting.{split_words-space}
use Rattle.script_text.proofs.words.after_spaces.Goals as goal

pub loop-first-preserved : goal.loop-first-preserved
loop-first-preserved c =
    let begins : c.loop-first.rest.now ≡ c.in-Some.first.now ∷ c.in-Some.after.now = search rules in
    let is_space : c.in-Some.first.now ≡ space = search rules in
    sym (ap split_words begins ∙ split_words-space c.in-Some.first.now c.in-Some.after.now is_space) ∙ c.loop-first.invariant
