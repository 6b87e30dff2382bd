-- The walk gives the word after the spaces, and leaves what follows it.
use Rattle.std.proofs.Common.{◌≡◌, Some, None, length, ap, sym, ◌∙◌, arith}
use Rattle.script_text.specs.Words.{first_word}
use Rattle.script_text.proofs.Splitting.{next_word, no_next_word}
use Rattle.script_text.proofs.words.WordsIterator.next.Goals as goal

pub overflow_sub-self : goal.overflow_sub-self
overflow_sub-self c =
    let found : first_word c.after_spaces.result.now ≡ Some (c.in-Some.word.now, c.in-Some.rest.now) = cc in
    (next_word c.self.inside.rest.now c.after_spaces.result.now c.in-Some.word.now c.in-Some.rest.now c.self.inside.left
    c.after_spaces.ensures.words c.after_spaces.ensures.begun found c.self.invariant).more

pub invariant_of-self : goal.invariant_of-self
invariant_of-self c =
    let found : first_word c.after_spaces.result.now ≡ Some (c.in-Some.word.now, c.in-Some.rest.now) = cc in
    (next_word c.self.inside.rest.now c.after_spaces.result.now c.in-Some.word.now c.in-Some.rest.now c.self.inside.left
    c.after_spaces.ensures.words c.after_spaces.ensures.begun found c.self.invariant).count

pub returns-in-Some-clause-steps : goal.returns-in-Some-clause-steps
returns-in-Some-clause-steps c =
    let found : first_word c.after_spaces.result.now ≡ Some (c.in-Some.word.now, c.in-Some.rest.now) = cc in
    sym c.self.view_is ∙ (next_word c.self.inside.rest.now c.after_spaces.result.now c.in-Some.word.now c.in-Some.rest.now c.self.inside.left
    c.after_spaces.ensures.words c.after_spaces.ensures.begun found c.self.invariant).words

pub returns-in-Some-clause-goes : goal.returns-in-Some-clause-goes
returns-in-Some-clause-goes c =
    let shorter = ap length (returns-in-Some-clause-steps c) in
    record { on = λ _. (tt, tt, omega (arith, shorter)); keeps = tt; rests = λ _. tt }

pub returns-in-None-clause-steps : goal.returns-in-None-clause-steps
returns-in-None-clause-steps c =
    let found : first_word c.after_spaces.result.now ≡ None = cc in
    let gone = sym c.self.view_is ∙ no_next_word c.self.inside.rest.now c.after_spaces.result.now c.self.inside.left
    c.after_spaces.ensures.words c.after_spaces.ensures.begun found c.self.invariant in
    (gone, gone)
