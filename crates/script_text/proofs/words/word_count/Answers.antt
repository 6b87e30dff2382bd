-- The words so far and those of the rest are as many as all words, as each space is passed over and
-- each word is taken.
use Rattle.std.proofs.Common.{◌≡◌, ◌≢◌, ℕ, false, List, ◌∷◌, length, Option, Some, None, option_map, sym, ap, subst, ◌∙◌, arith, rules}
use Rattle.std.proofs.lemmas.Bool.{ne_eqb, false≢true}
use Rattle.std.proofs.lemmas.List.{nil_from_length}
use Rattle.script_text.specs.Words.{space, ends_word, first_word, split_words}
use Rattle.script_text.proofs.Splitting.{count_so_far-space, count_so_far-first, count_so_far-none, count_so_far-nil, first_word_known}
use Rattle.script_text.proofs.words.word_count.Goals as goal

-- how many words the line has
abbrev all_words : List ℕ → Option ℕ
all_words line = option_map length (split_words line)

pub loop-first-preserved-then-first-eq32 : goal.loop-first-preserved-then-first-eq32
loop-first-preserved-then-first-eq32 c =
    let begins : c.loop-first.rest.now ≡ c.in-Some.first.now ∷ c.in-Some.after.now = search rules in
    let is_space : c.in-Some.first.now ≡ space = search rules in
    let shorter = ap length begins in
    record {
      words = count_so_far-space c.loop-first.count (all_words c.args.line.now) c.in-Some.first.now c.loop-first.rest.now c.in-Some.after.now begins is_space c.loop-first.invariant.words;
      room = omega (arith, c.loop-first.invariant.room);
      inside = λ _. omega (arith, c.loop-first.invariant.room);
    }

pub loop-first-smaller : goal.loop-first-smaller
loop-first-smaller c =
    let begins : c.loop-first.rest.now ≡ c.in-Some.first.now ∷ c.in-Some.after.now = search rules in
    let not_space : c.in-Some.first.now ≢ space = search rules in
    let found : first_word c.loop-first.rest.now ≡ Some (c.in-Some-first_word.field-0-0.now, c.in-Some-first_word.left.now) = cc in
    (first_word_known c.in-Some.first.now c.loop-first.rest.now c.in-Some.after.now c.in-Some-first_word.field-0-0.now c.in-Some-first_word.left.now begins not_space found).shorter

pub loop-first-preserved : goal.loop-first-preserved
loop-first-preserved c =
    let begins : c.loop-first.rest.now ≡ c.in-Some.first.now ∷ c.in-Some.after.now = search rules in
    let not_space : c.in-Some.first.now ≢ space = search rules in
    let word = c.in-Some-first_word.field-0-0.now in
    let left = c.in-Some-first_word.left.now in
    let found : first_word c.loop-first.rest.now ≡ Some (word, left) = cc in
    let known = first_word_known c.in-Some.first.now c.loop-first.rest.now c.in-Some.after.now word left begins not_space found in
    let begun : ends_word c.loop-first.rest.now ≡ false = subst (λ t. ends_word t ≡ false) (sym begins) (ne_eqb c.in-Some.first.now space not_space) in
    let inside = c.loop-first.invariant.inside begun in
    record {
      words = count_so_far-first c.loop-first.count (all_words c.args.line.now) c.in-Some.first.now c.loop-first.rest.now c.in-Some.after.now word left begins not_space found c.loop-first.invariant.words;
      room = omega (arith, known.shorter, inside);
      inside = λ unended. absurd (false≢true (sym unended ∙ known.ended));
    }

pub returns-in_default-first_word-clause-count : goal.returns-in_default-first_word-clause-count
returns-in_default-first_word-clause-count c =
    let begins : c.loop-first.rest.now ≡ c.in-Some.first.now ∷ c.in-Some.after.now = search rules in
    let not_space : c.in-Some.first.now ≢ space = search rules in
    let misplaced : first_word c.loop-first.rest.now ≡ None = cc in
    count_so_far-none c.loop-first.count (all_words c.args.line.now) c.in-Some.first.now c.loop-first.rest.now c.in-Some.after.now begins not_space misplaced c.loop-first.invariant.words

pub returns-clause-count : goal.returns-clause-count
returns-clause-count c =
    let none : length c.loop-first.rest.now ≡ 0 = omega (arith, c.in_default.ensures.cases) in
    count_so_far-nil c.loop-first.count (all_words c.args.line.now) c.loop-first.rest.now (nil_from_length c.loop-first.rest.now none) c.loop-first.invariant.words
