-- The words of a line are those of the rule.
use Rattle.std.proofs.Common.{◌≡◌, ◌≢◌, ℕ, zero, suc, ◌+◌, ◌-◌, ◌<◌, Bool, true, false, cond, eqb, List, [], ◌∷◌, ◌++◌, length, take, drop, get_or, position, Option, Some, None, option_map, option_and_then, refl, sym, ap, subst, ◌∙◌, arith, length-append, length-take, append-nil}
use Rattle.std.specs.List.{All, list_all, position_or_len}
use Rattle.std.specs.Option.{IfSome}
use Rattle.std.proofs.lemmas.Bool.{cond_both, cond-true, cond-false, eqb-true, eqb-false, ne_eqb, or_from, or_left, or_parts, lt-ltb}
use Rattle.std.proofs.lemmas.Bool.Decides.{nat_tests}
use Rattle.std.proofs.lemmas.List.{get_or_append_left, get_or_at, get_or-take, take_at, drop_at, drop-drop, drop_more, take-append-drop}
use Rattle.std.proofs.lemmas.List.Elements.{All-head, All-weaker, All-from_get_or}
use Rattle.std.proofs.lemmas.List.Sums.{position_or_len_is, fails_before_first, AllPass-from_list_all, list_all-from_AllPass}
use Rattle.std.proofs.lemmas.List.Quantifiers.{position-Some}
use Rattle.std.proofs.lemmas.Option.{IfSome_then}
use Rattle.script_text.specs.Words.{space, quote, IsPrintable, is_printable, is_quote, ends_run, ends_word, word_before, quoted_word, bare_word, first_word, words_within, split_words, words_of_line, Spells, no_word, space_before, run_before, quoted_before, HasWordsOfRule}
use Rattle.script_text.proofs.Splitting.{word_before_gives, and_then_gives, map_gives, run_goes_on, with_first, split_words-nil, split_words-space, split_words-first, words_of-printable, is_printable-true}

-- the first place that passes a test, after bytes that fail it
first_place : (p : ℕ → Bool) (xs ys : List ℕ) (y : ℕ) → All (λ b. p b ≡ false) xs → p y ≡ true → position_or_len p (xs ++ y ∷ ys) ≡ length xs
first_place p xs ys y fails passes =
    position_or_len_is p (xs ++ y ∷ ys) (length xs) 0 (omega (arith, length-append xs (y ∷ ys)))
    (λ k below. subst (λ b. p b ≡ false) (sym (get_or_append_left xs (y ∷ ys) 0 k below)) (fails k 0 below))
    (λ _. subst (λ b. p b ≡ true) (sym (get_or_at xs y ys 0 (length xs) refl)) passes)

-- no place passes a test
no_place : (p : ℕ → Bool) (xs : List ℕ) → All (λ b. p b ≡ false) xs → position_or_len p xs ≡ length xs
no_place p xs fails = position_or_len_is p xs (length xs) 0 (omega arith) (λ k below. fails k 0 below) (λ inside. absurd (omega arith))

-- a first place inside the list
position_is : (p : ℕ → Bool) (xs : List ℕ) (i : ℕ) → position_or_len p xs ≡ i → i < length xs → position p xs ≡ Some i
position_is p xs i e inside =
    ap (λ b. cond b (Some (position_or_len p xs)) None) (lt-ltb (position_or_len p xs) (length xs) (omega (arith, e))) ∙ ap Some e

-- what follows an element
drop_past : (xs ys : List ℕ) (y : ℕ) → drop (length xs + 1) (xs ++ y ∷ ys) ≡ ys
drop_past xs ys y = sym (drop-drop 1 (length xs) (xs ++ y ∷ ys)) ∙ ap (drop 1) (drop_at xs (y ∷ ys) (length xs) refl)

-- the word between two quotes
quoted_word_is : (inside rest : List ℕ) → All (λ b. b ≢ quote) inside → ends_word rest ≡ true → quoted_word (inside ++ quote ∷ rest) ≡ Some (inside, rest)
unfolding quoted_word
quoted_word_is inside rest unquoted ended =
    let text = inside ++ quote ∷ rest in
    let place : position is_quote text ≡ Some (length inside) =
    position_is is_quote text (length inside)
    (first_place is_quote inside rest quote (All-weaker (λ b. b ≢ quote) (λ b. is_quote b ≡ false) (λ b n. ne_eqb b quote n) inside unquoted) refl)
    (omega (arith, length-append inside (quote ∷ rest))) in
    ap (option_and_then (λ (end : ℕ). word_before (take end text) (drop (end + 1) text))) place
    ∙ ap (λ (word : List ℕ). word_before word (drop (length inside + 1) text)) (take_at inside (quote ∷ rest) (length inside) refl)
    ∙ ap (λ (left : List ℕ). word_before inside left) (drop_past inside rest quote)
    ∙ cond-true (ends_word rest) (Some (inside, rest)) None ended

-- a byte of a run doesn't end it
runs_on : (run : List ℕ) → All (λ b. (b ≢ space) × (b ≢ quote)) run → All (λ b. ends_run b ≡ false) run
runs_on run bare = All-weaker (λ b. (b ≢ space) × (b ≢ quote)) (λ b. ends_run b ≡ false) (λ b n. or_from (eqb b space) (eqb b quote) (ne_eqb b space n.0) (ne_eqb b quote n.1)) run bare

-- where a run ends
run_place : (run rest : List ℕ) → All (λ b. (b ≢ space) × (b ≢ quote)) run → ends_word rest ≡ true → position_or_len ends_run (run ++ rest) ≡ length run
run_place run [] bare ended = ap (position_or_len ends_run) (append-nil run) ∙ no_place ends_run run (runs_on run bare)
run_place run (b ∷ rest) bare ended = first_place ends_run run rest b (runs_on run bare) (or_left (eqb b space) (eqb b quote) ended)

-- the word that a run makes
bare_word_is : (run rest : List ℕ) → All (λ b. (b ≢ space) × (b ≢ quote)) run → ends_word rest ≡ true → bare_word (run ++ rest) ≡ Some (run, rest)
unfolding bare_word
bare_word_is run rest bare ended =
    let text = run ++ rest in
    ap (λ (end : ℕ). word_before (take end text) (drop end text)) (run_place run rest bare ended)
    ∙ ap (λ (word : List ℕ). word_before word (drop (length run) text)) (take_at run rest (length run) refl)
    ∙ ap (λ (left : List ℕ). word_before run left) (drop_at run rest (length run) refl)
    ∙ cond-true (ends_word rest) (Some (run, rest)) None ended

-- what a line spells by the rule are its words
words_from_rule : {text : List ℕ} {words : List (List ℕ)} → Spells text words → split_words text ≡ Some words
words_from_rule no_word = split_words-nil
words_from_rule (space_before {rest} {words} s) = split_words-space space rest refl ∙ words_from_rule s
words_from_rule (run_before {b} {run} {rest} {words} bare ended s) =
    let head = All-head (λ c. (c ≢ space) × (c ≢ quote)) b run bare in
    split_words-first b (run ++ rest) (b ∷ run) rest head.0
    (cond-false (eqb b quote) (quoted_word (run ++ rest)) (bare_word (b ∷ (run ++ rest))) (ne_eqb b quote head.1) ∙ bare_word_is (b ∷ run) rest bare ended)
    ∙ ap (option_map (λ (more : List (List ℕ)). (b ∷ run) ∷ more)) (words_from_rule s)
words_from_rule (quoted_before {inside} {rest} {words} unquoted ended s) =
    split_words-first quote (inside ++ quote ∷ rest) inside rest (λ e. omega arith) (quoted_word_is inside rest unquoted ended)
    ∙ ap (option_map (λ (more : List (List ℕ)). inside ∷ more)) (words_from_rule s)

-- a first word by the rule: with the words of the rest it makes the words of the text
abbrev IsRead : List ℕ → List ℕ × List ℕ → Type 0
IsRead text first = (words : List (List ℕ)) → Spells first.1 words → Spells text (first.0 ∷ words)

-- what holds of a value that is there
at_some : {A : Type 0} (P : A → Type 0) (o : Option A) → ((x : A) → o ≡ Some x → P x) → IfSome o P
at_some P None h = tt
at_some P (Some x) h = h x refl

-- a word between two quotes is read by the rule
quoted_read_at : (rest : List ℕ) (end : ℕ) → position is_quote rest ≡ Some end → ends_word (drop (end + 1) rest) ≡ true → IsRead (quote ∷ rest) (take end rest, drop (end + 1) rest)
quoted_read_at rest end e ended words s =
    let known = position-Some is_quote rest end 0 e in
    let parts : take end rest ++ quote ∷ drop (end + 1) rest ≡ rest =
    ap (λ (b : ℕ). take end rest ++ b ∷ drop (end + 1) rest) (sym (eqb-true (get_or rest end 0) quote known.1))
    ∙ ap (λ (t : List ℕ). take end rest ++ t) (sym (drop_more rest end 0 known.0)) ∙ take-append-drop end rest in
    let unquoted : All (λ b. b ≢ quote) (take end rest) =
    All-from_get_or (λ b. b ≢ quote) (take end rest) 0
    (λ i inside. let below : i < end = omega (arith, length-take end rest) in
    subst (λ b. b ≢ quote) (sym (get_or-take end rest i 0 below)) (eqb-false (get_or rest i 0) quote (known.2 i below))) in
    subst (λ t. Spells (quote ∷ t) (take end rest ∷ words)) parts (quoted_before unquoted ended s)

quoted_read : (rest : List ℕ) → IfSome (quoted_word rest) (IsRead (quote ∷ rest))
unfolding quoted_word
quoted_read rest =
    and_then_gives (λ end. word_before (take end rest) (drop (end + 1) rest)) (IsRead (quote ∷ rest)) (position is_quote rest)
    (at_some (λ end. IfSome (word_before (take end rest) (drop (end + 1) rest)) (IsRead (quote ∷ rest))) (position is_quote rest)
    (λ end e. word_before_gives (IsRead (quote ∷ rest)) (take end rest) (drop (end + 1) rest) (λ ended. quoted_read_at rest end e ended)))

-- a run is read by the rule
bare_read_at : (b : ℕ) (rest : List ℕ) (n : ℕ) → position_or_len ends_run (b ∷ rest) ≡ suc n → ends_word (drop n rest) ≡ true → IsRead (b ∷ rest) (b ∷ take n rest, drop n rest)
bare_read_at b rest n e ended words s =
    let bare : All (λ c. (c ≢ space) × (c ≢ quote)) (b ∷ take n rest) =
    All-from_get_or (λ c. (c ≢ space) × (c ≢ quote)) (b ∷ take n rest) 0
    (λ i inside. let below : i < suc n = omega (arith, length-take n rest) in
    let goes_on = or_parts (eqb (get_or (b ∷ rest) i 0) space) (eqb (get_or (b ∷ rest) i 0) quote) (fails_before_first ends_run (b ∷ rest) i 0 (omega (arith, e))) in
    subst (λ c. (c ≢ space) × (c ≢ quote)) (sym (get_or-take (suc n) (b ∷ rest) i 0 below))
    (eqb-false (get_or (b ∷ rest) i 0) space goes_on.0, eqb-false (get_or (b ∷ rest) i 0) quote goes_on.1)) in
    subst (λ t. Spells (b ∷ t) ((b ∷ take n rest) ∷ words)) (take-append-drop n rest) (run_before bare ended s)

bare_read : (b : ℕ) (rest : List ℕ) → ends_run b ≡ false → IfSome (bare_word (b ∷ rest)) (IsRead (b ∷ rest))
unfolding bare_word
bare_read b rest goes_on =
    let end = position_or_len ends_run (b ∷ rest) in
    let e : end ≡ suc (end - 1) = omega (arith, run_goes_on b rest goes_on) in
    word_before_gives (IsRead (b ∷ rest)) (take end (b ∷ rest)) (drop end (b ∷ rest))
    (subst (λ m. ends_word (drop m (b ∷ rest)) ≡ true → IsRead (b ∷ rest) (take m (b ∷ rest), drop m (b ∷ rest))) (sym e) (bare_read_at b rest (end - 1) e))

-- the first word is read by the rule
first_word_read : (b : ℕ) (rest : List ℕ) → b ≢ space → IfSome (first_word (b ∷ rest)) (IsRead (b ∷ rest))
first_word_read b rest not_space =
    cond_both (eqb b quote) (quoted_word rest) (bare_word (b ∷ rest)) (λ o. IfSome o (IsRead (b ∷ rest)))
    (λ e. subst (λ q. IfSome (quoted_word rest) (IsRead (q ∷ rest))) (sym (eqb-true b quote e)) (quoted_read rest))
    (λ e. bare_read b rest (or_from (eqb b space) (eqb b quote) (ne_eqb b space not_space) e))

-- the words of a text are what it spells by the rule
rule_from_words : (size : ℕ) (text : List ℕ) → IfSome (words_within size text) (Spells text)
rule_from_words zero [] = no_word
rule_from_words (suc size) [] = no_word
rule_from_words zero (b ∷ rest) = tt
rule_from_words (suc size) (b ∷ rest) =
    cond_both (eqb b space) (words_within size rest) (option_and_then (with_first size) (first_word (b ∷ rest))) (λ o. IfSome o (Spells (b ∷ rest)))
    (λ e. subst (λ c. IfSome (words_within size rest) (Spells (c ∷ rest))) (sym (eqb-true b space e))
    (IfSome_then (words_within size rest) (rule_from_words size rest) (λ words s. space_before s)))
    (λ not_space. and_then_gives (with_first size) (Spells (b ∷ rest)) (first_word (b ∷ rest))
    (IfSome_then (first_word (b ∷ rest)) (first_word_read b rest (eqb-false b space not_space))
    (λ first read. map_gives (λ more. first.0 ∷ more) (Spells first.1) (Spells (b ∷ rest)) (words_within size first.1) (rule_from_words size first.1) (λ more s. read more s))))

-- the words of a line are of printable bytes and by the rule
line_from_words : (line : List ℕ) → IfSome (words_of_line line) (λ words. All IsPrintable line × Spells line words)
unfolding words_of_line split_words
line_from_words line =
    cond_both (list_all is_printable line) (split_words line) None (λ o. IfSome o (λ words. All IsPrintable line × Spells line words))
    (λ printable. IfSome_then (words_within (length line) line) (rule_from_words (length line) line)
    (λ words s. (All-weaker (λ b. is_printable b ≡ true) IsPrintable is_printable-true line (AllPass-from_list_all is_printable line printable), s)))
    (λ _. tt)

-- the test of a printable byte
is_printable-from : (b : ℕ) → IsPrintable b → is_printable b ≡ true
is_printable-from b h = grind (arith, nat_tests)

-- the words of a line are those of the rule
pub words_of_rule : (line : List ℕ) → HasWordsOfRule line
words_of_rule line words = (
  λ e. subst (λ o. IfSome o (λ ws. All IsPrintable line × Spells line ws)) e (line_from_words line),
  λ h. words_of-printable line (list_all-from_AllPass is_printable line (All-weaker IsPrintable (λ b. is_printable b ≡ true) is_printable-from line h.0)) ∙ words_from_rule h.1,
)
