-- The words of a line, one after another.
use Rattle.std.proofs.Common.{◌≡◌, ◌≢◌, ℕ, zero, suc, ◌+◌, ◌-◌, ◌<◌, ◌≤◌, Bool, true, false, cond, not, eqb, List, [], ◌∷◌, length, take, drop, position, Option, Some, None, option_map, option_and_then, unwrap_or, refl, sym, ap, subst, ◌∙◌, arith, length-drop}
use Rattle.std.specs.List.{All, list_all, position_or_len, prefix_len}
use Rattle.std.specs.Option.{IfSome}
use Rattle.std.proofs.lemmas.Bool.{cond_both, cond-true, cond-false, eqb-true, eqb-false, eq-eqb, ne_eqb, or_from, not_from_false}
use Rattle.std.proofs.lemmas.Bool.Decides.{nat_tests}
use Rattle.std.proofs.lemmas.List.Elements.{All-nil, All-cons, All-tail, All-take, All-drop, All-weaker}
use Rattle.std.proofs.lemmas.List.Sums.{AllPass-from_list_all}
use Rattle.std.proofs.lemmas.Option.{IfSome_then, none-some}
use Rattle.script_text.specs.Words.{space, quote, IsPrintable, is_printable, is_quote, ends_run, ends_word, word_before, quoted_word, bare_word, first_word, words_within, split_words, words_left, words_of_line}

-- what is known of a word with which a text begins, and of the rest of the line
pub record IsFirstWord (text : List ℕ) (first : List ℕ × List ℕ) : Type 0 where
  pub shorter : length first.1 < length text
  pub ended : ends_word first.1 ≡ true
  pub printable_word : All IsPrintable text → All IsPrintable first.0
  pub printable_rest : All IsPrintable text → All IsPrintable first.1

-- a word before a rest, if it may end there
pub word_before_gives : (P : List ℕ × List ℕ → Type 0) (word rest : List ℕ) → (ends_word rest ≡ true → P (word, rest)) → IfSome (word_before word rest) P
word_before_gives P word rest h = cond_both (ends_word rest) (Some (word, rest)) None (λ o. IfSome o P) h (λ _. tt)

-- a chain of two steps
pub and_then_gives : {A B : Type 0} (f : A → Option B) (Q : B → Type 0) (o : Option A) → IfSome o (λ x. IfSome (f x) Q) → IfSome (option_and_then f o) Q
and_then_gives f Q None h = tt
and_then_gives f Q (Some x) h = h

-- a step and then a function
pub map_gives : {A B : Type 0} (f : A → B) (P : A → Type 0) (Q : B → Type 0) (o : Option A) → IfSome o P → ((x : A) → P x → Q (f x)) → IfSome (option_map f o) Q
map_gives f P Q None h g = tt
map_gives f P Q (Some x) h g = g x h

-- what holds of each value holds of that of an option
each_gives : {A : Type 0} (P : A → Type 0) (o : Option A) → ((x : A) → P x) → IfSome o P
each_gives P None h = tt
each_gives P (Some x) h = h x

-- a quoted word
quoted_gives : (rest : List ℕ) → IfSome (quoted_word rest) (IsFirstWord (quote ∷ rest))
unfolding quoted_word
quoted_gives rest =
    and_then_gives (λ end. word_before (take end rest) (drop (end + 1) rest)) (IsFirstWord (quote ∷ rest)) (position is_quote rest)
    (each_gives (λ end. IfSome (word_before (take end rest) (drop (end + 1) rest)) (IsFirstWord (quote ∷ rest))) (position is_quote rest)
    (λ end. word_before_gives (IsFirstWord (quote ∷ rest)) (take end rest) (drop (end + 1) rest) (λ ended. record {
      shorter = omega (arith, length-drop (end + 1) rest);
      ended = ended;
      printable_word = λ h. All-take IsPrintable end rest (All-tail IsPrintable quote rest h);
      printable_rest = λ h. All-drop IsPrintable (end + 1) rest (All-tail IsPrintable quote rest h);
    })))

-- a run of bytes is not empty if its first byte doesn't end it
pub run_goes_on : (b : ℕ) (rest : List ℕ) → ends_run b ≡ false → 0 < position_or_len ends_run (b ∷ rest)
run_goes_on b rest goes_on = subst (λ t. 0 < cond t (1 + prefix_len (λ x. not (ends_run x)) rest) 0) (sym (not_from_false (ends_run b) goes_on)) (omega arith)

-- a bare word
bare_gives : (b : ℕ) (rest : List ℕ) → ends_run b ≡ false → IfSome (bare_word (b ∷ rest)) (IsFirstWord (b ∷ rest))
unfolding bare_word
bare_gives b rest goes_on =
    let end = position_or_len ends_run (b ∷ rest) in
    word_before_gives (IsFirstWord (b ∷ rest)) (take end (b ∷ rest)) (drop end (b ∷ rest)) (λ ended. record {
      shorter = omega (arith, length-drop end (b ∷ rest), run_goes_on b rest goes_on);
      ended = ended;
      printable_word = λ h. All-take IsPrintable end (b ∷ rest) h;
      printable_rest = λ h. All-drop IsPrintable end (b ∷ rest) h;
    })

-- the first word of a text that doesn't begin with a space
pub first_word_gives : (b : ℕ) (rest : List ℕ) → b ≢ space → IfSome (first_word (b ∷ rest)) (IsFirstWord (b ∷ rest))
first_word_gives b rest not_space =
    cond_both (eqb b quote) (quoted_word rest) (bare_word (b ∷ rest)) (λ o. IfSome o (IsFirstWord (b ∷ rest)))
    (λ e. subst (λ q. IfSome (quoted_word rest) (IsFirstWord (q ∷ rest))) (sym (eqb-true b quote e)) (quoted_gives rest))
    (λ e. bare_gives b rest (or_from (eqb b space) (eqb b quote) (ne_eqb b space not_space) e))

-- the words of a line from a first word on
abbrev pub with_first : ℕ → List ℕ × List ℕ → Option (List (List ℕ))
with_first size first = option_map (λ more. first.0 ∷ more) (words_within size first.1)

-- two functions that agree where they are called
and_then_same : {A B : Type 0} (f g : A → Option B) (o : Option A) → IfSome o (λ x. f x ≡ g x) → option_and_then f o ≡ option_and_then g o
and_then_same f g None h = refl
and_then_same f g (Some x) h = h

-- two choices with equal branches
cond_same : {A : Type 0} (t : Bool) (x y z w : A) → (t ≡ true → x ≡ z) → (t ≡ false → y ≡ w) → cond t x y ≡ cond t z w
cond_same true x y z w h k = h refl
cond_same false x y z w h k = k refl

-- the words don't depend on the size, if the text has no more bytes
words_within_enough : (m n : ℕ) (text : List ℕ) → length text ≤ m → length text ≤ n → words_within m text ≡ words_within n text
words_within_enough zero zero [] h k = refl
words_within_enough zero (suc n) [] h k = refl
words_within_enough (suc m) zero [] h k = refl
words_within_enough (suc m) (suc n) [] h k = refl
words_within_enough zero n (b ∷ rest) h k = absurd (omega arith)
words_within_enough (suc m) zero (b ∷ rest) h k = absurd (omega arith)
words_within_enough (suc m) (suc n) (b ∷ rest) h k =
    cond_same (eqb b space) (words_within m rest) (option_and_then (with_first m) (first_word (b ∷ rest))) (words_within n rest) (option_and_then (with_first n) (first_word (b ∷ rest)))
    (λ _. words_within_enough m n rest (omega arith) (omega arith))
    (λ not_space. and_then_same (with_first m) (with_first n) (first_word (b ∷ rest))
    (IfSome_then (first_word (b ∷ rest)) (first_word_gives b rest (eqb-false b space not_space))
    (λ first gives. ap (λ words. option_map (λ more. first.0 ∷ more) words)
    (words_within_enough m n first.1 (omega (arith, gives.shorter)) (omega (arith, gives.shorter))))))

-- a space is passed over
pub split_words-space : (b : ℕ) (rest : List ℕ) → b ≡ space → split_words (b ∷ rest) ≡ split_words rest
unfolding split_words
split_words-space b rest e = subst (λ c. words_within (suc (length rest)) (c ∷ rest) ≡ words_within (length rest) rest) (sym e) refl

-- a word is taken
pub split_words-first : (b : ℕ) (rest word left : List ℕ) → b ≢ space → first_word (b ∷ rest) ≡ Some (word, left) → split_words (b ∷ rest) ≡ option_map (λ more. word ∷ more) (split_words left)
unfolding split_words
split_words-first b rest word left not_space e =
    let gives : IsFirstWord (b ∷ rest) (word, left) = subst (λ o. IfSome o (IsFirstWord (b ∷ rest))) e (first_word_gives b rest not_space) in
    cond-false (eqb b space) (words_within (length rest) rest) (option_and_then (with_first (length rest)) (first_word (b ∷ rest))) (ne_eqb b space not_space)
    ∙ ap (option_and_then (with_first (length rest))) e
    ∙ ap (λ words. option_map (λ more. word ∷ more) words) (words_within_enough (length rest) (length left) left (omega (arith, gives.shorter)) (omega arith))

-- a misplaced quote
pub split_words-none : (b : ℕ) (rest : List ℕ) → b ≢ space → first_word (b ∷ rest) ≡ None → split_words (b ∷ rest) ≡ None
unfolding split_words
split_words-none b rest not_space e =
    cond-false (eqb b space) (words_within (length rest) rest) (option_and_then (with_first (length rest)) (first_word (b ∷ rest))) (ne_eqb b space not_space)
    ∙ ap (option_and_then (with_first (length rest))) e

-- no words are left
pub split_words-nil : split_words [] ≡ Some []
unfolding split_words
split_words-nil = refl

-- the words of a line of printable bytes
pub words_of-printable : (line : List ℕ) → list_all is_printable line ≡ true → words_of_line line ≡ split_words line
unfolding words_of_line
words_of-printable line printable = cond-true (list_all is_printable line) (split_words line) None printable

-- a line with another byte
pub words_of-none : (line : List ℕ) → list_all is_printable line ≡ false → words_of_line line ≡ None
unfolding words_of_line
words_of-none line not_printable = cond-false (list_all is_printable line) (split_words line) None not_printable

-- the bytes of the words are bytes of the line
words_within_printable : (size : ℕ) (text : List ℕ) → All IsPrintable text → IfSome (words_within size text) (All (All IsPrintable))
words_within_printable zero [] h = All-nil (All IsPrintable)
words_within_printable (suc size) [] h = All-nil (All IsPrintable)
words_within_printable zero (b ∷ rest) h = tt
words_within_printable (suc size) (b ∷ rest) h =
    cond_both (eqb b space) (words_within size rest) (option_and_then (with_first size) (first_word (b ∷ rest))) (λ o. IfSome o (All (All IsPrintable)))
    (λ _. words_within_printable size rest (All-tail IsPrintable b rest h))
    (λ not_space. and_then_gives (with_first size) (All (All IsPrintable)) (first_word (b ∷ rest))
    (IfSome_then (first_word (b ∷ rest)) (first_word_gives b rest (eqb-false b space not_space))
    (λ first gives. map_gives (λ more. first.0 ∷ more) (All (All IsPrintable)) (All (All IsPrintable)) (words_within size first.1)
    (words_within_printable size first.1 (gives.printable_rest h))
    (λ more all. All-cons (All IsPrintable) first.0 more (gives.printable_word h) all))))

-- the test of a byte
pub is_printable-true : (b : ℕ) → is_printable b ≡ true → IsPrintable b
is_printable-true b h = grind (arith, nat_tests)

-- the words of a line have only printable bytes
words_of-all_printable : (line : List ℕ) → IfSome (words_of_line line) (All (All IsPrintable))
unfolding words_of_line split_words
words_of-all_printable line =
    cond_both (list_all is_printable line) (split_words line) None (λ o. IfSome o (All (All IsPrintable)))
    (λ printable. words_within_printable (length line) line
    (All-weaker (λ b. is_printable b ≡ true) IsPrintable is_printable-true line (AllPass-from_list_all is_printable line printable)))
    (λ _. tt)

-- a word and the words after it, counted
count_with_first : (n : ℕ) (word : List ℕ) (more : Option (List (List ℕ))) → option_map (λ m. n + m) (option_map length (option_map (λ ws. word ∷ ws) more)) ≡ option_map (λ m. (n + 1) + m) (option_map length more)
count_with_first n word None = refl
count_with_first n word (Some ws) = ap Some (omega arith)

-- the words so far and those of the rest, counted, when a space is passed over
pub count_so_far-space : (n : ℕ) (all : Option ℕ) (b : ℕ) (text after : List ℕ) → text ≡ b ∷ after → b ≡ space → option_map (λ m. n + m) (option_map length (split_words text)) ≡ all → option_map (λ m. n + m) (option_map length (split_words after)) ≡ all
count_so_far-space n all b text after e is_space h =
    ap (λ words. option_map (λ m. n + m) (option_map length words)) (sym (ap split_words e ∙ split_words-space b after is_space)) ∙ h

-- the same when a word is taken
pub count_so_far-first : (n : ℕ) (all : Option ℕ) (b : ℕ) (text after word left : List ℕ) → text ≡ b ∷ after → b ≢ space → first_word text ≡ Some (word, left) → option_map (λ m. n + m) (option_map length (split_words text)) ≡ all → option_map (λ m. (n + 1) + m) (option_map length (split_words left)) ≡ all
count_so_far-first n all b text after word left e not_space first h =
    sym (count_with_first n word (split_words left))
    ∙ ap (λ words. option_map (λ m. n + m) (option_map length words)) (sym (ap split_words e ∙ split_words-first b after word left not_space (ap first_word (sym e) ∙ first))) ∙ h

-- the same at a misplaced quote
pub count_so_far-none : (n : ℕ) (all : Option ℕ) (b : ℕ) (text after : List ℕ) → text ≡ b ∷ after → b ≢ space → first_word text ≡ None → option_map (λ m. n + m) (option_map length (split_words text)) ≡ all → None ≡ all
count_so_far-none n all b text after e not_space first h =
    ap (λ words. option_map (λ m. n + m) (option_map length words)) (sym (ap split_words e ∙ split_words-none b after not_space (ap first_word (sym e) ∙ first))) ∙ h

-- the same at the end
pub count_so_far-nil : (n : ℕ) (all : Option ℕ) (text : List ℕ) → text ≡ [] → option_map (λ m. n + m) (option_map length (split_words text)) ≡ all → Some n ≡ all
count_so_far-nil n all text e h =
    ap Some (omega arith) ∙ ap (λ words. option_map (λ m. n + m) (option_map length words)) (sym (ap split_words e ∙ split_words-nil)) ∙ h

-- an option that has a length has a value
counted : (words : Option (List (List ℕ))) (n : ℕ) → option_map length words ≡ Some n → words ≡ Some (unwrap_or words [])
counted None n h = absurd (none-some n h)
counted (Some ws) n h = refl

-- the words of a text whose words were counted
words_left-counted : (text : List ℕ) (n : ℕ) → option_map length (split_words text) ≡ Some n → split_words text ≡ Some (words_left text)
words_left-counted text n h = counted (split_words text) n h

-- the words of a line of printable bytes are those that are left of a walk along it
pub line_words : (line : List ℕ) (n : ℕ) → list_all is_printable line ≡ true → option_map length (split_words line) ≡ Some n → Some (words_left line) ≡ words_of_line line
line_words line n printable h = sym (words_of-printable line printable ∙ words_left-counted line n h)

-- and their bytes are printable
pub line_words-printable : (line : List ℕ) (words : List (List ℕ)) → Some words ≡ words_of_line line → All (All IsPrintable) words
line_words-printable line words e = subst (λ o. IfSome o (All (All IsPrintable))) (sym e) (words_of-all_printable line)

-- what is known of the first word, if it was found
pub first_word_known : (b : ℕ) (text after word left : List ℕ) → text ≡ b ∷ after → b ≢ space → first_word text ≡ Some (word, left) → IsFirstWord text (word, left)
first_word_known b text after word left e not_space first =
    subst (λ o. IfSome o (IsFirstWord text)) first (subst (λ t. IfSome (first_word t) (IsFirstWord t)) (sym e) (first_word_gives b after not_space))

-- what a walk has at a text whose spaces were passed over: a word, and the words of the rest
pub record IsWordThen (text : List ℕ) (n : ℕ) (word rest : List ℕ) : Type 0 where
  pub words : words_left text ≡ word ∷ words_left rest
  pub count : option_map length (split_words rest) ≡ Some (n - 1)
  pub more : 0 < n

-- a word onto words that were counted
word_then : (words more : Option (List (List ℕ))) (word : List ℕ) (n : ℕ) → words ≡ option_map (λ ws. word ∷ ws) more → option_map length words ≡ Some n
    → (unwrap_or words [] ≡ word ∷ unwrap_or more []) × (option_map length more ≡ Some (n - 1)) × (0 < n)
word_then words None word n e h = absurd (none-some n (ap (option_map length) (sym e) ∙ h))
word_then words (Some ws) word n e h =
    let count : suc (length ws) ≡ n = ap (λ o. unwrap_or o 0) (ap (option_map length) (sym e) ∙ h) in
    (ap (λ o. unwrap_or o []) e, ap Some (omega (arith, count)), omega (arith, count))

-- a text that is left where a word can end does not begin with a space
not_at_space : (b : ℕ) (after : List ℕ) → (ends_word (b ∷ after) ≡ true → b ∷ after ≡ []) → b ≢ space
not_at_space b after begun e = omega (arith, ap length (begun (eq-eqb b space e)))

pub next_word : (text after word rest : List ℕ) (n : ℕ) → split_words after ≡ split_words text → (ends_word after ≡ true → after ≡ []) → first_word after ≡ Some (word, rest)
    → option_map length (split_words text) ≡ Some n → IsWordThen text n word rest
next_word text [] word rest n same begun found h = absurd (none-some (word, rest) found)
next_word text (b ∷ after) word rest n same begun found h =
    let not_space : b ≢ space = not_at_space b after begun in
    let then_words = word_then (split_words text) (split_words rest) word n (sym same ∙ split_words-first b after word rest not_space found) h in
    record { words = then_words.0; count = then_words.1; more = then_words.2 }

-- and there is no word if the text begins with none
pub no_next_word : (text after : List ℕ) (n : ℕ) → split_words after ≡ split_words text → (ends_word after ≡ true → after ≡ []) → first_word after ≡ None
    → option_map length (split_words text) ≡ Some n → words_left text ≡ []
no_next_word text [] n same begun found h = ap (λ o. unwrap_or o []) (sym same ∙ split_words-nil)
no_next_word text (b ∷ after) n same begun found h =
    let not_space : b ≢ space = not_at_space b after begun in
    absurd (none-some n (ap (option_map length) (sym (sym same ∙ split_words-none b after not_space found)) ∙ h))
