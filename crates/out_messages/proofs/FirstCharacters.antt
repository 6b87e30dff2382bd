-- The first characters of a text, a byte at a time.
use Rattle.std.proofs.Common.{◌≡◌, ℕ, ◌+◌, ◌-◌, ◌<◌, ◌≤◌, ◌==◌, List, [], ◌∷◌, ◌++◌, length, take, drop, get_or, true, false, cond, refl, sym, ap, ◌∙◌, append_assoc, append-nil, arith}
use Rattle.std.proofs.lemmas.List.{take_more, drop_more, take_all, drop_all}
use Rattle.out_messages.specs.ShownStart.{begins_character, first_characters}

-- a byte that begins no character
same_cons : (count byte : ℕ) (rest : List ℕ) → begins_character byte ≡ false → first_characters count (byte ∷ rest) ≡ byte ∷ first_characters count rest
unfolding first_characters
same_cons count byte rest within = ap (λ t. cond t (cond (count == 0) [] (byte ∷ first_characters (count - 1) rest)) (byte ∷ first_characters count rest)) within

-- one that does
next_cons : (count byte : ℕ) (rest : List ℕ) → (count == 0) ≡ false → begins_character byte ≡ true → first_characters count (byte ∷ rest) ≡ byte ∷ first_characters (count - 1) rest
unfolding first_characters
next_cons count byte rest some begins =
    ap (λ t. cond t (cond (count == 0) [] (byte ∷ first_characters (count - 1) rest)) (byte ∷ first_characters count rest)) begins
    ∙ ap (λ t. cond t [] (byte ∷ first_characters (count - 1) rest)) some

end_cons : (byte : ℕ) (rest : List ℕ) → begins_character byte ≡ true → first_characters 0 (byte ∷ rest) ≡ []
unfolding first_characters
end_cons byte rest begins = ap (λ t. cond t [] (byte ∷ first_characters 0 rest)) begins

-- no text is left
pub none_left : (count : ℕ) (rest : List ℕ) → length rest ≡ 0 → first_characters count rest ≡ []
unfolding first_characters
none_left count [] none = refl
none_left count (byte ∷ rest) none = absurd (omega (arith, none))

-- what is left of the text is one byte less
one_less : (text whole : List ℕ) (place left next : ℕ) → place < length text
    → first_characters left (get_or text place 0 ∷ drop (place + 1) text) ≡ get_or text place 0 ∷ first_characters next (drop (place + 1) text)
    → take place text ++ first_characters left (drop place text) ≡ whole → take (place + 1) text ++ first_characters next (drop (place + 1) text) ≡ whole
one_less text whole place left next within step so =
    ap (λ (front : List ℕ). front ++ first_characters next (drop (place + 1) text)) (take_more text place 0 within)
    ∙ append_assoc (take place text) (get_or text place 0 ∷ []) (first_characters next (drop (place + 1) text))
    ∙ ap (λ (more : List ℕ). take place text ++ more) (sym (ap (first_characters left) (drop_more text place 0 within) ∙ step))
    ∙ so

pub other_byte : (text whole : List ℕ) (place left : ℕ) → place < length text → begins_character (get_or text place 0) ≡ false
    → take place text ++ first_characters left (drop place text) ≡ whole → take (place + 1) text ++ first_characters left (drop (place + 1) text) ≡ whole
other_byte text whole place left within continues so = one_less text whole place left left within (same_cons left (get_or text place 0) (drop (place + 1) text) continues) so

pub next_character : (text whole : List ℕ) (place left : ℕ) → place < length text → (left == 0) ≡ false → begins_character (get_or text place 0) ≡ true
    → take place text ++ first_characters left (drop place text) ≡ whole → take (place + 1) text ++ first_characters (left - 1) (drop (place + 1) text) ≡ whole
next_character text whole place left within some begins so =
    one_less text whole place left (left - 1) within (next_cons left (get_or text place 0) (drop (place + 1) text) some begins) so

-- no more characters are wanted
pub enough : (text whole : List ℕ) (place left : ℕ) → place < length text → left ≡ 0 → begins_character (get_or text place 0) ≡ true
    → take place text ++ first_characters left (drop place text) ≡ whole → take place text ≡ whole
enough text whole place left within none begins so =
    sym (append-nil (take place text))
    ∙ ap (λ (more : List ℕ). take place text ++ more) (sym (ap (λ (n : ℕ). first_characters n (drop place text)) none
    ∙ ap (first_characters 0) (drop_more text place 0 within) ∙ end_cons (get_or text place 0) (drop (place + 1) text) begins))
    ∙ so

-- all of the text
pub all_of : (text whole : List ℕ) (place left : ℕ) → length text ≤ place → take place text ++ first_characters left (drop place text) ≡ whole → text ≡ whole
all_of text whole place left past so =
    sym (take_all place text past) ∙ sym (append-nil (take place text))
    ∙ ap (λ (more : List ℕ). take place text ++ more) (sym (none_left left (drop place text) (ap length (drop_all place text past))))
    ∙ so
