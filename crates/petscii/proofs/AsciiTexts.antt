-- The text form of bytes is ASCII.
use Rattle.std.proofs.Common.{◌≡◌, ℕ, ◌<◌, Bool, true, List, [], ◌∷◌, All, refl, arith}
use Rattle.std.specs.Prelude.{nat_lt}
use Rattle.std.specs.List.{list_all}
use Rattle.std.proofs.lemmas.Bool.{agree_below_at, ltb-true}
use Rattle.std.proofs.lemmas.List.Elements.{All-head, All-tail, All-append}
use Rattle.std.proofs.lemmas.List.Sums.{AllPass-from_list_all}
use Rattle.petscii.specs.ControlNames.{control_names, control_name}
use Rattle.petscii.specs.Spelling.{character, character_ranges, hex_digit, spell, spelling}

-- whether all bytes are ASCII
abbrev are_ascii : List ℕ → Bool
are_ascii text = list_all (λ byte. nat_lt byte 128) text

-- the text of a byte, by a test of all 256
spell-ascii : (byte : ℕ) → byte < 256 → are_ascii (spell byte) ≡ true
unfolding spell character character_ranges control_name control_names hex_digit
spell-ascii byte small = agree_below_at (λ b. are_ascii (spell b)) (λ _. true) 256 byte refl small

-- bytes that pass the test
from_test : (text : List ℕ) → are_ascii text ≡ true → All (λ byte. byte < 128) text
from_test text passes = λ k d within. ltb-true _ _ (AllPass-from_list_all (λ byte. nat_lt byte 128) text passes k d within)

-- the text of bytes
pub spelling-ascii : (bytes : List ℕ) → All (λ byte. byte < 256) bytes → All (λ byte. byte < 128) (spelling bytes)
unfolding spelling
spelling-ascii [] small = λ k d within. absurd (omega arith)
spelling-ascii (byte ∷ bytes) small =
    All-append (λ b. b < 128) (spell byte) (spelling bytes) (from_test (spell byte) (spell-ascii byte (All-head (λ b. b < 256) byte bytes small)))
    (spelling-ascii bytes (All-tail (λ b. b < 256) byte bytes small))
