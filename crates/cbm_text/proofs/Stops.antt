-- Texts that crunch up to a byte.
use Rattle.std.proofs.Common.{◌≡◌, ℕ, List, [], ◌∷◌, ◌++◌, Some, None, refl, subst, append-nil}
use Rattle.cbm_text.specs.declared.mode.Mode.{Mode}
use Rattle.cbm_text.specs.declared.mode.Mode.TheVariants.{Free}
use Rattle.cbm_text.specs.Modes.{first_code, next_mode}
use Rattle.cbm_text.specs.Causes.{StopsAfter}

-- one crunched byte more
pub stops_one : (mode : Mode) (text : List ℕ) (code : ℕ) (rest codes left : List ℕ) → first_code mode text ≡ Some (code, rest) → StopsAfter (next_mode mode code) rest codes left → StopsAfter mode text (code ∷ codes) left
unfolding StopsAfter
stops_one mode text code rest codes left first stops = (rest, first, stops)

-- no byte is left
stops_here : (mode : Mode) (text : List ℕ) → first_code mode text ≡ None → StopsAfter mode text [] text
unfolding StopsAfter
stops_here mode text none = (none, refl)

-- so the whole stops if what is left does
pub stops_now : (mode : Mode) (bytes done left : List ℕ) → ((codes rest : List ℕ) → StopsAfter mode left codes rest → StopsAfter Free bytes (done ++ codes) rest) → first_code mode left ≡ None
    → (codes : List ℕ) × StopsAfter Free bytes codes left
stops_now mode bytes done left goes none =
    (done, subst (λ (w : List ℕ). StopsAfter Free bytes w left) (append-nil done) (goes [] left (stops_here mode left none)))
