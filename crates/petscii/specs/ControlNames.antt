-- The control codes that have a name in the text form.
use Rattle.std.specs.Prelude.{ℕ, List, [], ◌∷◌, Option, Some, None, ◌==◌, if◌then◌else◌, codes}

-- The machine's control codes, each with its name in braces.
unfoldable pub control_names : List (ℕ × List ℕ)
control_names =
    (0x05, codes "wht") ∷ (0x0e, codes "swlc") ∷ (0x11, codes "down") ∷ (0x12, codes "rvon")
    ∷ (0x13, codes "home") ∷ (0x14, codes "del") ∷ (0x1c, codes "red") ∷ (0x1d, codes "rght")
    ∷ (0x1e, codes "grn") ∷ (0x1f, codes "blu") ∷ (0x81, codes "orng") ∷ (0x8e, codes "swuc")
    ∷ (0x90, codes "blk") ∷ (0x91, codes "up") ∷ (0x92, codes "rvof") ∷ (0x93, codes "clr")
    ∷ (0x94, codes "inst") ∷ (0x95, codes "brn") ∷ (0x96, codes "lred") ∷ (0x97, codes "gry1")
    ∷ (0x98, codes "gry2") ∷ (0x99, codes "lgrn") ∷ (0x9a, codes "lblu") ∷ (0x9b, codes "gry3")
    ∷ (0x9c, codes "pur") ∷ (0x9d, codes "left") ∷ (0x9e, codes "yel") ∷ (0x9f, codes "cyn") ∷ []

-- The name in the first row of a code.
abbrev pub control_name_in : List (ℕ × List ℕ) → ℕ → Option (List ℕ)
control_name_in [] code = None
control_name_in (row ∷ rows) code = if code == row.0 then Some row.1 else control_name_in rows code

-- The name of a control code.
unfoldable pub control_name : ℕ → Option (List ℕ)
control_name code = control_name_in control_names code
