-- The beginning of the explanation of a refused line, by what was found.
use Rattle.std.proofs.Common.{◌≡◌, ℕ, Bool, true, List, Option, None, Some, IfSome, ◌∙◌, inl, inr, codes}
use Rattle.std.specs.Option.{option_map_or}
use Rattle.script_text.specs.HeldLine.{HoldsText}
use Rattle.script_text.specs.declared.held_line.HeldLine.{HeldLine}
use Rattle.script_hints.specs.Observed.{MayStart, shown_raw_text}
use Rattle.script_hints.specs.LineStart.{line_start}

pub may_start : {V : Type 0} (items : V → List ℕ) (line : HeldLine) (is_numbered : Bool) (number : ℕ) (first raw start : List ℕ) (found : Option V)
    → IfSome found (λ v. (is_numbered ≡ true) × ((raw : List ℕ) → HoldsText line raw → items v ≡ line_start number (shown_raw_text raw first)))
    → HoldsText line raw → start ≡ option_map_or items found (codes "d64sh: ") → MayStart is_numbered number (shown_raw_text raw first) start
may_start items line is_numbered number first raw start None shows says is = inl is
may_start items line is_numbered number first raw start (Some v) shows says is = inr (shows.0, is ∙ shows.1 raw says)
