-- What may be said beside a line, by what was found.
use Rattle.std.proofs.Common.{◌≡◌, ℕ, List, [], Option, None, Some, Result, Ok, Err, inl, inr, sym, subst}
use Rattle.std.specs.Option.{option_map_or, option_map}
use Rattle.std.specs.Result.{IfOk, result_unwrap_or}
use Rattle.d64_image.specs.Disk.{Disk}
use Rattle.script_lines.specs.declared.status.Status.{Status}
use Rattle.script_advice.specs.Found.{IsDefaultName}
use Rattle.script_advice.specs.LineParts.{parts_of_line}
use Rattle.script_advice.specs.Remark.{IsRemark}
use Rattle.script_hints.specs.Observed.{MayRemark, shown_raw_text}
use Rattle.script_hints.specs.Kept.{MayBeDefault}

-- the name under which `read` stores by default
pub may_be_default : {V E : Type 0} (items : V → List ℕ) (image : Disk) (argument name : List ℕ) (found : Result (Option V) E)
    → IfOk found (λ name. IsDefaultName image argument (option_map items name)) → name ≡ option_map_or items (result_unwrap_or found None) []
    → MayBeDefault image argument name
may_be_default items image argument name (Ok (Some one)) is same = inl (subst (λ (text : List ℕ). IsDefaultName image argument (Some text)) (sym same) is)
may_be_default items image argument name (Ok None) is same = inr same
may_be_default items image argument name (Err fault) is same = inr same

-- what else is said
pub may_remark : {V E : Type 0} (items : V → List ℕ) (raw : List ℕ) (status : Status) (image : Disk) (files : ℕ) (found : Result V E) (nothing : V)
    → IfOk found (λ line. IsRemark (shown_raw_text raw []) (parts_of_line raw) status image files (items line)) → items nothing ≡ []
    → MayRemark raw status image files (items (result_unwrap_or found nothing))
may_remark items raw status image files (Ok line) nothing is empty = inr is
may_remark items raw status image files (Err fault) nothing is empty = inl empty
