use Rattle.std.proofs.Common.{ℕ, List, ◌++◌, length, ap, ap₂, ◌∙◌}
use Rattle.std.specs.List.{flat_map, range_with_len}
use Rattle.d64_survey.specs.ReadErrors.{read_error_at, read_errors}
use Rattle.d64_survey.specs.declared.read_error.ReadError.{ReadError}
use Rattle.d64_survey.proofs.dump.Dump.list_read_errors.Goals as goal

pub loop-block-init : goal.loop-block-init
unfolding read_errors
loop-block-init c =
    ap₂ (λ (l : List ReadError) (bs : List ℕ). l ++ flat_map (read_error_at c.args.self.now.codes) bs) c.clear.ensures.items
    (c.into_iter-block-iterator.ensures.into_iter_gives ∙ c.blocks-block-items.ensures.value ∙ ap (λ (i : List (List ℕ)). range_with_len 0 (length i)) c.image.ensures.value)
