use Rattle.std.proofs.Common.{◌≡◌, Bor, List, ℕ, ap, map, not, sym, ◌∙◌}
use Rattle.program_tips.specs.Meant.{has_path_like, is_path_like}
use Rattle.program_tips.proofs.Arguments.{any_of_text}
use Rattle.program_tips.proofs.meant.may_be_image.Goals as goal

-- none of the arguments looks like a path if none of their texts does
pub returns-else-is_path_like : goal.returns-else-is_path_like
returns-else-is_path_like c =
    let texts : c.has_path_like.result ≡ has_path_like (map (λ argument. argument.now) c.args.rest.now) =
    c.has_path_like.ensures ∙ any_of_text (λ (argument : Bor (List ℕ)). argument.now) is_path_like c.args.rest.now in
    rw (sym c.is_option.ensures ∙ c.if-not-is_option.true, sym c.is_path_like.ensures ∙ c.if-is_path_like.false) (ap not texts)
