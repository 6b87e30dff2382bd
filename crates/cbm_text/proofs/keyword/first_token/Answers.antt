use Rattle.std.proofs.Common.{List, ℕ, refl, sym, ◌∙◌, ap}
use Rattle.cbm_text.proofs.Keywords.{first_of, nothing_begins, token_by_first}
use Rattle.cbm_text.proofs.keyword.first_token.Goals as goal

pub returns-in_default : goal.returns-in_default
returns-in_default c = nothing_begins c.args.text.now c.in_default.len_below

pub loop-token-init : goal.loop-token-init
loop-token-init c =
    let text = c.args.text.now in
    token_by_first text _ c.in-len1-up.len_at_least refl ∙ ap (λ (w : List ℕ). first_of w text) (sym c.tokens_of-token-items.ensures)
