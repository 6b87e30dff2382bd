use Rattle.std.proofs.Common.{◌≡◌, ℕ, ◌*◌, List, [], ◌∷◌, ◌++◌, length, filter, sym, ap, ◌∙◌, arith}
use Rattle.std.specs.Prelude.{option_to_list}
use Rattle.std.specs.List.{range_with_len}
use Rattle.std.proofs.lemmas.List.{append-nil}
use Rattle.d64_g64.specs.Starts.{is_start, starts_on}
use Rattle.d64_g64.proofs.StartLists.{starts_more}
use Rattle.d64_g64.proofs.start.list_starts.Goals as goal
use Rattle.d64_g64.proofs.start.list_starts.Goals.{in-Some+in_ok-push-in-Some, in-None}

pub loop-at-preserved : goal.loop-at-preserved
loop-at-preserved c =
    let track = c.args.track.now in
    let at = c.loop-at.at in
    let so_far = filter (is_start track) (range_with_len 0 (8 * at)) in
    elim c.match-start_in.branch [
      | in-Some+in_ok-push-in-Some w ↦
          ap (λ v. v.items) w.starts-is ∙ w.in_ok-push-in-Some.ensures.items ∙ ap (λ (xs : List ℕ). xs ++ w.in-Some.start ∷ []) c.loop-at.invariant
          ∙ sym (starts_more track at ∙ ap (λ (xs : List ℕ). so_far ++ xs) (sym c.start_in.ensures ∙ ap option_to_list w.in-Some.is))
      | in-None w ↦
          ap (λ v. v.items) w.starts-is ∙ c.loop-at.invariant
          ∙ sym (starts_more track at ∙ ap (λ (xs : List ℕ). so_far ++ xs) (sym c.start_in.ensures ∙ ap option_to_list w.in-None.is) ∙ append-nil so_far)
    ]

pub returns : goal.returns
unfolding starts_on
returns c =
    let all : c.loop-at.at ≡ length c.args.track.now = omega (arith, c.loop-at-test.false, c.loop-at.auto.at-end) in
    c.loop-at.invariant ∙ ap (λ (x : ℕ). filter (is_start c.args.track.now) (range_with_len 0 (8 * x))) all
