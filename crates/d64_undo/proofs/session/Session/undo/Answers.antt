use Rattle.std.proofs.Common.{◌≡◌, ◌-◌, ℕ, length, refl, sym, ap, ◌∙◌, subst, inl, arith}
use Rattle.d64_history.specs.History.{History, present_image}
use Rattle.d64_undo.specs.SoundHistory.{IsSoundHistory}
use Rattle.d64_history.proofs.Sessions.{Holds, holds, cursor-is, beside-patch, holds-swapped, kind-swapped, places-swapped}
use Rattle.d64_undo.proofs.SoundHistories.{moved-sound}
use Rattle.d64_undo.proofs.session.Session.undo.Goals as goal
use Rattle.d64_undo.proofs.session.Session.undo.Goals.{After-self-1}

-- the image has the blocks of the record before the cursor
pub swap-requires-clause-held : goal.swap-requires-clause-held
swap-requires-clause-held c =
    let n = c.previous-before.result.number in
    let before = c.previous-before.ensures.number in
    let within = c.self.invariant.0 in
    beside-patch n n (holds c.self.invariant c.self.view_is) (omega arith) (inl (sym before, refl))

-- what the session holds with the cursor before that record
stepped : (c : After-self-1)
    → Holds c.swap.new.self c.swap.new.image c.previous-before.result.number (record c.args.self.now { cursor = c.previous-before.result.number })
stepped c =
    let n = c.previous-before.result.number in
    let before = c.previous-before.ensures.number in
    let within = c.self.invariant.0 in
    holds-swapped c.swap.new.self c.swap.new.image n n (holds c.self.invariant c.self.view_is) (omega arith) (inl (sym before, refl))
    c.swap.ensures.patch c.swap.ensures.image

pub invariant_of-self : goal.invariant_of-self
invariant_of-self c =
    let h = stepped c in
    let n = c.previous-before.result.number in
    let before = c.previous-before.ensures.number in
    let within = c.self.invariant.0 in (
      h.within,
      h.lead,
      c.previous-before.ensures.blocks
          ∙ sym (places-swapped c.self.inside.records c.swap.new.self c.self.inside.image n n (omega arith) c.swap.ensures.patch),
      λ known. absurd (cc),
      c.self.invariant.4,
    )

-- the cursor is one image back
pub returns-clause-moved : goal.returns-clause-moved
returns-clause-moved c =
    let n = c.previous-before.result.number in
    let before = c.previous-before.ensures.number in
    let cursor = cursor-is (holds c.self.invariant c.self.view_is) in
    let back : n ≡ c.args.self.now.cursor - 1 = omega arith in
    (stepped c).is ∙ ap (λ (k : ℕ). let moved : History = record c.args.self.now { cursor = k } in moved) back

pub returns-clause-kind : goal.returns-clause-kind
returns-clause-kind c =
    ap (λ (h : History). length (present_image h)) (stepped c).is
    ∙ kind-swapped c.previous-before.result.number (holds c.self.invariant c.self.view_is) (stepped c) c.swap.ensures.image

-- the images are the same
pub returns-clause-sound : goal.returns-clause-sound
returns-clause-sound c all =
    subst IsSoundHistory (sym (stepped c).is)
    (moved-sound c.args.self.now (record c.args.self.now { cursor = c.previous-before.result.number }) refl all)
