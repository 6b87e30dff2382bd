use Rattle.std.proofs.Common.{◌≡◌, ◌+◌, ℕ, length, refl, sym, ap, ◌∙◌, subst, inr, arith}
use Rattle.d64_history.specs.History.{History, present_image}
use Rattle.d64_undo.specs.SoundHistory.{IsSoundHistory}
use Rattle.d64_history.proofs.Sessions.{Holds, holds, cursor-is, some_left, beside-patch, holds-swapped, kind-swapped, length-swapped, places-swapped}
use Rattle.d64_undo.proofs.SoundHistories.{moved-sound}
use Rattle.d64_undo.proofs.session.Session.redo.Goals as goal
use Rattle.d64_undo.proofs.session.Session.redo.Goals.{After-self-2-1}

-- there is a record after the cursor
pub swap-requires-clause-within : goal.swap-requires-clause-within
swap-requires-clause-within c = some_left c.undone.result (holds c.self.invariant c.self.view_is) c.undone.ensures.count c.if-undone-eq0.false

-- the image has its blocks
pub swap-requires-clause-held : goal.swap-requires-clause-held
swap-requires-clause-held c =
    let h = holds c.self.invariant c.self.view_is in
    let n = c.self.inside.cursor.number in
    beside-patch n (n + 1) h (some_left c.undone.result h c.undone.ensures.count c.if-undone-eq0.false) (inr (refl, refl))

pub next-self-inside-requires-clause-within : goal.next-self-inside-requires-clause-within
next-self-inside-requires-clause-within c =
    let left = some_left c.undone.result (holds c.self.invariant c.self.view_is) c.undone.ensures.count c.if-undone-eq0.false in
    let long = length-swapped c.self.inside.records c.swap.new.self c.self.inside.image c.self.inside.cursor.number c.swap.ensures.patch in
    omega arith

pub next-self-inside-requires-clause-place : goal.next-self-inside-requires-clause-place
next-self-inside-requires-clause-place c =
    let n = c.self.inside.cursor.number in
    let left = some_left c.undone.result (holds c.self.invariant c.self.view_is) c.undone.ensures.count c.if-undone-eq0.false in
    c.self.invariant.2 ∙ sym (places-swapped c.self.inside.records c.swap.new.self c.self.inside.image n n left c.swap.ensures.patch)

-- what the session holds with the cursor after that record
stepped : (c : After-self-2-1)
    → Holds c.swap.new.self c.swap.new.image c.next-self-inside.result.number (record c.args.self.now { cursor = c.next-self-inside.result.number })
stepped c =
    let h = holds c.self.invariant c.self.view_is in
    holds-swapped c.swap.new.self c.swap.new.image c.self.inside.cursor.number c.next-self-inside.result.number h
    (some_left c.undone.result h c.undone.ensures.count c.if-undone-eq0.false) (inr (refl, c.next-self-inside.ensures.number))
    c.swap.ensures.patch c.swap.ensures.image

pub invariant_of-self : goal.invariant_of-self
invariant_of-self c = let h = stepped c in (h.within, h.lead, c.next-self-inside.ensures.blocks, λ known. absurd (cc), c.self.invariant.4)

-- the cursor is one image on
pub returns-clause-moved : goal.returns-clause-moved
returns-clause-moved c =
    let cursor = cursor-is (holds c.self.invariant c.self.view_is) in
    let next = c.next-self-inside.ensures.number in
    let on : c.next-self-inside.result.number ≡ c.args.self.now.cursor + 1 = omega arith in
    (stepped c).is ∙ ap (λ (k : ℕ). let moved : History = record c.args.self.now { cursor = k } in moved) on

pub returns-clause-kind : goal.returns-clause-kind
returns-clause-kind c =
    ap (λ (h : History). length (present_image h)) (stepped c).is
    ∙ kind-swapped c.self.inside.cursor.number (holds c.self.invariant c.self.view_is) (stepped c) c.swap.ensures.image

-- the images are the same
pub returns-clause-sound : goal.returns-clause-sound
returns-clause-sound c all =
    subst IsSoundHistory (sym (stepped c).is)
    (moved-sound c.args.self.now (record c.args.self.now { cursor = c.next-self-inside.result.number }) refl all)
