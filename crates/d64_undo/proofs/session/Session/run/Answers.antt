use Rattle.std.proofs.Common.{arith, rules, ◌≡◌, ◌++◌, ◌∷◌, [], List, ℕ, length, take, sym, ap, ◌∙◌, subst}
use Rattle.d64_dos.specs.Change.{change_of}
use Rattle.d64_dos.specs.Command.{image_after, refusal_of, reply_to, IsWithin}
use Rattle.d64_dos.specs.Refusal.{refused_by}
use Rattle.d64_dos.specs.Step.{Leaves}
use Rattle.d64_dos.proofs.Steps.{starts_from_sound}
use Rattle.d64_effects.specs.View.{IsSound}
use Rattle.d64_image.specs.Patch.{RisesBetween}
use Rattle.d64_image.specs.PatchList.{blocks_before}
use Rattle.d64_image.proofs.Patches.{rises-changed_blocks}
use Rattle.d64_history.specs.History.{present_image, extended_history}
use Rattle.d64_undo.specs.SoundHistory.{IsSoundHistory}
use Rattle.d64_history.proofs.Records.{length-added}
use Rattle.d64_history.proofs.Sessions.{Holds, holds, holds-extended_history, present_is, lies}
use Rattle.d64_undo.proofs.SoundHistories.{present_image-sound, extended_history-sound}
use Rattle.d64_undo.proofs.session.Session.run.Goals as goal
use Rattle.d64_undo.proofs.session.Session.run.Goals.{After-self-2-1}

-- the command is refused, and so nothing was changed
pub returns-in_err-reply-clause-refused : goal.returns-in_err-reply-clause-refused
returns-in_err-reply-clause-refused c =
    let s = c.self.inside in
    let shown : present_image c.args.self.now ≡ s.image = present_is (holds c.self.invariant c.self.view_is) in
    subst (λ (image : List (List ℕ)). refused_by c.from_residual.result ≡ refusal_of image (change_of c.args.command.now)) (sym shown) (search rules)

-- the command would have been accepted
pub returns-then-is_err-clause-refused : goal.returns-then-is_err-clause-refused
returns-then-is_err-clause-refused c =
    let s = c.self.inside in
    let shown : present_image c.args.self.now ≡ s.image = present_is (holds c.self.invariant c.self.view_is) in
    c.in_ok-reply.ensures.refused ∙ ap (λ (image : List (List ℕ)). refusal_of image (change_of c.args.command.now)) (sym shown)

pub returns-clause-refused : goal.returns-clause-refused
returns-clause-refused c =
    let s = c.self.inside in
    let shown : present_image c.args.self.now ≡ s.image = present_is (holds c.self.invariant c.self.view_is) in
    c.in_ok-reply.ensures.refused ∙ ap (λ (image : List (List ℕ)). refusal_of image (change_of c.args.command.now)) (sym shown)

pub returns-clause-reply : goal.returns-clause-reply
returns-clause-reply c =
    let s = c.self.inside in
    let shown : present_image c.args.self.now ≡ s.image = present_is (holds c.self.invariant c.self.view_is) in
    c.in_ok-reply.ensures.reply ∙ ap (λ (image : List (List ℕ)). reply_to image (change_of c.args.command.now)) (sym shown)

-- what lies after the cursor is dropped, and the record of this command is added
with_record : (c : After-self-2-1) → Holds c.replace_from-kept.new.self c.apply_knowing.new.image c.end-self-inside.result.number (extended_history c.args.self.now c.apply_knowing.new.image)
with_record c =
    let s = c.self.inside in
    let kept : c.replace_from-kept.new.self ≡ take s.cursor.number s.records ++ c.apply_knowing.new.patch ∷ [] = search rules in
    let long = length-added s.records c.replace_from-kept.new.self c.apply_knowing.new.patch s.cursor.number c.self.invariant.0 kept in
    let number = c.end-self-inside.ensures.number in
    holds-extended_history c.replace_from-kept.new.self c.apply_knowing.new.patch c.apply_knowing.new.image c.end-self-inside.result.number (holds c.self.invariant c.self.view_is) kept (omega arith)
    c.in_ok-reply.ensures.back c.in_ok-reply.ensures.changed

pub invariant_of-self-2 : goal.invariant_of-self-2
invariant_of-self-2 c =
    let h = with_record c in (
      h.within,
      h.lead,
      c.end-self-inside.ensures.blocks ∙ ap (blocks_before c.replace_from-kept.new.self) (sym c.end-self-inside.ensures.number),
      λ known. c.in_ok-reply.ensures.sound (c.leaves_sound-self-inside.ensures.0 known),
      cc,
    )

-- the new image is added to the history
pub returns-clause-accepted : goal.returns-clause-accepted
returns-clause-accepted c =
    (with_record c).is
    ∙ ap (extended_history c.args.self.now)
    (c.in_ok-reply.ensures.accepted ∙ ap (λ (image : List (List ℕ)). image_after image (change_of c.args.command.now)) (sym (present_is (holds c.self.invariant c.self.view_is))))

-- a sound image is added
pub returns-clause-sound : goal.returns-clause-sound
returns-clause-sound c is all =
    let s = c.self.inside in
    let shown : present_image c.args.self.now ≡ s.image = present_is (holds c.self.invariant c.self.view_is) in
    let within = lies (holds c.self.invariant c.self.view_is) in
    let sound : IsSound s.image = subst IsSound shown (present_image-sound c.args.self.now within all) in
    let left : Leaves s.image (change_of c.args.command.now) c.in_ok-reply.reply c.apply_knowing.new.image =
    c.in_ok-reply.ensures.step (starts_from_sound s.image (change_of c.args.command.now) is sound) in
    subst IsSoundHistory (sym (returns-clause-accepted c))
    (extended_history-sound c.args.self.now (image_after (present_image c.args.self.now) (change_of c.args.command.now)) all
    (subst IsSound (c.in_ok-reply.ensures.accepted ∙ ap (λ (image : List (List ℕ)). image_after image (change_of c.args.command.now)) (sym shown)) left.sound))

-- the present image has the block that the command names
pub apply_knowing-requires-clause-block : goal.apply_knowing-requires-clause-block
apply_knowing-requires-clause-block c =
    let s = c.self.inside in
    subst (λ (image : List (List ℕ)). IsWithin image (change_of c.args.command.now))
    (present_is (holds c.self.invariant c.self.view_is)) c.requires

-- the record is a difference of the image
pub swap-requires : goal.swap-requires
swap-requires c =
    let before = c.self.inside.image in
    subst (λ (n : ℕ). RisesBetween 0 n c.apply_knowing.new.patch) (sym c.in_ok-reply.ensures.kind)
    (subst (RisesBetween 0 (length before)) (sym c.in_ok-reply.ensures.changed) (rises-changed_blocks before c.apply_knowing.new.image))

-- the image is as long as before
pub returns-clause-kind : goal.returns-clause-kind
returns-clause-kind c =
    let s = c.self.inside in
    ap (λ h. length (present_image h)) (with_record c).is ∙ ap length (present_is (with_record c))
    ∙ c.in_ok-reply.ensures.kind
    ∙ sym (ap length (present_is (holds c.self.invariant c.self.view_is)))
