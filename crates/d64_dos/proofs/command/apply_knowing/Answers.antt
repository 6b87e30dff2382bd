use Rattle.std.proofs.Common.{◌≡◌, List, [], ℕ, length, sym, ap, ◌∙◌, subst}
use Rattle.std.proofs.lemmas.Result.{on_ok_weaker}
use Rattle.d64_image.specs.Patch.{Kept, IsPatchOf, RisesBetween, restored_image, changed_blocks}
use Rattle.d64_image.proofs.Patches.{length-restored_image}
use Rattle.d64_dos.specs.Change.{change_of}
use Rattle.d64_dos.proofs.Steps.{step_of, sound_of, nothing_back, on_err}
use Rattle.d64_dos.proofs.command.apply_knowing.Goals as goal

pub returns-then-is_ok-clause-changed : goal.returns-then-is_ok-clause-changed
returns-then-is_ok-clause-changed c =
    let done = c.carried_out-outcome in
    let before = done.ensures.back.0 ∙ nothing_back c.args.image.now c.args.patch.now c.requires.patch in
    on_ok_weaker done.result (λ _. c.trim.ensures.changed ∙ ap (λ (image : List (List ℕ)). changed_blocks image done.new.image) before) done.ensures.accepted

pub returns-then-is_ok-clause-back : goal.returns-then-is_ok-clause-back
returns-then-is_ok-clause-back c =
    let done = c.carried_out-outcome in
    let before = done.ensures.back.0 ∙ nothing_back c.args.image.now c.args.patch.now c.requires.patch in
    on_ok_weaker done.result (λ _. c.trim.ensures.back ∙ before) done.ensures.accepted

pub returns-then-is_ok-clause-step : goal.returns-then-is_ok-clause-step
returns-then-is_ok-clause-step c =
    let done = c.carried_out-outcome in
    step_of c.args.image.now done.new.image (change_of c.args.command.now) done.result done.ensures.known.0 done.ensures.known.1 done.ensures.refused
    done.ensures.reply done.ensures.accepted

pub returns-then-is_ok-clause-sound : goal.returns-then-is_ok-clause-sound
returns-then-is_ok-clause-sound c =
    let done = c.carried_out-outcome in
    sound_of c.args.image.now done.new.image (change_of c.args.command.now) c.args.is_sound done.result c.requires.known done.ensures.known.0 done.ensures.known.1 done.ensures.refused
    done.ensures.reply done.ensures.accepted

pub returns-else-is_ok-clause-unchanged : goal.returns-else-is_ok-clause-unchanged
returns-else-is_ok-clause-unchanged c =
    let done = c.carried_out-outcome in
    on_err done.result (c.put_back.ensures.image ∙ done.ensures.back.0 ∙ nothing_back c.args.image.now c.args.patch.now c.requires.patch, c.put_back.ensures.patch)

-- the image has each block that the patch keeps, which was empty before
kept : (image next : List (List ℕ)) (patch after : Kept) → (IsPatchOf image patch → IsPatchOf next after) → patch ≡ [] → IsPatchOf next after
unfolding RisesBetween
kept image next patch after held empty = held (subst (IsPatchOf image) (sym empty) tt)

pub trim-requires : goal.trim-requires
trim-requires c = kept c.args.image.now _ c.args.patch.now _ c.carried_out-outcome.ensures.back.1 c.requires.patch

pub put_back-requires : goal.put_back-requires
put_back-requires c = kept c.args.image.now _ c.args.patch.now _ c.carried_out-outcome.ensures.back.1 c.requires.patch

-- the image with the patch put back is as long as before, and so is the image
kind : (image next : List (List ℕ)) (patch after : Kept) → restored_image next after ≡ restored_image image patch → length next ≡ length image
kind image next patch after e = sym (length-restored_image after next) ∙ ap length e ∙ length-restored_image patch image

pub returns-then-is_ok-clause-kind : goal.returns-then-is_ok-clause-kind
returns-then-is_ok-clause-kind c = kind c.args.image.now _ c.args.patch.now _ c.carried_out-outcome.ensures.back.0

pub returns-else-is_ok-clause-kind : goal.returns-else-is_ok-clause-kind
returns-else-is_ok-clause-kind c =
    ap length c.put_back.ensures.image ∙ length-restored_image c.carried_out-outcome.new.patch c.carried_out-outcome.new.image
    ∙ kind c.args.image.now c.carried_out-outcome.new.image c.args.patch.now c.carried_out-outcome.new.patch c.carried_out-outcome.ensures.back.0
