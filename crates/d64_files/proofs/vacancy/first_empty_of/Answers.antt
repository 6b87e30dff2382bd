use Rattle.std.proofs.Common.{◌≡◌, ◌≢◌, ℕ, Bool, true, false, List, not, slice_index_or, sym, ap, ◌∙◌, Some}
use Rattle.std.proofs.lemmas.Bool.{eq-eqb, ne_eqb}
use Rattle.d64_files.specs.Slot.{cell, is_used}
use Rattle.d64_files.proofs.SlotTests.{position_found, position_more, position_past}
use Rattle.d64_files.proofs.vacancy.first_empty_of.Goals as goal

-- a slot is unused if its type byte is 0
unused : (slot bytes : List ℕ) → slot ≡ bytes → slice_index_or slot 2 0 ≡ 0 → not (is_used bytes) ≡ true
unused slot bytes same zero = ap (λ (b : Bool). not (not b)) (eq-eqb _ _ (sym (ap (λ (s : List ℕ). slice_index_or s 2 0) same) ∙ zero))

used : (slot bytes : List ℕ) → slot ≡ bytes → slice_index_or slot 2 0 ≢ 0 → not (is_used bytes) ≡ false
used slot bytes same some = ap (λ (b : Bool). not (not b)) (ne_eqb _ _ (λ zero. some (ap (λ (s : List ℕ). slice_index_or s 2 0) same ∙ zero)))

pub returns-then-slot_of-eq0-clause-slot : goal.returns-then-slot_of-eq0-clause-slot
returns-then-slot_of-eq0-clause-slot c =
    let passes = unused c.slot_of.result.now (cell c.args.block.now c.loop-index.index) c.slot_of.ensures.value c.if-slot_of-eq0.true in
    ap Some c.at.ensures ∙ sym (position_found (λ bytes. not (is_used bytes)) c.args.block.now c.args.first c.loop-index.index c.loop-index-test.true passes) ∙ c.loop-index.invariant

pub loop-index-preserved : goal.loop-index-preserved
loop-index-preserved c =
    let fails = used c.slot_of.result.now (cell c.args.block.now c.loop-index.index) c.slot_of.ensures.value c.if-slot_of-eq0.false in
    sym (position_more (λ bytes. not (is_used bytes)) c.args.block.now c.args.first c.loop-index.index c.loop-index-test.true fails) ∙ c.loop-index.invariant

pub returns-clause-slot : goal.returns-clause-slot
returns-clause-slot c =
    sym (position_past (λ bytes. not (is_used bytes)) c.args.block.now _ c.loop-index.index c.loop-index-test.false) ∙ c.loop-index.invariant
