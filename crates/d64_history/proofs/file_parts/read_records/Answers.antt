use Rattle.std.proofs.Common.{◌≡◌, ℕ, ◌+◌, ◌++◌, ◌∷◌, [], List, length, refl, sym, ap, ◌∙◌, subst, arith, append_assoc}
use Rattle.std.specs.List.{All, flat_map}
use Rattle.std.proofs.lemmas.List.{flat_map_more, length_push}
use Rattle.std.proofs.lemmas.List.Elements.{All-push}
use Rattle.d64_image.specs.Disk.{Disk}
use Rattle.d64_image.specs.Patch.{Kept, IsPatchOf, HaveBlocks}
use Rattle.d64_history.specs.SessionFile.{record_file}
use Rattle.d64_history.specs.ResumeFault.{record_file_at}
use Rattle.d64_history.proofs.FilesTaken.{record_takes}
use Rattle.d64_history.proofs.Given.{are-bytes, ends-same, ends-then}
use Rattle.d64_history.proofs.file_parts.read_records.Goals as goal

pub loop-init : goal.loop-init
loop-init c = record { started = c.requires; same = refl; text = refl; counted = sym c.len-counter.ensures; bytes = are-bytes c.args.bytes.now c.type_inv.bytes; end = ends-same c.args.bytes.now }

-- one record more was read
pub loop-preserved : goal.loop-preserved
loop-preserved c =
    let before = c.loop.parts.records in
    let patch : Kept = c.in_ok-record.record in
    let after = c.in_ok-record.after.now in
    let s = c.loop.invariant.started in
    let kept : c.push.new.self ≡ before ++ patch ∷ [] = c.in_ok-push.ensures.pushed in
    let long : length c.push.new.self ≡ length before + 1 = ap (λ (ps : List Kept). length ps) kept ∙ length_push before patch in
    let counted = c.loop.invariant.counted in
    let more = c.loop-test.true in
    let end = ap (λ (start : Disk × (ℕ × ℕ)). start.1.1) c.loop.invariant.same in
    let read = ap (λ (n : ℕ). record_file_at n c.loop.rest.now) (sym c.block_count.ensures.count) ∙ c.in_ok-record.ensures in
    let taken = record_takes (length c.loop.parts.image) c.loop.rest.now (patch, after) c.loop.invariant.bytes read in
    record {
      started = record {
        image = s.image;
        done = s.done;
        count = s.count;
        within = omega arith;
        patches = subst (All (IsPatchOf c.loop.parts.image)) (sym kept) (All-push (IsPatchOf c.loop.parts.image) before patch s.patches taken.1.0);
        blocks = subst (All HaveBlocks) (sym kept) (All-push HaveBlocks before patch s.blocks taken.1.1);
      };
      same = c.loop.invariant.same;
      text =
          c.loop.invariant.text
          ∙ ap (λ (xs : List ℕ). flat_map record_file before ++ xs) taken.0.parts
          ∙ sym (append_assoc (flat_map record_file before) (record_file patch) after)
          ∙ ap (λ (xs : List ℕ). xs ++ after) (flat_map_more record_file [] before patch)
          ∙ ap (λ (ps : List Kept). flat_map record_file ps ++ after) (sym kept);
      counted = omega arith;
      bytes = taken.0.left;
      end = ends-then c.args.bytes.now c.loop.rest.now after c.loop.invariant.end (record_file patch, taken.0.parts);
    }
