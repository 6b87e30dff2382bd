use Rattle.std.proofs.Common.{◌≡◌, ℕ, List, length, ap, ◌∙◌, subst}
use Rattle.std.specs.Prelude.{OnOk}
use Rattle.d64_g64.proofs.DumpBlocks.{dump_is, length-first_codes}
use Rattle.d64_g64.proofs.dump.read_blocks.Goals as goal

pub close-requires : goal.close-requires
close-requires c = ap length c.in_ok-read_tracks.ensures.codes ∙ length-first_codes c.args.file.now 768

pub returns : goal.returns
returns c =
    subst (λ (xs : List ℕ). OnOk c.close.result (c.close.new.blocks.bytes.items ≡ xs))
    (dump_is c.args.file.now c.read_tracks.new.blocks.bytes.items c.read_tracks.new.blocks.codes.items c.in_ok-read_tracks.ensures.codes c.in_ok-read_tracks.ensures.bytes)
    c.close.ensures
