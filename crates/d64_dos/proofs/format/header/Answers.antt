use Rattle.std.proofs.Common.{ap, ◌∙◌}
use Rattle.d64_files.specs.Writing.{written_at}
use Rattle.d64_effects.proofs.Headers.{header_from_parts}
use Rattle.d64_dos.proofs.format.header.Goals as goal

pub returns : goal.returns
returns c =
    header_from_parts c.args.name.now c.args.id.now c.write_at.new.block c.write_at-2.new.block c.write_at-3.new.block c.write_at-4.new.block c.write_at-5.new.block
    c.bytes.ensures.name.short c.told-id c.write_at.ensures c.write_at-2.ensures (c.write_at-3.ensures ∙ ap (written_at c.write_at-2.new.block 144) c.bytes.ensures.bytes) c.write_at-4.ensures c.write_at-5.ensures
