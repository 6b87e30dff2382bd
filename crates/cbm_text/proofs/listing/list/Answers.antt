use Rattle.std.proofs.Common.{◌-◌, length, take, drop, arith}
use Rattle.cbm_text.specs.Program.{ProgramLine}
use Rattle.cbm_text.proofs.ProgramFiles.{listed_nothing, listed_more, listed_whole, listed_never, file_reads, file_never, lists_program}
use Rattle.cbm_text.proofs.listing.list.Goals as goal

pub loop-left-init : goal.loop-left-init
loop-left-init c = rw c.new-text.ensures.items (listed_nothing (take (length c.args.file.now - 2) (drop 2 c.args.file.now)))

pub returns-in_default-first_line : goal.returns-in_default-first_line
returns-in_default-first_line c =
    let file = c.args.file.now in (
      omega arith,
      file_never file (omega arith) (listed_never (take (length file - 2) (drop 2 file)) c.loop-left.text.items c.loop-left.left.now c.loop-left.invariant c.in_default-first_line.ensures),
    )

pub loop-left-preserved : goal.loop-left-preserved
loop-left-preserved c =
    let file = c.args.file.now in
    let line : ProgramLine = record { number = c.in-Some.line.number; bytes = c.in-Some.line.bytes.now } in
    rw c.in_ok-push_listing.ensures
    (listed_more (take (length file - 2) (drop 2 file)) c.loop-left.text.items c.loop-left.left.now line c.in-Some.rest.now c.loop-left.invariant c.in-Some.ensures)

pub returns : goal.returns
returns c =
    let file = c.args.file.now in
    let whole = listed_whole (take (length file - 2) (drop 2 file)) c.loop-left.text.items c.loop-left.left.now c.loop-left.invariant c.loop-left-test.ensures in
    lists_program file c.loop-left.text.items whole.0 (file_reads file whole.0 (omega arith) whole.1) whole.2
