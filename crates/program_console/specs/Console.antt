-- Which streams a console works on, and what became of them.
use Rattle.std.specs.Prelude.{◌≡◌, true, false}
use Rattle.host_storage.specs.Input.{IsUnread, reading_of}
use Rattle.host_storage.specs.declared.output.OutputStream.{OutputStream}
use Rattle.program_console.specs.declared.console.Outputs.{Outputs}
use Rattle.program_console.specs.declared.console.Console.{Console}

-- outputs borrow the writers that they borrowed before
abbrev pub SameWriters : {W F : Type 0} → Outputs W F → Outputs W F → Type 0
SameWriters old new =
    (new.output.writer.ghost_name ≡ old.output.writer.ghost_name) × (new.faults.writer.ghost_name ≡ old.faults.writer.ghost_name)

-- a console borrows the reader and the writers that it borrowed before
abbrev pub SameStreams : {R W F : Type 0} → Console R W F → Console R W F → Type 0
SameStreams old new = (new.input.reader.ghost_name ≡ old.input.reader.ghost_name) × SameWriters old.outputs new.outputs

-- all that was printed is delivered, and no call of the output has failed
abbrev pub IsDelivered : {W : Type 0} → OutputStream W → Type 0
IsDelivered output = (output.is_delivered ≡ true) × (output.has_failed ≡ false)

-- all that was printed is delivered, and no call of the output has failed since
abbrev pub Delivers : {W : Type 0} → OutputStream W → OutputStream W → Type 0
Delivers old new = (new.is_delivered ≡ true) × (new.has_failed ≡ old.has_failed)

-- what was delivered before still is, with all that was printed since, and no call of the output has
-- failed since
abbrev pub StaysDelivered : {W : Type 0} → OutputStream W → OutputStream W → Type 0
StaysDelivered old new = (old.is_delivered ≡ true → new.is_delivered ≡ true) × (new.has_failed ≡ old.has_failed)

-- nothing was read from a console, and all that was printed on it is delivered
abbrev pub IsFresh : {R W F : Type 0} → Console R W F → Type 0
IsFresh console =
    IsUnread (reading_of console.input.reads console.input.came console.input.has_failed) × IsDelivered console.outputs.output
