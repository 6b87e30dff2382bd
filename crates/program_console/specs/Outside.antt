-- What is outside of the program: its streams and its host.
use Rattle.std.specs.Prelude.{ℕ, List, Option}
use Rattle.host_storage.specs.Input.{Reading, reading_of}
use Rattle.host_storage.specs.Output.{Account, account_of}
use Rattle.host_storage.specs.declared.output.OutputStream.{OutputStream}
use Rattle.host_storage.specs.Files.{HostState}
use Rattle.program_console.specs.declared.console.Console.{Console}

-- what is outside of the program: the bytes that its input still has, if they are known, and how it
-- was read; its output; its standard error; and its host
pub record Outside : Type 0 where
  pub reader : Option (List ℕ)
  pub reading : Reading
  pub output : Account
  pub error : Account
  pub host : HostState

abbrev pub outside_of : Option (List ℕ) → Reading → Account → Account → HostState → Outside
outside_of reader reading output error host = record { reader = reader; reading = reading; output = output; error = error; host = host }

-- what is known of an output stream, by the bytes of its writer
abbrev pub account_at : {W : Type 0} → (W → Option (List ℕ)) → OutputStream W → Account
account_at contents stream = account_of (contents stream.writer.now) stream.has_failed

-- what is outside of the program, by the bytes of the reader and the writers of its console and the
-- state of its host
abbrev pub outside_at : {R W F : Type 0} → (R → Option (List ℕ)) → (W → Option (List ℕ)) → (F → Option (List ℕ)) → Console R W F → HostState → Outside
outside_at remaining written complained console host =
    outside_of (remaining console.input.reader.now) (reading_of console.input.reads console.input.came console.input.has_failed)
    (account_at written console.outputs.output) (account_at complained console.outputs.faults) host
