-- What a whole input has, and what its reader has left after it was read.
use Rattle.std.specs.Prelude.{◌≡◌, ℕ, Option, ◌≤◌, List, length, take, IsTrue}
use Rattle.std.specs.Io.KnownBytes.{Consumes, IsAtEnd}
use Rattle.host_storage.specs.Input.{input_limit}
use Rattle.script_text.specs.declared.script.Script.{Script}

-- the script has the bytes that the reader gave, up to the limit, and is whole only if the reader
-- has no more and gave no more than that
pub record IsReadFrom (old new : Option (List ℕ)) (script : Script) : Type 0 where
  pub consumed : List ℕ
  pub lost : Consumes old new consumed
  pub kept : script.bytes.items ≡ take input_limit consumed
  pub ended : IsTrue script.whole → IsAtEnd new
  pub within : IsTrue script.whole → length consumed ≤ input_limit
