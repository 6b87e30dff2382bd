-- What a script that was read has of the bytes that its reader had, and what shows it.
use Rattle.std.proofs.Common.{◌≡◌, ℕ, ◌+◌, ◌<◌, ◌≤◌, min, length, false, arith, take-take, Option, Some, None, List, ◌++◌, IfSome, IsTrue, sym, ap, ◌∙◌, append_assoc, append-nil, take, drop, take_all, take-append-drop}
use Rattle.std.proofs.Math.Seq.{take-append-add}
use Rattle.std.proofs.lemmas.Bool.{false≢true}
use Rattle.std.specs.Io.KnownBytes.{Consumes, IsAtEnd}
use Rattle.std.proofs.KnownBytes.{Consumes-trans}
use Rattle.host_storage.specs.Input.{input_limit}
use Rattle.script_text.specs.Script.{IsReadFrom}
use Rattle.script_text.specs.declared.script.Script.{Script}

-- reading went to the end, within the limit
pub IsReadFrom-to_its_end : (old new : Option (List ℕ)) (script : Script) (bytes : List ℕ) → script.bytes.items ≡ bytes → length bytes ≤ input_limit
    → Consumes old new bytes → IsAtEnd new → IsReadFrom old new script
IsReadFrom-to_its_end old new script bytes is fits lost end =
    record {
      consumed = bytes;
      lost = lost;
      kept = is ∙ sym (take_all input_limit bytes fits);
      ended = λ _. end;
      within = λ _. fits;
    }

-- reading stopped, and what came fits
pub IsReadFrom-cut_short : (old new : Option (List ℕ)) (script : Script) (bytes : List ℕ) → script.bytes.items ≡ bytes → script.whole ≡ false
    → length bytes ≤ input_limit → Consumes old new bytes → IsReadFrom old new script
IsReadFrom-cut_short old new script bytes is part fits lost =
    record {
      consumed = bytes;
      lost = lost;
      kept = is ∙ sym (take_all input_limit bytes fits);
      ended = λ whole. absurd (false≢true (sym part ∙ whole));
      within = λ _. fits;
    }

-- the last read passed the limit, and filled the script up to it
pub IsReadFrom-filled : (old mid new : Option (List ℕ)) (script : Script) (bytes more filled : List ℕ) (room count least : ℕ) → script.whole ≡ false
    → script.bytes.items ≡ filled → filled ≡ bytes ++ take least more → length bytes + room ≡ input_limit → room < count → least ≡ min count room
    → Consumes old mid bytes → Consumes mid new (take count more) → IsReadFrom old new script
IsReadFrom-filled old mid new script bytes more filled room count least part is_filled grown full over is before read =
    let same : least ≡ room = omega arith in
    let late = take count more in
    record {
      consumed = bytes ++ late;
      lost = Consumes-trans old mid new bytes late before read;
      kept =
          is_filled ∙ grown ∙ ap (λ n. bytes ++ take n more) same ∙ ap (λ l. bytes ++ l) (sym (take-take room count more (omega arith)))
          ∙ sym (take-append-add bytes late room) ∙ ap (λ n. take n (bytes ++ late)) full;
      ended = λ whole. absurd (false≢true (sym part ∙ whole));
      within = λ whole. absurd (false≢true (sym part ∙ whole));
    }

-- a script that is whole is all that the reader had
pub IsReadFrom-whole : (old new : Option (List ℕ)) (script : Script) → IsReadFrom old new script → IsTrue script.whole → IfSome old (λ bytes. script.bytes.items ≡ bytes)
IsReadFrom-whole None new script read whole = tt
IsReadFrom-whole (Some xs) None script read whole = absurd read.lost
IsReadFrom-whole (Some xs) (Some ys) script read whole =
    read.kept ∙ take_all input_limit read.consumed (read.within whole)
    ∙ sym (read.lost ∙ ap (λ l. read.consumed ++ l) (read.ended whole) ∙ append-nil read.consumed)

-- any script is the first part of what the reader had
pub IsReadFrom-first : (old new : Option (List ℕ)) (script : Script) → IsReadFrom old new script
    → IfSome old (λ bytes. (more : List ℕ) × (script.bytes.items ++ more ≡ bytes))
IsReadFrom-first None new script read = tt
IsReadFrom-first (Some xs) None script read = absurd read.lost
IsReadFrom-first (Some xs) (Some ys) script read =
    let late = drop input_limit read.consumed in (
      late ++ ys,
      ap (λ l. l ++ (late ++ ys)) read.kept ∙ sym (append_assoc (take input_limit read.consumed) late ys)
          ∙ ap (λ l. l ++ ys) (take-append-drop input_limit read.consumed) ∙ sym read.lost,
    )
