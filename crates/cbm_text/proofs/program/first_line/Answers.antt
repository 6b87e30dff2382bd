use Rattle.std.proofs.Common.{◌≡◌, ◌+◌, ◌-◌, ◌*◌, ℕ, List, ◌∷◌, length, take, drop, get_or, sym, subst, arith}
use Rattle.std.proofs.lemmas.List.{take_rest}
use Rattle.cbm_text.specs.Program.{BeginsLine}
use Rattle.cbm_text.proofs.ProgramFiles.{four_first, link_of, ends_at, no_zero_place, line_begins, short_reads, endless_reads}
use Rattle.cbm_text.proofs.program.first_line.Goals as goal

pub returns-in_default : goal.returns-in_default
returns-in_default c = short_reads c.args.bytes.now (omega arith) c.requires

pub returns-in_default-first_zero : goal.returns-in_default-first_zero
returns-in_default-first_zero c =
    let bytes = c.args.bytes.now in
    let rest = take (length bytes - 4) (drop 4 bytes) in
    let four = four_first bytes (omega arith) in
    let link = link_of bytes (get_or bytes 2 0 ∷ get_or bytes 3 0 ∷ rest) (get_or bytes 0 0) (get_or bytes 1 0) four c.requires in
    endless_reads bytes rest (get_or bytes 0 0) (get_or bytes 1 0) (get_or bytes 2 0) (get_or bytes 3 0) four link (no_zero_place rest (sym c.in_default-first_zero.ensures))

pub returns : goal.returns
returns c =
    let bytes = c.args.bytes.now in
    let rest = take (length bytes - 4) (drop 4 bytes) in
    let n = c.in-Some.length in
    let four = four_first bytes (omega arith) in
    let link = link_of bytes (get_or bytes 2 0 ∷ get_or bytes 3 0 ∷ rest) (get_or bytes 0 0) (get_or bytes 1 0) four c.requires in
    let number : get_or bytes 3 0 * 256 + get_or bytes 2 0 ≡ c.from.result * 256 + c.from-2.result = omega arith in
    let begins = line_begins bytes rest (take n rest) (drop (n + 1) rest) (get_or bytes 2 0) (get_or bytes 3 0) (get_or bytes 0 0) (get_or bytes 1 0)
    (omega (arith, c.type_inv.bytes 2)) (omega (arith, c.type_inv.bytes 3)) four link (ends_at rest n (sym c.in-Some.ensures)) in
    subst (λ (behind : List ℕ). BeginsLine bytes (record { number = c.from.result * 256 + c.from-2.result; bytes = take n rest }) behind) (sym (take_rest rest (n + 1)))
    (subst (λ (m : ℕ). BeginsLine bytes (record { number = m; bytes = take n rest }) (drop (n + 1) rest)) number begins)
