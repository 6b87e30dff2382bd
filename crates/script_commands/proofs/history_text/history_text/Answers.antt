use Rattle.std.proofs.Common.{◌≡◌, ℕ, ◌+◌, ◌-◌, ◌++◌, List, [], ◌∷◌, length, sym, ap, ◌∙◌, arith}
use Rattle.std.specs.List.{flat_map, range_with_len}
use Rattle.std.proofs.lemmas.Grind.{flat_map-append}
use Rattle.std.proofs.lemmas.List.{append-nil, map-id}
use Rattle.std.proofs.lemmas.List.FromFn.{map-range_with_len_more}
use Rattle.script_lines.specs.HistoryText.{record_line, history_text}
use Rattle.script_commands.proofs.history_text.history_text.Goals as goal

-- the lines of the first numbers, and one more
one_more : (line : ℕ → List ℕ) (n : ℕ) → flat_map line (range_with_len 0 (n + 1)) ≡ flat_map line (range_with_len 0 n) ++ line n
one_more line n =
    let more = map-range_with_len_more (λ (k : ℕ). k) 0 n n (omega arith) in
    let plain = simp map-id at more in
    ap (flat_map line) plain ∙ flat_map-append line (range_with_len 0 n) (n ∷ []) ∙ ap (λ (last : List ℕ). flat_map line (range_with_len 0 n) ++ last) (append-nil (line n))

-- the line of this record
pub loop-number-preserved : goal.loop-number-preserved
loop-number-preserved c =
    let line = record_line c.args.session.now in
    c.in_ok-push_record.ensures ∙ ap (λ (text : List ℕ). text ++ line c.loop-number.number) c.loop-number.invariant ∙ sym (one_more line c.loop-number.number)

-- the lines of all records
pub returns : goal.returns
unfolding history_text
returns c =
    let all : c.loop-number.number ≡ length c.args.session.now.images - 1 = omega (arith, c.done.ensures, c.undone.ensures.count, c.loop-number.auto.number-end, c.loop-number-test.false) in
    c.loop-number.invariant ∙ ap (λ (count : ℕ). flat_map (record_line c.args.session.now) (range_with_len 0 count)) all
