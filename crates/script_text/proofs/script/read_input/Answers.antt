-- What each way out of the loop leaves.
use Rattle.std.proofs.Common.{◌≡◌, ℕ, ◌+◌, ◌-◌, ◌≤◌, min, Option, List, ◌++◌, length, take, sym, ap, ◌∙◌, subst, arith, rules, append-nil}
use Rattle.std.specs.Io.KnownBytes.{Consumes}
use Rattle.std.proofs.KnownBytes.{Consumes-trans, Consumes-kept}
use Rattle.host_storage.specs.Input.{input_limit}
use Rattle.script_text.proofs.ScriptReads.{IsReadFrom-to_its_end, IsReadFrom-cut_short, IsReadFrom-filled}
use Rattle.script_text.proofs.script.read_input.Goals as goal

-- a read that gave nothing consumed nothing
Consumes-none : (a b c : Option (List ℕ)) (bytes more : List ℕ) (count : ℕ) → Consumes a b bytes → Consumes b c (take count more) → count ≡ 0 → Consumes a c bytes
Consumes-none a b c bytes more count before read none =
    subst (Consumes a c) (ap (λ n. bytes ++ take n more) none ∙ append-nil bytes) (Consumes-trans a b c bytes (take count more) before read)

-- a read that fits is kept whole
Consumes-fits : (a b c : Option (List ℕ)) (bytes more new : List ℕ) (room count least : ℕ) → Consumes a b bytes → Consumes b c (take count more)
    → count ≤ room → least ≡ min count room → new ≡ bytes ++ take least more → Consumes a c new
Consumes-fits a b c bytes more new room count least before read fits is grown =
    let same : count ≡ least = omega arith in
    subst (Consumes a c) (ap (λ n. bytes ++ take n more) same ∙ sym grown) (Consumes-trans a b c bytes (take count more) before read)

pub returns-in-Ok-eq0-clause-read : goal.returns-in-Ok-eq0-clause-read
returns-in-Ok-eq0-clause-read g c =
    let bytes = c.loop.bytes.items in
    let fits : length bytes ≤ input_limit = omega (arith, c.loop.invariant.bounded, c.loop.bytes.ok.0) in
    let read = c.in-Ok-eq0.ensures.bytes in
    IsReadFrom-to_its_end _ _ c.to_its_end.result bytes (ap (λ script. script.bytes.items) c.to_its_end.ensures) fits
    (Consumes-none _ _ _ bytes c.read.new.buffer c.in-Ok-eq0.field-0 c.loop.invariant.lost read.0 c.in-Ok-eq0.field-0-test)
    (read.1 c.in-Ok-eq0.field-0-test (search rules))

pub returns-in-Err-clause-read : goal.returns-in-Err-clause-read
returns-in-Err-clause-read g c =
    let bytes = c.loop.bytes.items in
    let fits : length bytes ≤ input_limit = omega (arith, c.loop.invariant.bounded, c.loop.bytes.ok.0) in
    IsReadFrom-cut_short _ _ c.cut_short.result bytes (ap (λ script. script.bytes.items) c.cut_short.ensures) (ap (λ script. script.whole) c.cut_short.ensures) fits
    (Consumes-kept _ _ _ _ c.loop.invariant.lost c.in-Err.ensures.bytes)

pub returns-then-count-room-clause-read : goal.returns-then-count-room-clause-read
returns-then-count-room-clause-read g c =
    let bytes = c.loop.bytes.items in
    let room = input_limit - c.len-room.result in
    let full : length bytes + room ≡ input_limit = omega (arith, c.loop.invariant.bounded, c.loop.bytes.ok.0, c.len-room.ensures) in
    let script = c.cut_short-then-count-room in
    IsReadFrom-filled _ _ _ script.result bytes c.read.new.buffer c.extend_from_slice.new.self.items room c.in-Ok.count c.min.result (ap (λ script. script.whole) script.ensures)
    (ap (λ script. script.bytes.items) script.ensures) c.in_ok-extend_from_slice.ensures.items
    full c.if-count-room.true c.min.ensures c.loop.invariant.lost c.in-Ok.ensures.bytes.0

pub loop-preserved : goal.loop-preserved
loop-preserved g c =
    let room = input_limit - c.len-room.result in
    record {
      lost =
          Consumes-fits _ _ _ c.loop.bytes.items c.read.new.buffer c.extend_from_slice.new.self.items room c.in-Ok.count c.min.result
          c.loop.invariant.lost c.in-Ok.ensures.bytes.0 c.if-count-room.false c.min.ensures c.in_ok-extend_from_slice.ensures.items;
      bounded = search rules;
      same = search rules;
      counted = search rules;
      came = search rules;
      unfailed = search rules;
    }

pub returns-clause-read : goal.returns-clause-read
returns-clause-read g c =
    let bytes = c.loop.bytes.items in
    let fits : length bytes ≤ input_limit = omega (arith, c.loop.invariant.bounded, c.loop.bytes.ok.0) in
    IsReadFrom-cut_short _ _ c.cut_short-2.result bytes (ap (λ script. script.bytes.items) c.cut_short-2.ensures) (ap (λ script. script.whole) c.cut_short-2.ensures) fits
    c.loop.invariant.lost
