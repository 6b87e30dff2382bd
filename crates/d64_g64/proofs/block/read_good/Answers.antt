use Rattle.std.proofs.Common.{◌≡◌, ℕ, Bool, true, false, ◌&&◌, Option, get_or, refl, sym, ap, ap₂, ◌∙◌, subst}
use Rattle.std.specs.Prelude.{MatchOption, ◌==◌}
use Rattle.std.proofs.lemmas.Bool.{eq-eqb, ne_eqb}
use Rattle.d64_g64.specs.Starts.{starts_on, next_of}
use Rattle.d64_g64.specs.Blocks.{names_readable, header_code, bytes_behind}
use Rattle.d64_g64.proofs.StartPairs.{pair_here, pair_later, no_pair_left}
use Rattle.d64_g64.proofs.block.read_good.Goals as goal
use Rattle.d64_g64.proofs.block.read_good.Goals.{then-names+else-read_behind-eq1, else-names}

pub returns-then-read_behind-eq1 : goal.returns-then-read_behind-eq1
returns-then-read_behind-eq1 c =
    let track = c.args.track.now in
    let starts = starts_on track in
    let named = rw c.start_at-start.ensures at c.names.ensures in
    let code = rw (c.start_at-start.ensures, c.next_start.ensures.value) at c.read_behind.ensures.code in
    let passes = ap₂ ◌&&◌ (sym (named (next_of starts c.loop-index.index)) ∙ c.if-names.true) (eq-eqb _ _ (sym code ∙ c.if-read_behind-eq1.true)) in
    let found =
    c.loop-index.invariant
    ∙ pair_here (names_readable c.args.id track c.args.number c.args.sector) starts c.loop-index.index (rw c.count_starts-index-end.ensures at c.loop-index-test.true) passes in
    subst (λ (o : Option (ℕ × ℕ)). MatchOption o (true ≡ false) (λ pair. (true ≡ true) × (c.read_behind.new.block ≡ bytes_behind track pair.1))) (sym found)
    (refl, rw (c.start_at-start.ensures, c.next_start.ensures.value) at c.read_behind.ensures.bytes)

pub loop-index-preserved : goal.loop-index-preserved
loop-index-preserved c =
    let track = c.args.track.now in
    let starts = starts_on track in
    let p = names_readable c.args.id track c.args.number c.args.sector in
    let pair : ℕ × ℕ = (get_or starts c.loop-index.index 0, next_of starts c.loop-index.index) in
    let named = rw c.start_at-start.ensures at c.names.ensures in
    let fails : p pair ≡ false = elim c.if-names.branch [
      | then-names+else-read_behind-eq1 w ↦
          let code = rw (c.start_at-start.ensures, w.next_start.ensures.value) at w.read_behind.ensures.code in
          ap₂ ◌&&◌ (sym (named pair.1) ∙ w.if-names.true) (ne_eqb (header_code c.args.id track pair) 1 (λ is. w.if-read_behind-eq1.false (code ∙ is)))
      | else-names w ↦ ap (λ (b : Bool). b && (header_code c.args.id track pair == 1)) (sym (named pair.1) ∙ w.if-names.false)
    ] in
    c.loop-index.invariant ∙ pair_later p starts c.loop-index.index (rw c.count_starts-index-end.ensures at c.loop-index-test.true) fails

pub returns : goal.returns
returns c =
    let track = c.args.track.now in
    let none =
    c.loop-index.invariant
    ∙ no_pair_left (names_readable c.args.id track c.args.number c.args.sector) (starts_on track) c.loop-index.index (rw c.count_starts-index-end.ensures at c.loop-index-test.false) in
    subst (λ (o : Option (ℕ × ℕ)). MatchOption o (false ≡ false) (λ pair. (false ≡ true) × (c.loop-index.block ≡ bytes_behind track pair.1))) (sym none) refl
