use Rattle.std.proofs.Common.{◌≡◌, ℕ, Bool, Option, refl, sym, ◌∙◌, subst}
use Rattle.std.specs.Prelude.{MatchOption}
use Rattle.d64_g64.specs.Starts.{starts_on, next_of}
use Rattle.d64_g64.specs.Headers.{names_block}
use Rattle.d64_g64.specs.Blocks.{header_code, bytes_behind, blank}
use Rattle.d64_g64.proofs.StartPairs.{pair_here, pair_later, no_pair_left}
use Rattle.d64_g64.proofs.block.read_first.Goals as goal

pub returns-then-names : goal.returns-then-names
returns-then-names c =
    let track = c.args.track.now in
    let starts = starts_on track in
    let p : ℕ × ℕ → Bool = names_block track c.args.number c.args.sector in
    let named = rw c.start_at-start.ensures at c.names.ensures in
    let found = c.loop-index.invariant ∙ pair_here p starts c.loop-index.index (rw c.count_starts-index-end.ensures at c.loop-index-test.true) (sym (named (next_of starts c.loop-index.index)) ∙ c.if-names.true) in
    subst (λ (o : Option (ℕ × ℕ)). MatchOption o ((c.read_behind.result ≡ 2) × (c.read_behind.new.block ≡ blank))
    (λ pair. (c.read_behind.result ≡ header_code c.args.id track pair) × (c.read_behind.new.block ≡ bytes_behind track pair.1))) (sym found)
    (rw (c.start_at-start.ensures, c.next_start.ensures.value) at c.read_behind.ensures.code, rw (c.start_at-start.ensures, c.next_start.ensures.value) at c.read_behind.ensures.bytes)

pub loop-index-preserved : goal.loop-index-preserved
loop-index-preserved c =
    let starts = starts_on c.args.track.now in
    let named = rw c.start_at-start.ensures at c.names.ensures in
    c.loop-index.invariant
    ∙ pair_later (names_block c.args.track.now c.args.number c.args.sector) starts c.loop-index.index (rw c.count_starts-index-end.ensures at c.loop-index-test.true)
    (sym (named (next_of starts c.loop-index.index)) ∙ c.if-names.false)

pub returns : goal.returns
returns c =
    let track = c.args.track.now in
    let none = c.loop-index.invariant ∙ no_pair_left (names_block track c.args.number c.args.sector) (starts_on track) c.loop-index.index (rw c.count_starts-index-end.ensures at c.loop-index-test.false) in
    subst (λ (o : Option (ℕ × ℕ)). MatchOption o ((◌≡◌ {A = ℕ} 2 2) × (c.make_blank.new.block ≡ blank))
    (λ pair. (2 ≡ header_code c.args.id track pair) × (c.make_blank.new.block ≡ bytes_behind track pair.1))) (sym none)
    (refl, c.make_blank.ensures)
