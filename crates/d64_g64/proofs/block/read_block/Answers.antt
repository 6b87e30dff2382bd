use Rattle.std.proofs.Common.{◌≡◌, length, refl, sym, ◌∙◌}
use Rattle.std.specs.List.{find}
use Rattle.d64_g64.specs.Starts.{starts_on, start_pairs}
use Rattle.d64_g64.specs.Headers.{names_block}
use Rattle.d64_g64.specs.Blocks.{names_readable, bytes_behind}
use Rattle.d64_g64.proofs.HeaderSearches.{code_without, bytes_without, good_block, no_good, first_block}
use Rattle.d64_g64.proofs.block.read_block.Goals as goal

pub returns-then-count_starts-eq0 : goal.returns-then-count_starts-eq0
returns-then-count_starts-eq0 c =
    let none = sym c.count_starts.ensures ∙ c.if-count_starts-eq0.true in
    record {
      code = code_without c.args.id c.args.track.now c.args.number c.args.sector none;
      bytes = c.make_blank.ensures ∙ bytes_without c.args.id c.args.track.now c.args.number c.args.sector none;
    }

pub returns-then-read_good : goal.returns-then-read_good
returns-then-read_good c =
    let track = c.args.track.now in
    let some : length (starts_on track) ≡ 0 → ⊥ = λ none. c.if-count_starts-eq0.false (c.count_starts.ensures ∙ none) in
    let found = find (names_readable c.args.id track c.args.number c.args.sector) (start_pairs track) in
    let both = good_block c.args.id track c.args.number c.args.sector c.read_good.result c.read_good.new.block found refl c.if-read_good.true some c.read_good.ensures in
    record { code = both.0; bytes = both.1 }

pub returns-else-read_good : goal.returns-else-read_good
returns-else-read_good c =
    let track = c.args.track.now in
    let some : length (starts_on track) ≡ 0 → ⊥ = λ none. c.if-count_starts-eq0.false (c.count_starts.ensures ∙ none) in
    let found = find (names_readable c.args.id track c.args.number c.args.sector) (start_pairs track) in
    let none = no_good c.read_good.result found (λ pair. c.read_good.new.block ≡ bytes_behind track pair.1) c.if-read_good.false c.read_good.ensures in
    let both = first_block c.args.id track c.args.number c.args.sector c.read_first.result c.read_first.new.block (find (names_block track c.args.number c.args.sector) (start_pairs track)) none refl some c.read_first.ensures in
    record { code = both.0; bytes = both.1 }
