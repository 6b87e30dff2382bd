use Rattle.std.proofs.Common.{◌≡◌, ℕ, ◌+◌, ◌<◌, min, Option, List, [], ◌∷◌, ◌++◌, sym, ap, ap₂, ◌∙◌, arith}
use Rattle.d64_image.specs.Block.{sectors_on, first_block}
use Rattle.d64_image.specs.Image.{bytes_of as image_bytes}
use Rattle.d64_g64.specs.Blocks.{block_code_of, block_bytes_of}
use Rattle.d64_g64.specs.File.{track_of}
use Rattle.d64_g64.specs.Dump.{block_code, block_bytes, first_codes, first_blocks}
use Rattle.d64_g64.proofs.DumpBlocks.{code_is, bytes_are, codes_more, blocks_more, has_sector, lacks_sector, sector_more, sector_of, sector_past, few_sectors, next_track}
use Rattle.d64_g64.proofs.dump.add_track.Goals as goal
use Rattle.d64_g64.proofs.dump.add_track.Goals.{in-Some+in_ok-push_block-in-Some, in-None}

pub loop-sector-init : goal.loop-sector-init
loop-sector-init c =
    let number = c.number-number.result in
    let same = c.number-number.ensures.value in
    let none : first_block number + min 0 (sectors_on number) ≡ first_block number = omega arith in
    record {
      codes = c.requires.codes ∙ ap (first_codes c.args.file.now) (sym (none ∙ ap first_block same));
      bytes = c.requires.bytes ∙ ap (λ (n : ℕ). image_bytes (first_blocks c.args.file.now n)) (sym (none ∙ ap first_block same));
    }

pub loop-sector-preserved : goal.loop-sector-preserved
loop-sector-preserved c =
    let file = c.args.file.now in
    let number = c.number-number.result in
    let sector = c.loop-sector.sector in
    let place = first_block number + min sector (sectors_on number) in
    elim c.match-of.branch [
      | in-Some+in_ok-push_block-in-Some w ↦
          let within : sector < sectors_on number = has_sector number sector _ c.number-number.ensures.range.0 c.number-number.ensures.range.1 (sym c.of.ensures.place ∙ w.in-Some.is) in
          let more = sector_more number sector within in
          let here = sector_of number sector within in
          record {
            codes = ap (λ b. b.codes.items) w.blocks-is ∙ w.in_ok-push_block-in-Some.ensures.codes
                ∙ ap₂ (λ (xs : List ℕ) (x : ℕ). xs ++ x ∷ []) c.loop-sector.invariant.codes (w.read_block-code.ensures.code ∙ ap₂ (λ (id : Option (ℕ × ℕ)) (xs : List ℕ). block_code_of id xs number sector) c.requires.id (c.in_ok-bits.ensures ∙ ap (track_of file) (sym c.number-number.ensures.value)) ∙ code_is file number sector c.number-number.ensures.range.0 c.number-number.ensures.range.1 within ∙ ap (block_code file) (sym here))
                ∙ sym (ap (first_codes file) more ∙ codes_more file place);
            bytes = ap (λ b. b.bytes.items) w.blocks-is ∙ w.in_ok-push_block-in-Some.ensures.bytes
                ∙ ap₂ (λ (xs ys : List ℕ). xs ++ ys) c.loop-sector.invariant.bytes (w.read_block-code.ensures.bytes ∙ ap₂ (λ (id : Option (ℕ × ℕ)) (xs : List ℕ). block_bytes_of id xs number sector) c.requires.id (c.in_ok-bits.ensures ∙ ap (track_of file) (sym c.number-number.ensures.value)) ∙ bytes_are file number sector c.number-number.ensures.range.0 c.number-number.ensures.range.1 within ∙ ap (block_bytes file) (sym here))
                ∙ sym (ap (λ (n : ℕ). image_bytes (first_blocks file n)) more ∙ blocks_more file place);
          }
      | in-None w ↦
          let past = sector_past number sector (lacks_sector number sector c.number-number.ensures.range.0 c.number-number.ensures.range.1 (sym c.of.ensures.place ∙ w.in-None.is)) in
          record {
            codes = ap (λ b. b.codes.items) w.blocks-is ∙ c.loop-sector.invariant.codes ∙ ap (first_codes file) (sym past);
            bytes = ap (λ b. b.bytes.items) w.blocks-is ∙ c.loop-sector.invariant.bytes ∙ ap (λ (n : ℕ). image_bytes (first_blocks file n)) (sym past);
          }
    ]

pub returns-clause-codes : goal.returns-clause-codes
returns-clause-codes c =
    let number = c.number-number.result in
    let few = few_sectors number in
    let all : first_block number + min c.loop-sector.sector (sectors_on number) ≡ first_block number + sectors_on number = omega (arith, few, c.loop-sector-test.false) in
    c.loop-sector.invariant.codes ∙ ap (first_codes c.args.file.now) (all ∙ sym (next_track number c.number-number.ensures.range.0 c.number-number.ensures.range.1) ∙ ap (λ (n : ℕ). first_block (n + 1)) c.number-number.ensures.value)

pub returns-clause-bytes : goal.returns-clause-bytes
returns-clause-bytes c =
    let number = c.number-number.result in
    let few = few_sectors number in
    let all : first_block number + min c.loop-sector.sector (sectors_on number) ≡ first_block number + sectors_on number = omega (arith, few, c.loop-sector-test.false) in
    c.loop-sector.invariant.bytes ∙ ap (λ (n : ℕ). image_bytes (first_blocks c.args.file.now n)) (all ∙ sym (next_track number c.number-number.ensures.range.0 c.number-number.ensures.range.1) ∙ ap (λ (n : ℕ). first_block (n + 1)) c.number-number.ensures.value)
