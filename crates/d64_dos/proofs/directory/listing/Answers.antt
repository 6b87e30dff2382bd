use Rattle.std.proofs.Common.{◌≡◌, ℕ, List, Some, None, sym, ap, ◌∙◌, arith, rules}
use Rattle.std.specs.Prelude.{slice_range}
use Rattle.d64_image.specs.Image.{sector_at}
use Rattle.d64_map.specs.Map.{map_block}
use Rattle.d64_dos.specs.Listing.{rows_of}
use Rattle.d64_dos.specs.Refusal.{refused_by}
use Rattle.d64_dos.specs.declared.refusal.Refusal.TheVariants.{Directory}
use Rattle.d64_dos.proofs.ListedRows.{rows-entries, two_bytes, listing_by_fields}
use Rattle.d64_dos.proofs.Refusals.{readable, not_readable}
use Rattle.d64_dos.proofs.directory.listing.Goals as goal

pub returns-in_err-walk-clause-refused : goal.returns-in_err-walk-clause-refused
returns-in_err-walk-clause-refused c =
    let fault = c.in_err-walk.field-0.0 in
    let known : refused_by c.from_residual.result ≡ Some (Directory fault) = search rules in
    known ∙ sym (not_readable c.args.image.now fault c.in_err-walk.ensures.conditions)

pub returns-in_err-from_slice-clause-refused : goal.returns-in_err-from_slice-clause-refused
returns-in_err-from_slice-clause-refused c =
    let wants_memory : refused_by c.from_residual-in_err-from_slice.result ≡ None = search rules in wants_memory ∙ sym (readable c.args.image.now c.in_ok-walk.ensures.conditions)

pub returns-in_err-rows_of-clause-refused : goal.returns-in_err-rows_of-clause-refused
returns-in_err-rows_of-clause-refused c =
    let wants_memory : refused_by c.from_residual-in_err-rows_of.result ≡ None = search rules in
    wants_memory ∙ sym (readable c.args.image.now c.in_ok-walk.ensures.conditions)

pub returns-clause-refused : goal.returns-clause-refused
returns-clause-refused c = sym (readable c.args.image.now c.in_ok-walk.ensures.conditions)

pub returns-clause-listing : goal.returns-clause-listing
returns-clause-listing c =
    let image = c.args.image.now in
    let header = c.header_of-header.result.now in
    let same : header ≡ sector_at image map_block = c.header_of-header.ensures.value in
    let long = c.header_of-header.ensures.block.0 in
    listing_by_fields image _ _ _ _ _
    (c.in_ok-from_slice.ensures.items ∙ c.disk_name.ensures)
    (two_bytes header 0xA2 (omega (arith, long)) ∙ ap (λ (bytes : List ℕ). slice_range bytes 0xA2 0xA4) same)
    (two_bytes header 0xA5 (omega (arith, long)) ∙ ap (λ (bytes : List ℕ). slice_range bytes 0xA5 0xA7) same)
    (c.in_ok-rows_of.ensures ∙ ap rows_of c.in_ok-walk.ensures.slots ∙ rows-entries image)
    c.blocks_free.ensures
