use Rattle.std.proofs.Common.{◌≡◌, ◌++◌, take}
use Rattle.std.specs.List.{flat_map}
use Rattle.d64_dos.specs.Listing.{shown_row, shown_listing}
use Rattle.script_lines.specs.ListingText.{header_line, row_line}
use Rattle.script_lines.proofs.listing_text.listing_text.Given as goal

-- the header and the lines of the rows so far
abbrev pub invariant-loop-row : goal.invariant-loop-row
invariant-loop-row l = l.text.items ≡ header_line (shown_listing l.listing) ++ flat_map (λ row. row_line (shown_row row)) (take l.row-index l.listing.rows.items)
