use Rattle.std.proofs.Common.{◌≡◌, ℕ, ◌++◌, ◌≤◌, List, codes, length, take, map, ap, sym, ◌∙◌, append_assoc, arith}
use Rattle.std.specs.Fmt.{decimal}
use Rattle.std.specs.List.{flat_map}
use Rattle.std.proofs.lemmas.List.{take_all}
use Rattle.std.proofs.lemmas.List.Folds.{flat_map-map}
use Rattle.d64_dos.specs.Listing.{shown_row, shown_listing}
use Rattle.d64_dos.specs.declared.row.Row.{Row}
use Rattle.script_lines.specs.ListingText.{header_line, row_line, free_line, listing_text}
use Rattle.script_lines.proofs.listing_text.listing_text.Goals as goal

-- the lines of the rows
row_lines : (rows : List Row) (index : ℕ) → length rows ≤ index → flat_map (λ row. row_line (shown_row row)) (take index rows) ≡ flat_map row_line (map shown_row rows)
row_lines rows index all = ap (λ (r : List Row). flat_map (λ row. row_line (shown_row row)) r) (take_all index rows all) ∙ sym (flat_map-map row_line shown_row rows)

-- the parts of the text one after the other
whole : (header rows number last : List ℕ) → ((header ++ rows) ++ number) ++ last ≡ (header ++ rows) ++ (number ++ last)
whole header rows number last = append_assoc (header ++ rows) number last

pub returns : goal.returns
unfolding listing_text free_line
returns c =
    let header = header_line (shown_listing c.args.listing.now) in
    let number = decimal c.args.listing.now.free in
    let all : length c.args.listing.now.rows.items ≤ c.loop-row.row-index = omega arith in
    c.in_ok-extend_from_slice.ensures.items
    ∙ ap (λ text. text ++ codes " blocks free.\n") (c.in_ok-push_number.ensures ∙ ap (λ text. text ++ number) (c.loop-row.invariant ∙ ap (λ rows. header ++ rows) (row_lines c.args.listing.now.rows.items c.loop-row.row-index all)))
    ∙ whole header (flat_map row_line (map shown_row c.args.listing.now.rows.items)) number (codes " blocks free.\n")
