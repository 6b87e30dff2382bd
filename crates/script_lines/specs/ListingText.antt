-- The lines of a directory.
use Rattle.std.specs.Prelude.{ℕ, ◌-◌, if◌then◌else◌, [], ◌++◌, length, replicate, codes}
use Rattle.d64_image.specs.Disk.{Bytes}
use Rattle.std.specs.Fmt.{decimal}
use Rattle.std.specs.List.{flat_map}
use Rattle.petscii.specs.Spelling.{spelling}
use Rattle.d64_dos.specs.Listing.{RowView, ListingView}
use Rattle.d64_files.specs.declared.kind.Kind.{Kind}
use Rattle.d64_files.specs.declared.kind.Kind.TheVariants.{Del, Seq, Prg, Usr, Rel}

-- a text filled with spaces to a number of places, if it is shorter
abbrev pub padded_text : ℕ → Bytes → Bytes
padded_text places text = text ++ replicate (places - length text) 32

-- a kind's three letters
abbrev pub listed_kind_text : Kind → Bytes
listed_kind_text Del = codes "del"
listed_kind_text Seq = codes "seq"
listed_kind_text Prg = codes "prg"
listed_kind_text Usr = codes "usr"
listed_kind_text Rel = codes "rel"

-- the first line: the disk's name, id and DOS version
unfoldable pub header_line : ListingView → Bytes
header_line listing =
    codes "0 \"" ++ padded_text 16 (spelling listing.name) ++ codes "\" " ++ spelling listing.id ++ codes " " ++ spelling listing.dos ++ codes "\n"

-- the line of a file: size in blocks, quoted name, `*` unless closed, kind, `<` if locked
unfoldable pub row_line : RowView → Bytes
row_line row =
    padded_text 5 (decimal row.blocks) ++ codes " " ++ padded_text 18 (codes "\"" ++ spelling row.name ++ codes "\"")
    ++ (if row.closed then codes " " else codes "*") ++ listed_kind_text row.kind ++ (if row.locked then codes "<" else []) ++ codes "\n"

-- the last line: the number of free blocks
unfoldable pub free_line : ListingView → Bytes
free_line listing = decimal listing.free ++ codes " blocks free.\n"

-- the lines that show a directory
unfoldable pub listing_text : ListingView → Bytes
listing_text listing = header_line listing ++ flat_map row_line listing.rows ++ free_line listing
