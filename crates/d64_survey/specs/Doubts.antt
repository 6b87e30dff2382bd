-- The doubts about an image: signs that a reader wrote something else for what it could not read.
use Rattle.std.specs.Prelude.{ℕ, ◌==◌, ◌&&◌, ◌||◌, nat_eq, nat_lt, not, Bool, if◌then◌else◌, List, [], ◌∷◌, ◌++◌, length, drop, slice_index, codes}
use Rattle.std.specs.List.{list_all, list_any, flat_map, range_with_len, starts_with}
use Rattle.std.specs.Cmp.Lexicographic.{pointwise}
use Rattle.d64_image.specs.Disk.{Disk, Bytes}
use Rattle.d64_image.specs.Image.{sector_at}
use Rattle.d64_map.specs.Map.{map_block}
use Rattle.d64_files.specs.Directory.{directory_start}
use Rattle.d64_survey.specs.Owners.{is_unowned}
use Rattle.d64_survey.specs.declared.doubt.Doubt.{Doubt}
use Rattle.d64_survey.specs.declared.doubt.Doubt.TheVariants.{Version, Blank, Unowned, Filler}

-- whether byte $02 of the map's block isn't $41, by which a 1541 knows its own disks
abbrev pub has_other_version : Disk → Bool
has_other_version image = not (slice_index (sector_at image map_block) 0x02 == 0x41)

-- whether the bytes of a block are all equal
unfoldable pub is_blank : Disk → ℕ → Bool
is_blank image block = list_all (nat_eq (slice_index (sector_at image block) 0)) (sector_at image block)

-- whether the map's block has the text by which GEOS knows its disks
abbrev pub is_for_geos : Disk → Bool
is_for_geos image = starts_with nat_eq (drop 0xAD (sector_at image map_block)) (codes "GEOS format")

-- whether a block of tracks 1 to 35 is neither free nor owned
abbrev pub is_stray : Disk → ℕ → Bool
is_stray image block = nat_lt block 683 && is_unowned image block

-- whether there is such a block, on a disk that isn't one of GEOS
unfoldable pub has_strays : Disk → Bool
has_strays image = not (is_for_geos image) && list_any (is_stray image) (range_with_len 0 (length image))

-- what copiers write in place of a block that they can't read: sixteen times this text
unfoldable pub filler : Bytes
filler = flat_map (λ n. codes "-=[BAD SECTOR]=-") (range_with_len 0 16)

-- whether a block has what copiers write for one that they can't read
abbrev pub is_filler : Disk → ℕ → Bool
is_filler image block = pointwise nat_eq filler (sector_at image block)

-- whether a block of the image has that
unfoldable pub has_filler : Disk → Bool
has_filler image = list_any (is_filler image) (range_with_len 0 (length image))

-- a list of the doubt if there is one, and else the empty list
abbrev pub where_doubted : Bool → Doubt → List Doubt
where_doubted there doubt = if there then doubt ∷ [] else []

-- the doubts of an image, in order
unfoldable pub doubts : Disk → List Doubt
doubts image =
    where_doubted (has_other_version image) Version
    ++ (where_doubted (is_blank image map_block || is_blank image directory_start) Blank
    ++ (where_doubted (has_strays image) Unowned
    ++ where_doubted (has_filler image) Filler))
