-- What a file whose length no image has seems to be.
use Rattle.std.specs.Prelude.{ℕ, ◌==◌, ◌&&◌, nat_eq, nat_le, nat_lt, if◌then◌else◌, List, [], ◌∷◌, ◌++◌, length, Option, Some, None, codes}
use Rattle.std.specs.List.{starts_with}
use Rattle.std.specs.Option.{option_map_or}
use Rattle.out_messages.specs.declared.guess.Guess.{Guess}
use Rattle.out_messages.specs.declared.guess.Guess.TheVariants.{Empty, Tracks36, Tracks37, Tracks38, Tracks39, Tracks41, Tracks42, Disk1571, Disk1581, D67, D80, D82, G64, Nib, T64, P00, Zip, Gzip, Cut35, Cut40}

-- files that are known by their length: images of other sizes, each without read codes and with a
-- code for each block. A track beyond the 35th has 17 blocks
unfoldable pub lengths : List (ℕ × Guess)
lengths =
    (0, Empty)
    ∷ (179200, Tracks36) ∷ (179900, Tracks36)
    ∷ (183552, Tracks37) ∷ (184269, Tracks37)
    ∷ (187904, Tracks38) ∷ (188638, Tracks38)
    ∷ (192256, Tracks39) ∷ (193007, Tracks39)
    ∷ (200960, Tracks41) ∷ (201745, Tracks41)
    ∷ (205312, Tracks42) ∷ (206114, Tracks42)
    ∷ (349696, Disk1571) ∷ (351062, Disk1571)
    ∷ (819200, Disk1581) ∷ (822400, Disk1581)
    ∷ (176640, D67) ∷ (533248, D80) ∷ (1066496, D82)
    ∷ []

-- files that are known by their first bytes; a P00 file comes before a T64 archive, since it begins
-- with the letters of one
unfoldable pub first_bytes : List (List ℕ × Guess)
first_bytes =
    (codes "GCR-1541", G64)
    ∷ (codes "MNIB-1541-RAW", Nib)
    ∷ (codes "C64File" ++ 0 ∷ [], P00)
    ∷ (codes "C64", T64)
    ∷ (0x50 ∷ 0x4B ∷ 3 ∷ 4 ∷ [], Zip)
    ∷ (0x1F ∷ 0x8B ∷ [], Gzip)
    ∷ []

-- the guess in the first row of this length
abbrev pub guess_in : List (ℕ × Guess) → ℕ → Option Guess
guess_in [] len = None
guess_in (row ∷ rows) len = if len == row.0 then Some row.1 else guess_in rows len

-- what a file with this length seems to be, by that alone
abbrev pub guess_by_length : ℕ → Option Guess
guess_by_length len = guess_in lengths len

-- the guess in the first row whose bytes these begin with
abbrev pub guess_from : List (List ℕ × Guess) → List ℕ → Option Guess
guess_from [] bytes = None
guess_from (row ∷ rows) bytes = if starts_with nat_eq bytes row.0 then Some row.1 else guess_from rows bytes

-- what a file seems to be, by its first bytes
abbrev pub guess_by_first_bytes : List ℕ → Option Guess
guess_by_first_bytes bytes = guess_from first_bytes bytes

-- the image whose beginning a file with this length seems to be: of 35 tracks if it reaches beyond
-- the directory's first block, and of 40 if it reaches beyond track 36
abbrev pub cut_short : ℕ → Option Guess
cut_short len =
    if nat_le 91904 len && nat_lt len 174848 then Some Cut35
    else (if nat_lt 179900 len && nat_lt len 196608 then Some Cut40 else None)

-- the first guess, or the second if there is none
abbrev pub or_else : Option Guess → Option Guess → Option Guess
or_else first second = option_map_or (λ guess. Some guess) first second

-- what a file seems to be: by its length, by its first bytes, or as the beginning of an image
abbrev pub guess_of : List ℕ → Option Guess
guess_of bytes = or_else (guess_by_length (length bytes)) (or_else (guess_by_first_bytes bytes) (cut_short (length bytes)))

-- a guess in words
abbrev pub guess_text : Guess → List ℕ
guess_text Empty = codes "an empty file"
guess_text Tracks36 = codes "36 tracks"
guess_text Tracks37 = codes "37 tracks"
guess_text Tracks38 = codes "38 tracks"
guess_text Tracks39 = codes "39 tracks"
guess_text Tracks41 = codes "41 tracks"
guess_text Tracks42 = codes "42 tracks"
guess_text Disk1571 = codes "a 1571 image"
guess_text Disk1581 = codes "a 1581 image"
guess_text D67 = codes "a D67 image"
guess_text D80 = codes "a D80 image"
guess_text D82 = codes "a D82 image"
guess_text G64 = codes "a G64 image"
guess_text Nib = codes "a NIB image"
guess_text T64 = codes "a T64 archive"
guess_text P00 = codes "a P00 file"
guess_text Zip = codes "a zip archive"
guess_text Gzip = codes "a gzip file"
guess_text Cut35 = codes "a 35-track image cut short"
guess_text Cut40 = codes "a 40-track image cut short"
