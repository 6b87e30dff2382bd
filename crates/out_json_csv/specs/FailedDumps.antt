-- What is printed of a file that cannot be read or is not a dump.
use Rattle.std.specs.Prelude.{ℕ, List, [], ◌∷◌, codes, if◌then◌else◌, length}
use Rattle.std.specs.Str.Lossy.{utf8_lossy}
use Rattle.json.specs.Json.{Json, string}
use Rattle.out_json_csv.specs.Values.{Field, object_of, numeral}
use Rattle.d64_g64.specs.File.{begins_as_g64}

-- a name of the host; what is not UTF-8 in it becomes U+FFFD
abbrev pub host_value : List ℕ → Json
host_value name = string (utf8_lossy name)

-- the member with the name of a file on the host
abbrev pub image_member : List ℕ → Field
image_member name = (codes "image", host_value name)

-- the object of such a file, with this error
abbrev pub failed_object : List ℕ → List ℕ → Json
failed_object name error = object_of (image_member name ∷ (codes "error", string error) ∷ [])

-- the object of a file that cannot be read
abbrev pub unread_object : List ℕ → Json
unread_object name = failed_object name (codes "cannot be read")

-- the object of a file whose length no dump has
abbrev pub wrong_length_object : List ℕ → ℕ → Json
wrong_length_object name count =
    object_of (image_member name ∷ (codes "error", string (codes "wrong length")) ∷ (codes "length", numeral count) ∷ [])

-- the object of a file with these bytes, which is not a dump: a bad G64, or a file whose length no
-- dump has
abbrev pub no_dump_object : List ℕ → List ℕ → Json
no_dump_object name bytes = if begins_as_g64 bytes then failed_object name (codes "bad G64") else wrong_length_object name (length bytes)

-- the error of such a file
abbrev pub no_dump_error : List ℕ → List ℕ
no_dump_error bytes = if begins_as_g64 bytes then codes "bad G64" else codes "wrong length"
