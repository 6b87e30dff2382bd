-- The URL of a path of the host, as a link on a page has it.
use Rattle.std.specs.Prelude.{ℕ, ◌+◌, ◌/◌, ◌%◌, nat_eq, nat_lt, ◌||◌, Bool, if◌then◌else◌, List, [], ◌∷◌, ◌++◌, codes}
use Rattle.std.specs.Char.{is_ascii_alphanumeric}
use Rattle.std.specs.List.{flat_map, list_any, starts_with}

-- the characters beside letters and digits that a URL has as they are: `-`, `.`, `_`, `~`, and the
-- `/` between the parts of the path
unfoldable pub url_characters : List ℕ
url_characters = codes "-._~/"

-- a URL has a byte as it is
unfoldable pub is_url_byte : ℕ → Bool
is_url_byte byte = is_ascii_alphanumeric byte || list_any (nat_eq byte) url_characters

-- a hexadecimal digit, with capital letters
abbrev pub url_digit : ℕ → ℕ
url_digit number = if nat_lt number 10 then 48 + number else 55 + number

-- a byte as a URL has it: as it is, or as `%` and its two digits
unfoldable pub url_byte : ℕ → List ℕ
url_byte byte = if is_url_byte byte then byte ∷ [] else 37 ∷ url_digit (byte / 16) ∷ url_digit (byte % 16) ∷ []

-- a path begins with `//`, which in a URL begins the name of another host
abbrev pub begins_host : List ℕ → Bool
begins_host path = starts_with nat_eq path (codes "//")

-- what is put before such a path, so that it stays a path
unfoldable pub url_front : List ℕ → List ℕ
url_front path = if begins_host path then codes "/." else []

-- the URL of a path
unfoldable pub url_of : List ℕ → List ℕ
url_of path = url_front path ++ flat_map url_byte path
