-- A number that is the same for all names that count as the same.
use Rattle.std.specs.Prelude.{ℕ, ◌+◌, ◌*◌, ◌%◌, ◌^◌, List, fold}
use Rattle.std.specs.Str.{str_to_ascii_lowercase}

-- the digest of a name with one more byte
abbrev pub next_digest : ℕ → ℕ → ℕ
next_digest digest byte = (digest * 31 % 2 ^ 32 + byte) % 2 ^ 32

-- the digest of a name
unfoldable pub name_digest : List ℕ → ℕ
name_digest name = fold next_digest 0 (str_to_ascii_lowercase name)
