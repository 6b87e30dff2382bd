-- An image one of whose blocks is lent to be written.
use Rattle.std.specs.Prelude.{ℕ, List}
use Rattle.std.specs.Borrow.{Lends, MutBor, Fml, Array, u8}
use Rattle.d64_image.specs.Image.{with_sector}
use Rattle.d64_image.specs.contracts.image.Image.{the_row}

-- the image ends with that block replaced by the last value of the borrow r
abbrev pub LendsSector : MutBor (List (List ℕ)) → ℕ → MutBor (List ℕ) → Fml
LendsSector image block r = Lends the_row (Array u8 256) image r (with_sector image.now block)
