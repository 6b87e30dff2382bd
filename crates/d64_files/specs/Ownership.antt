-- The blocks that the files of an image own.
use Rattle.std.specs.Prelude.{◌≡◌, ◌≢◌, ℕ, false, if◌then◌else◌, List, [], ◌∷◌, All}
use Rattle.std.specs.List.{flat_map}
use Rattle.std.specs.Option.{option_to_list}
use Rattle.std.specs.FinSet as set
use Rattle.d64_image.specs.Disk.{Disk, Bytes, Blocks}
use Rattle.d64_map.specs.Map.{free_blocks}
use Rattle.d64_files.specs.Chain.{chain_from}
use Rattle.d64_files.specs.Slot.{is_closed, kind_of, first_pair, side_pair}
use Rattle.d64_files.specs.declared.kind.Kind.{Kind}
use Rattle.d64_files.specs.declared.kind.Kind.TheVariants.{Del, Seq, Prg, Usr, Rel}

-- where each chain of a closed file begins; a REL file may have two
abbrev pub roots_of : Kind → Bytes → List (ℕ × ℕ)
roots_of Del cell = []
roots_of Seq cell = first_pair cell ∷ []
roots_of Prg cell = first_pair cell ∷ []
roots_of Usr cell = first_pair cell ∷ []
roots_of Rel cell = first_pair cell ∷ option_to_list (side_pair cell)

-- the same for a slot; a file that isn't closed has no chain
abbrev pub roots : Bytes → List (ℕ × ℕ)
roots cell = if is_closed cell then roots_of (kind_of cell) cell else []

-- the chain from a track and sector
abbrev pub chain_at : Disk → ℕ × ℕ → Blocks
chain_at image root = chain_from image root.0 root.1

-- the blocks of a slot's chains
abbrev pub owned_by : Disk → Bytes → Blocks
owned_by image cell = flat_map (chain_at image) (roots cell)

-- each chain that a slot should have exists
abbrev pub HasItsChains : Disk → Bytes → Type 0
HasItsChains image cell = All (λ root. chain_at image root ≢ []) (roots cell)

-- the map marks no block of a list free
abbrev pub NoneIsFree : Disk → Blocks → Type 0
NoneIsFree image blocks = All (λ block. set.contains (free_blocks image) block ≡ false) blocks
