-- The state of a block, which a map shows for each block.
use Rattle.std.specs.Prelude.{ℕ, ◌&&◌, ◌||◌, Bool, true, false, if◌then◌else◌, List, [], ◌∷◌, codes}
use Rattle.std.specs.List.{list_any}
use Rattle.std.specs.FinSet as set
use Rattle.d64_image.specs.Disk.{Disk}
use Rattle.d64_map.specs.Map.{free_blocks}
use Rattle.d64_survey.specs.Dump.{DumpView, is_read_error}
use Rattle.d64_survey.specs.ReadErrors.{code_of}
use Rattle.d64_survey.specs.Owners.{owners_of, is_owned, is_shared, is_unowned}
use Rattle.d64_survey.specs.declared.owner.Owner.{Owner}
use Rattle.d64_survey.specs.declared.owner.Owner.TheVariants as owners
use Rattle.out_picture.specs.declared.block_state.BlockState.{BlockState}
use Rattle.out_picture.specs.declared.block_state.BlockState.TheVariants.{Free, File, System, Unowned, Fault, Unreadable}

-- an owner is the map or the directory
abbrev pub is_system : Owner → Bool
is_system owners.Map = true
is_system owners.Directory = true
is_system (owners.File slot part) = false

-- the map or the directory owns a block
abbrev pub is_of_system : Disk → ℕ → Bool
is_of_system image block = list_any is_system (owners_of image block)

-- a block has more than one owner, or one though the map marks it free
abbrev pub is_faulty : Disk → ℕ → Bool
is_faulty image block = is_shared image block || (is_owned image block && set.contains (free_blocks image) block)

-- the read code of a block is a read error
abbrev pub is_unreadable : DumpView → ℕ → Bool
is_unreadable dump block = is_read_error (code_of dump.codes block)

-- the state of the last of these rules that holds, or the default if no rule holds
abbrev pub by_last : BlockState → List (Bool × BlockState) → BlockState
by_last state [] = state
by_last state (rule ∷ rules) = by_last (if rule.0 then rule.1 else state) rules

-- the state of a block: free, unless one of these rules holds; the last one wins
unfoldable pub state_of_block : DumpView → ℕ → BlockState
state_of_block dump block =
    by_last Free
    ((is_owned dump.image block, File)
    ∷ (is_of_system dump.image block, System)
    ∷ (is_unowned dump.image block, Unowned)
    ∷ (is_faulty dump.image block, Fault)
    ∷ (is_unreadable dump block, Unreadable)
    ∷ [])

-- the state of a block with this one owner that is marked used
abbrev pub state_of_owner : Owner → BlockState
state_of_owner owner = if is_system owner then System else File

-- the character of a state
abbrev pub state_mark : BlockState → List ℕ
state_mark Free = codes "-"
state_mark File = codes "#"
state_mark System = codes "="
state_mark Unowned = codes "?"
state_mark Fault = codes "!"
state_mark Unreadable = codes "x"
