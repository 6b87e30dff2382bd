-- The deleted files of an image in a table for people.
use Rattle.std.specs.Prelude.{ℕ, if◌then◌else◌, List, [], ◌∷◌, ◌++◌, Option, codes, decimal}
use Rattle.std.specs.List.{flat_map}
use Rattle.std.specs.Option.{option_map_or}
use Rattle.d64_image.specs.Disk.{Disk}
use Rattle.d64_files.specs.Name.{name_in}
use Rattle.d64_survey.specs.declared.flaw.Flaw.TheVariants.{Broken, Missized}
use Rattle.d64_scratched.specs.Scratched.{is_lost}
use Rattle.d64_scratched.specs.declared.loss.Loss.{Loss}
use Rattle.d64_scratched.specs.declared.loss.Loss.TheVariants.{Chain, Reused, Marked, Size, Claimed, Unreadable}
use Rattle.d64_leftovers.specs.Deleted.{DeletedRowView}
use Rattle.out_messages.specs.FileText.{flaws_text}
use Rattle.out_messages.specs.Names.{quoted_name}
use Rattle.out_messages.specs.OwnerText.{block_owners}
use Rattle.out_files.specs.FileTable.{right_in, left_in}

-- by what the blocks of a deleted file were used again, by the first of them that has an owner
abbrev pub new_owners : Disk → Option ℕ → List ℕ
new_owners image block = option_map_or (λ block. codes " by " ++ block_owners image block) block []

-- a reason why a deleted file isn't whole
unfoldable pub loss_text : Disk → DeletedRowView → Loss → List ℕ
loss_text image row Chain = flaws_text row.size row.blocks (Broken ∷ [])
loss_text image row Reused = codes "its blocks were used again" ++ new_owners image row.reused
loss_text image row Marked = codes "its blocks are marked used"
loss_text image row Size = flaws_text row.size row.blocks (Missized ∷ [])
loss_text image row Claimed = codes "it shares blocks with a file deleted later"
loss_text image row Unreadable = codes "it has a read error"

-- the reasons, with commas between them
unfoldable pub losses_text : Disk → DeletedRowView → List Loss → List ℕ
losses_text image row [] = []
losses_text image row (loss ∷ losses) = loss_text image row loss ++ flat_map (λ other. codes ", " ++ loss_text image row other) losses

-- what is said before the reasons: that the file is lost, or can be brought back
abbrev pub hope_text : List Loss → List ℕ
hope_text [] = codes "can be brought back"
hope_text (loss ∷ losses) = if is_lost (loss ∷ losses) then codes "lost: " else codes "can be brought back, but "

-- whether a deleted file can be brought back, and why it isn't whole
unfoldable pub deleted_state : Disk → DeletedRowView → List ℕ
deleted_state image row = hope_text row.losses ++ losses_text image row row.losses

-- the text of a deleted file on a line: the size, the name, and whether it can be brought back;
-- its kind isn't known
unfoldable pub deleted_text : Disk → DeletedRowView → List ℕ
deleted_text image row =
    right_in 5 (decimal row.size) ++ (codes " " ++ (left_in 18 (quoted_name (name_in row.field)) ++ (codes "       " ++ deleted_state image row)))
