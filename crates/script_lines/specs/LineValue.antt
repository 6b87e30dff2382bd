-- The act of a line as the code has it, and arguments as they were read.
use Rattle.std.specs.Prelude.{map, Option, option_map, Result, Ok, Err}
use Rattle.d64_image.specs.Disk.{Bytes}
use Rattle.d64_history.specs.History.{History}
use Rattle.script_lines.specs.declared.status.Status.{Status}
use Rattle.script_lines.specs.Act.{Act, Give, Refuse, Ending}
use Rattle.script_lines.specs.Line.{block_act, block_read_act, block_write_act, crunch_act, delete_act, format_act, history_act, keep_act, list_act, name_act, petcat_act, quit_act, read_act, redo_act, rename_act, save_act, type_act, undelete_act, undo_act, validate_act, write_act}
use Rattle.script_lines.specs.declared.line.Line.{Line}
use Rattle.script_lines.specs.declared.line.Line.TheVariants.{Block, BlockRead, BlockWrite, Crunch, Delete, Format, ListHistory, Keep, ListDirectory, Name, Petcat, Quit, Read, Redo, Rename, Save, ShowText, Undelete, Undo, Validate, Write}

-- the act of a line
abbrev pub act_of : Option Bytes → History → Line → Act Ending
act_of home history (Block track sector) = block_act history (track.now, sector.now)
act_of home history (BlockRead host track sector) = block_read_act history (host.now, (track.now, sector.now))
act_of home history (BlockWrite host track sector) = block_write_act history (host.now, (track.now, sector.now))
act_of home history (Crunch host name) = crunch_act history (host.now, option_map (λ argument. argument.now) name)
act_of home history (Delete patterns) = delete_act history (map (λ argument. argument.now) patterns.now)
act_of home history (Format name_and_id) = format_act history name_and_id.now
act_of home history ListHistory = history_act history
act_of home history (Keep host) = keep_act history host.now
act_of home history ListDirectory = list_act history
act_of home history (Name name_and_id) = name_act history name_and_id.now
act_of home history (Petcat name) = petcat_act history name.now
act_of home history Quit = quit_act history
act_of home history (Read name host) = read_act history (name.now, option_map (λ argument. argument.now) host)
act_of home history Redo = redo_act history
act_of home history (Rename old new) = rename_act history (old.now, new.now)
act_of home history (Save host) = save_act home history (option_map (λ argument. argument.now) host)
act_of home history (ShowText name) = type_act history name.now
act_of home history (Undelete name_and_kind) = undelete_act history name_and_kind.now
act_of home history Undo = undo_act history
act_of home history Validate = validate_act history
act_of home history (Write host name) = write_act history (host.now, option_map (λ argument. argument.now) name)

-- the act of a line that was read, or the status that refuses its arguments
abbrev pub act_of_result : Option Bytes → History → Result Line Status → Act Ending
act_of_result home history (Ok line) = act_of home history line
act_of_result home history (Err status) = Refuse status

-- arguments as they were read, each as its bytes, or the status that refuses them
abbrev pub arguments_or_refusal : {A B : Type 0} → (A → B) → Result A Status → Act B
arguments_or_refusal bytes (Ok arguments) = Give (bytes arguments)
arguments_or_refusal bytes (Err status) = Refuse status
