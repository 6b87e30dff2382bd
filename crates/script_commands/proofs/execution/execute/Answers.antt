use Rattle.script_commands.proofs.execution.execute.Goals as goal

pub returns-in-ListHistory : goal.returns-in-ListHistory
returns-in-ListHistory g c = rw c.in-ListHistory.is (c.history.ensures _)

pub returns-in-ListDirectory : goal.returns-in-ListDirectory
returns-in-ListDirectory g c = rw c.in-ListDirectory.is (c.list.ensures _)

pub returns-in-Name : goal.returns-in-Name
returns-in-Name g c = rw c.in-Name.is (c.name.ensures _)

pub returns-in-Petcat : goal.returns-in-Petcat
returns-in-Petcat g c = rw c.in-Petcat.is (c.petcat.ensures _)

pub returns-in-Quit : goal.returns-in-Quit
returns-in-Quit g c = rw c.in-Quit.is (c.quit.ensures _ _)

pub returns-in-Rename : goal.returns-in-Rename
returns-in-Rename g c = rw c.in-Rename.is (c.rename.ensures _)

pub returns-in-ShowText : goal.returns-in-ShowText
returns-in-ShowText g c = rw c.in-ShowText.is (c.type_text.ensures _)

pub returns-in-Undelete : goal.returns-in-Undelete
returns-in-Undelete g c = rw c.in-Undelete.is (c.undelete.ensures _)

pub returns-in-Validate : goal.returns-in-Validate
returns-in-Validate g c = rw c.in-Validate.is (c.validate.ensures _)
