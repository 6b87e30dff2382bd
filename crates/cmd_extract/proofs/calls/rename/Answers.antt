use Rattle.cmd_extract.proofs.calls.rename.Goals as goal

pub returns : goal.returns
returns g c = (c.rename_folder.result, (c.rename_folder.ensures.made, c.rename_folder.ensures.counted), c.rename_folder.ensures.was, c.is_ok.ensures.value)
