use Rattle.cmd_extract.proofs.calls.make_folder.Goals as goal

pub returns : goal.returns
returns g c = (c.make_folder.result, (c.make_folder.ensures.made, c.make_folder.ensures.counted), c.is_ok.ensures.value)
