use Rattle.std.proofs.Common.{Err, sym, ap, ◌∙◌}
use Rattle.cmd_extract.specs.Work.{is_had}
use Rattle.host_storage.specs.declared.host.FolderFault.{FolderFault}
use Rattle.cmd_extract.proofs.calls.have_folder.Goals as goal

pub returns-in-Ok : goal.returns-in-Ok
returns-in-Ok g c = (c.make_folder.result, (c.make_folder.ensures.made, c.make_folder.ensures.counted), sym (ap is_had c.in-Ok.is))

pub returns-in-Err-Exists : goal.returns-in-Err-Exists
returns-in-Err-Exists g c =
    (c.make_folder.result, (c.make_folder.ensures.made, c.make_folder.ensures.counted), sym (ap is_had (c.in-Err-Exists.is ∙ ap (λ (f : FolderFault). Err f) c.in-Err-Exists.field-0-is)))

pub returns-in-Err-Device : goal.returns-in-Err-Device
returns-in-Err-Device g c =
    (c.make_folder.result, (c.make_folder.ensures.made, c.make_folder.ensures.counted), sym (ap is_had (c.in-Err-Device.is ∙ ap (λ (f : FolderFault). Err f) c.in-Err-Device.field-0-is)))
