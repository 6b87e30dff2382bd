use Rattle.cmd_extract.proofs.WholeList.{list_is_whole}
use Rattle.cmd_extract.proofs.unpack_laws.the_list_is_whole.Goals as goal

pub returns : goal.returns
returns c = list_is_whole
