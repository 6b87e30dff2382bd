use Rattle.d64_survey.proofs.Owning.{chain_is_way, slots_are, owned_are}
use Rattle.d64_survey.proofs.owner_laws.owners_are_those_of_files.Goals as goal

pub returns : goal.returns
returns c = λ image some chains. (chain_is_way image (18, 1) some, slots_are image some, owned_are image some chains)
