use Rattle.std.proofs.Common.{◌≡◌, None, ap, sym, ◌∙◌, subst, rules}
use Rattle.d64_files.specs.Chain.{LieIn}
use Rattle.d64_files.specs.FileData.{data_along}
use Rattle.d64_files.specs.Reading.{read_refused_by}
use Rattle.d64_files.specs.Slot.{first_pair}
use Rattle.d64_files.proofs.Chains.{chain_from-lies}
use Rattle.d64_files.proofs.reading.entry_content.Goals as goal

pub returns-in_err-data_along-clause-refused : goal.returns-in_err-data_along-clause-refused
returns-in_err-data_along-clause-refused c =
    let wants_memory : read_refused_by c.from_residual-in_err-data_along.result ≡ None = search rules in wants_memory ∙ c.in_ok-blocks.ensures.refused

pub returns-clause-bytes : goal.returns-clause-bytes
returns-clause-bytes c =
    c.in_ok-data_along.ensures.value
    ∙ ap (data_along c.args.image.now) (c.as_slice.ensures.value ∙ c.in_ok-blocks.ensures.chain)

-- the image has the blocks of the file
pub data_along-requires : goal.data_along-requires
data_along-requires c =
    let root = first_pair c.args.entry.now.bytes in
    subst (LieIn c.args.image.now) (sym (c.as_slice.ensures.value ∙ c.in_ok-blocks.ensures.chain)) (chain_from-lies c.args.image.now root.0 root.1)
