use Rattle.std.proofs.Common.{◌∙◌, sym}
use Rattle.std.proofs.lemmas.Bool.{false_from_ne_true, ne_eqb}
use Rattle.host_names.specs.HostName.{is_same_name}
use Rattle.host_names.proofs.SameNames.{digest_from_same}
use Rattle.host_names.proofs.taken_names.has_name.Goals as goal

pub returns-else-taken-digest : goal.returns-else-taken-digest
returns-else-taken-digest c =
    let kept = c.args.taken.now.name.items in
    let name = c.args.name.now in
    ne_eqb c.args.taken.now.digest c.args.digest c.if-taken-digest.false
    ∙ sym (false_from_ne_true (is_same_name kept name) (λ same. c.if-taken-digest.false (c.requires.kept ∙ digest_from_same kept name same ∙ sym c.requires.asked)))
