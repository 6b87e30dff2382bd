use Rattle.d64_image.proofs.Sets.{Decides-same_words, same_words-same_members}
use Rattle.d64_image.proofs.block_set.BlockSetPartialEq.eq.Goals as goal

pub returns-clause-compared : goal.returns-clause-compared
returns-clause-compared c =
    same_words-same_members c.self.inside.words c.other.inside.words c.args.self.now c.args.other.now c.self.invariant c.other.invariant c.self.view_is c.other.view_is c.eq.result c.eq.ensures

pub returns-clause-same : goal.returns-clause-same
returns-clause-same c =
    Decides-same_words c.self.inside.words c.other.inside.words c.args.self.now c.args.other.now c.self.invariant c.other.invariant c.self.view_is c.other.view_is c.eq.result c.eq.ensures
