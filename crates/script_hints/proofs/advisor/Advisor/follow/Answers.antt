use Rattle.std.proofs.Common.{◌≡◌, refl, rules, sym, ◌∙◌}
use Rattle.script_hints.proofs.Saying.{unwritten}
use Rattle.script_hints.proofs.advisor.Advisor.follow.Goals as goal

pub returns-then-is_followed-clause-past : goal.returns-then-is_followed-clause-past
returns-then-is_followed-clause-past g c raw says =
    rw (sym c.is_followed.ensures ∙ c.if-is_followed.true) (rw c.keep.ensures.others at (c.follow_change.ensures.past raw says))

pub returns-else-is_followed-clause-past : goal.returns-else-is_followed-clause-past
returns-else-is_followed-clause-past g c raw says = rw (sym c.is_followed.ensures ∙ c.if-is_followed.false) refl

pub returns-then-is_followed-clause-kept : goal.returns-then-is_followed-clause-kept
returns-then-is_followed-clause-kept g c raw says followed =
    let kept = rw c.image.ensures.present at (c.keep.ensures.kept raw says) in
    let same : c.follow_change.new.self.kept ≡ c.keep.new.self.kept = search rules in
    (kept.0, kept.1, same ∙ kept.2)

pub returns-then-is_followed-clause-named : goal.returns-then-is_followed-clause-named
returns-then-is_followed-clause-named g c raw says =
    rw (sym c.is_followed.ensures ∙ c.if-is_followed.true) (rw c.keep.ensures.others at (c.follow_change.ensures.named raw says))

pub returns-else-is_followed-clause-named : goal.returns-else-is_followed-clause-named
returns-else-is_followed-clause-named g c raw says = rw (sym c.is_followed.ensures ∙ c.if-is_followed.false) (unwritten _)
