use Rattle.std.proofs.Common.{◌≡◌, rules, ◌∙◌}
use Rattle.script_hints.proofs.Saying.{written_after}
use Rattle.script_hints.proofs.advisor.Advisor.observe_with.Goals as goal

-- each part goes by what the parts before it left
pub returns-clause-said : goal.returns-clause-said
returns-clause-said g c raw says =
    let refusal = rw c.image.ensures.present at (c.explain_refusal.ensures.explained raw says) in
    let typed-1 : c.explain_refusal.new.self.is_typed ≡ c.args.self.now.is_typed = search rules in
    let rows = rw typed-1 at (c.list_commands.ensures.listed raw says) in
    let typed-2 : c.list_commands.new.self.is_typed ≡ c.args.self.now.is_typed = search rules in
    let numbered-2 : c.list_commands.new.self.is_numbered ≡ c.args.self.now.is_numbered = search rules in
    let files-2 : c.list_commands.new.self.files ≡ c.args.self.now.files = search rules in
    let remark = rw (typed-2, numbered-2, files-2, c.image-2.ensures.present) at (c.remark_on.ensures.remarked raw says) in
    let typed-3 : c.remark_on.new.self.is_typed ≡ c.args.self.now.is_typed = search rules in
    let done-3 : c.remark_on.new.self.done ≡ c.args.self.now.done = search rules in
    let past-3 : c.remark_on.new.self.past ≡ c.args.self.now.past = search rules in
    let changes = rw (typed-3, done-3, past-3) at (c.follow.ensures.named raw says) in
    let output-4 : c.pass_line.new.self.output ≡ c.follow.new.self.output = search rules in (
      refusal.0,
      remark.0,
      refusal.1,
      remark.1,
      rw output-4 (written_after _ _ _ _ _ refusal.2 (written_after _ _ _ _ _ rows (written_after _ _ _ _ _ remark.2 changes))),
    )

pub returns-clause-kept : goal.returns-clause-kept
returns-clause-kept g c raw says followed =
    let typed-3 : c.remark_on.new.self.is_typed ≡ c.args.self.now.is_typed = search rules in
    let kept-3 : c.remark_on.new.self.kept ≡ c.args.self.now.kept = search rules in
    let kept = (rw (typed-3, kept-3) at (c.follow.ensures.kept raw says)) followed in
    let kept-4 : c.pass_line.new.self.kept ≡ c.follow.new.self.kept = search rules in
    (kept.0, kept.1, kept-4 ∙ kept.2)

pub returns-clause-stays : goal.returns-clause-stays
returns-clause-stays g c raw says other =
    let left-3 : c.remark_on.new.self.is_left ≡ c.args.self.now.is_left = search rules in
    let left-4 : c.pass_line.new.self.is_left ≡ c.follow.new.self.is_left = search rules in
    left-4 ∙ c.follow.ensures.stays raw says other ∙ left-3

pub returns-clause-past : goal.returns-clause-past
returns-clause-past g c raw says =
    let typed-3 : c.remark_on.new.self.is_typed ≡ c.args.self.now.is_typed = search rules in
    let done-3 : c.remark_on.new.self.done ≡ c.args.self.now.done = search rules in
    let past-3 : c.remark_on.new.self.past ≡ c.args.self.now.past = search rules in
    let past-4 : c.pass_line.new.self.past ≡ c.follow.new.self.past = search rules in
    rw past-4 (rw (typed-3, done-3, past-3) at (c.follow.ensures.past raw says))
