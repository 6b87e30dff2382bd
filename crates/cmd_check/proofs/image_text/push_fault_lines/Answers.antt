use Rattle.std.proofs.Common.{◌≡◌, ◌∙◌, ℕ, ◌-◌, ◌++◌, List, ap, arith}
use Rattle.std.specs.List.{flat_map, range_with_len}
use Rattle.d64_survey.proofs.FaultLists.{listed_more}
use Rattle.cmd_check.specs.CheckText.{first_lines, faults_of, fault_lines}
use Rattle.cmd_check.proofs.image_text.push_fault_lines.Goals as goal

pub loop-number-preserved : goal.loop-number-preserved
loop-number-preserved c =
    let lines = λ (n : ℕ). first_lines c.args.survey.now (faults_of c.args.list.now n) in
    let number = c.loop-number.number in
    c.in_ok-push_lines_of.ensures
    ∙ ap (λ (text : List ℕ). text ++ lines number) c.loop-number.invariant
    ∙ listed_more lines c.args.out.now.items number c.loop-number.auto.number

pub returns : goal.returns
unfolding fault_lines
returns c =
    let lines = λ (n : ℕ). first_lines c.args.survey.now (faults_of c.args.list.now n) in
    let last : c.loop-number.number - 1 ≡ 6 = omega (arith, c.loop-number-test.false, c.loop-number.auto.number-end) in
    c.loop-number.invariant ∙ ap (λ (n : ℕ). c.args.out.now.items ++ flat_map lines (range_with_len 1 n)) last
