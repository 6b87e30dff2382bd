use Rattle.std.proofs.Common.{◌≡◌, ◌∙◌, ℕ, length, sym, ap, Vec, Global, arith}
use Rattle.d64_survey.specs.Faults.{number}
use Rattle.cmd_check.proofs.FaultCounts.{count-more, faults_of-other, line-more, line-same}
use Rattle.cmd_check.proofs.image_text.push_lines_of.Goals as goal
use Rattle.cmd_check.proofs.image_text.push_lines_of.Goals.{then-number+in_ok-push_first_line, else-number}

pub loop-fault-preserved : goal.loop-fault-preserved
loop-fault-preserved c =
    let list = c.args.list.now in
    let i = c.loop-fault.fault-index in
    let condition = c.args.number in
    let fault = c.fault-item.result in
    elim c.if-number.branch [
      | then-number+in_ok-push_first_line w ↦
          let same : number fault ≡ condition = sym c.number.ensures ∙ w.if-number.true in
          record {
            count = count-more list i condition c.loop-fault.count c.if-number.count fault c.loop-fault-test.true c.fault-item.is same c.loop-fault.invariant.count w.count-is;
            below = omega (arith, c.loop-fault.invariant.below, w.count-is);
            text = line-more c.args.survey.now list i condition c.loop-fault.count fault c.args.out.now.items c.loop-fault.out.items c.if-number.out.items c.loop-fault-test.true
                c.fault-item.is same c.loop-fault.invariant.count c.loop-fault.invariant.text (ap (λ (o : Vec ℕ Global). o.items) w.out-is ∙ w.in_ok-push_first_line.ensures);
          }
      | else-number w ↦
          let other : number fault ≡ condition → ⊥ = λ same. w.if-number.false (c.number.ensures ∙ same) in
          record {
            count = w.count-is ∙ c.loop-fault.invariant.count ∙ ap length (sym (faults_of-other list i condition fault c.loop-fault-test.true c.fault-item.is other));
            below = omega (arith, c.loop-fault.invariant.below, w.count-is);
            text = line-same c.args.survey.now list i condition fault c.args.out.now.items c.loop-fault.out.items c.if-number.out.items c.loop-fault-test.true
                c.fault-item.is other c.loop-fault.invariant.text (ap (λ (o : Vec ℕ Global). o.items) w.out-is);
          }
    ]
