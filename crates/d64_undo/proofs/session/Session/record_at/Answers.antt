use Rattle.std.proofs.Common.{◌≡◌, ◌<◌, ℕ, [], length, get_or, sym, ap, ◌∙◌, arith}
use Rattle.std.proofs.lemmas.List.{get_or_default}
use Rattle.d64_history.proofs.Sessions.{holds, record_found, record_missing}
use Rattle.d64_undo.proofs.session.Session.record_at.Goals as goal

-- the record's blocks are lent
pub returns-then-number-len : goal.returns-then-number-len
returns-then-number-len c =
    let records = c.self.inside.records in
    let less = c.if-number-len.true in
    let count = c.len.ensures in
    let within : c.args.number < length records = omega arith in
    let patch = c.at.result.now in
    let read : patch ≡ get_or records c.args.number [] = c.at.ensures.kept ∙ ap (λ (n : ℕ). get_or records n []) c.place_before.ensures.number in
    record_found c.args.number patch (holds c.self.invariant c.self.view_is) within (read ∙ sym (get_or_default records c.args.number patch [] within))

-- there is no such record
pub returns-else-number-len : goal.returns-else-number-len
returns-else-number-len c =
    let most = c.if-number-len.false in
    let count = c.len.ensures in
    (record_missing c.args.number (holds c.self.invariant c.self.view_is) (omega arith)).0
