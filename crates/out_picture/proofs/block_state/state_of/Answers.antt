use Rattle.std.proofs.Common.{◌≡◌, true, false, [], ◌∷◌, take, sym, ap, ◌∙◌}
use Rattle.std.specs.FinSet as set
use Rattle.d64_map.specs.Map.{free_blocks}
use Rattle.d64_survey.specs.Owners.{owners_of}
use Rattle.d64_survey.specs.declared.owner.Owner.{Owner}
use Rattle.out_picture.proofs.StateRules.{ruled, state-unreadable, state-none, state-one, state-more, ruled-one}
use Rattle.out_picture.proofs.block_state.state_of.Goals as goal

pub returns-then-is_unreadable : goal.returns-then-is_unreadable
returns-then-is_unreadable c = sym (state-unreadable c.args.inspection.now c.args.block (sym c.is_unreadable.ensures ∙ c.if-is_unreadable.true))

pub returns-in-empty : goal.returns-in-empty
returns-in-empty c =
    let dump = c.args.inspection.now in
    let shown : c.shown.result.now ≡ take 8 (owners_of dump.image c.args.block) = cc in
    let marked : set.contains (free_blocks dump.image) c.args.block ≡ true = cc in
    sym (state-none dump c.args.block c.shown.result.now true shown c.in-empty.len_below marked (sym c.is_unreadable.ensures ∙ c.if-is_unreadable.false))

pub returns-in-empty-2 : goal.returns-in-empty-2
returns-in-empty-2 c =
    let dump = c.args.inspection.now in
    let shown : c.shown.result.now ≡ take 8 (owners_of dump.image c.args.block) = cc in
    let marked : set.contains (free_blocks dump.image) c.args.block ≡ false = cc in
    sym (state-none dump c.args.block c.shown.result.now false shown c.in-empty.len_below marked (sym c.is_unreadable.ensures ∙ c.if-is_unreadable.false))

pub returns-in-len1 : goal.returns-in-len1
returns-in-len1 c =
    let dump = c.args.inspection.now in
    let shown : c.shown.result.now ≡ take 8 (owners_of dump.image c.args.block) = cc in
    let marked : set.contains (free_blocks dump.image) c.args.block ≡ false = cc in
    let by_rules = state-one dump c.args.block c.shown.result.now false c.owner-item.result shown c.in-len1.len_at_least c.in-len1.len_below marked (sym c.is_unreadable.ensures ∙ c.if-is_unreadable.false) in
    c.state_of_owner.ensures ∙ sym (by_rules ∙ ap (λ (owner : Owner). ruled (owner ∷ []) false false) (sym c.owner-item.is) ∙ ruled-one c.owner-item.result)

pub returns-in_default : goal.returns-in_default
returns-in_default c =
    let dump = c.args.inspection.now in
    let shown : c.shown.result.now ≡ take 8 (owners_of dump.image c.args.block) = cc in
    let marked : set.contains (free_blocks dump.image) c.args.block ≡ true = cc in
    sym (state-one dump c.args.block c.shown.result.now true c.owner-item.result shown c.in-len1.len_at_least c.in-len1.len_below marked (sym c.is_unreadable.ensures ∙ c.if-is_unreadable.false))

pub returns-in_default-2 : goal.returns-in_default-2
returns-in_default-2 c =
    let dump = c.args.inspection.now in
    let shown : c.shown.result.now ≡ take 8 (owners_of dump.image c.args.block) = cc in
    sym (state-more dump c.args.block c.shown.result.now shown c.in_default.len_at_least (sym c.is_unreadable.ensures ∙ c.if-is_unreadable.false))
