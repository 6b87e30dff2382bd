use Rattle.std.proofs.Common.{◌≡◌, ℕ, List, ◌++◌, Vec, Global, sym, ap, ◌∙◌, arith}
use Rattle.std.specs.List.{flat_map}
use Rattle.d64_map.specs.Track.{blocks_on}
use Rattle.d64_map.proofs.Maps.{sectors_few}
use Rattle.out_picture.specs.States.{state_of_block, state_mark}
use Rattle.cmd_map.specs.MapText.{track_row}
use Rattle.cmd_map.proofs.Rows.{all_taken, one_taken, none_taken}
use Rattle.cmd_map.proofs.text.push_row.Goals as goal
use Rattle.cmd_map.proofs.text.push_row.Goals.{in-Some+in_ok-extend_from_slice-in-Some, in-None}

pub loop-sector-preserved : goal.loop-sector-preserved
loop-sector-preserved c =
    let dump = c.args.inspection.now in
    let before = c.loop-sector.out.items in
    let track = c.number-number.result in
    let sector = c.loop-sector.sector in
    elim c.match-of.branch [
      | in-Some+in_ok-extend_from_slice-in-Some w ↦
          let more : c.match-of.out.items ≡ before ++ state_mark (state_of_block dump w.in-Some.block) =
          ap (λ (out : Vec ℕ Global). out.items) w.out-is ∙ w.in_ok-extend_from_slice-in-Some.ensures.items
          ∙ ap (λ (text : List ℕ). before ++ text) (w.mark.ensures ∙ ap state_mark w.state_of.ensures) in
          one_taken (λ (block : ℕ). state_mark (state_of_block dump block)) before c.match-of.out.items c.args.out.now.items track sector w.in-Some.block c.number-number.ensures.range.0 c.number-number.ensures.range.1
          (sym c.of.ensures.place ∙ w.in-Some.is) c.loop-sector.invariant more
      | in-None w ↦
          let same : c.match-of.out.items ≡ before = cc in
          none_taken (λ (block : ℕ). state_mark (state_of_block dump block)) before c.match-of.out.items c.args.out.now.items track sector c.number-number.ensures.range.0 c.number-number.ensures.range.1
          (sym c.of.ensures.place ∙ w.in-None.is) c.loop-sector.invariant same
    ]

pub returns : goal.returns
unfolding track_row
returns c =
    let track = c.number-number.result in
    c.loop-sector.invariant
    ∙ ap (λ (blocks : List ℕ). c.args.out.now.items ++ flat_map (λ block. state_mark (state_of_block c.args.inspection.now block)) blocks)
    (all_taken track c.loop-sector.sector (let few = sectors_few track in omega arith) ∙ ap blocks_on c.number-number.ensures.value)
