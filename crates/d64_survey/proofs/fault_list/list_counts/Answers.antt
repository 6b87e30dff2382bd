use Rattle.std.proofs.Common.{ℕ, ◌==◌, ◌++◌, not, List, length, append-nil, sym, ap, ap₂, ◌∙◌, arith}
use Rattle.std.specs.List.{flat_map}
use Rattle.std.proofs.lemmas.List.{flat_map_more}
use Rattle.d64_image.specs.Image.{tracks_of}
use Rattle.d64_image.proofs.TracksInTurn.{next_track}
use Rattle.d64_survey.specs.Faults.{where_so, count_fault}
use Rattle.d64_survey.specs.declared.fault.Fault.{Fault}
use Rattle.d64_survey.specs.declared.fault.Fault.TheVariants.{WrongCount}
use Rattle.d64_survey.proofs.fault_list.list_counts.Goals as goal

-- the fault of a track with this count byte, of which this many sectors are marked
abbrev wrong : ℕ → ℕ → ℕ → List Fault
wrong track count marked = where_so (not (count == marked)) (WrongCount track count marked)

pub free_count-count-requires : goal.free_count-count-requires
free_count-count-requires c =
    let next = next_track (tracks_of (length c.args.image.now)) c.in-Some.track c.loop-track.yielded c.next.new.self c.loop-track.track-iterator c.loop-track.invariant.split c.in-Some.ensures.steps in
    record { track = (omega (arith, next.is), next.within) }

pub free_on-marked-requires : goal.free_on-marked-requires
free_on-marked-requires c =
    let next = next_track (tracks_of (length c.args.image.now)) c.in-Some.track c.loop-track.yielded c.next.new.self c.loop-track.track-iterator c.loop-track.invariant.split c.in-Some.ensures.steps in
    record { track = (omega (arith, next.is), next.within) }

pub loop-track-preserved : goal.loop-track-preserved
loop-track-preserved c =
    let image = c.args.image.now in
    let track = c.in-Some.track in
    let done = c.loop-track.yielded in
    let next = next_track (tracks_of (length c.args.image.now)) c.in-Some.track c.loop-track.yielded c.next.new.self c.loop-track.track-iterator c.loop-track.invariant.split c.in-Some.ensures.steps in
    let before = c.args.faults.now.items in
    record {
      split = next.split;
      listed = c.in_ok-push_if.ensures
          ∙ ap (λ (l : List Fault). l ++ wrong c.number.result c.free_count-count.result c.free_on-marked.result) c.loop-track.invariant.listed
          ∙ ap (λ (t : ℕ). (before ++ flat_map (count_fault image) done) ++ wrong t c.free_count-count.result c.free_on-marked.result) c.number.ensures.value
          ∙ ap₂ (λ (count marked : ℕ). (before ++ flat_map (count_fault image) done) ++ wrong track count marked) c.free_count-count.ensures.count c.free_on-marked.ensures.free
          ∙ flat_map_more (count_fault image) before done track;
    }

pub returns : goal.returns
returns c =
    let done = c.loop-track.yielded in
    let all = sym (c.loop-track.invariant.split ∙ ap (λ (left : List ℕ). done ++ left) c.in-None.ensures.steps.0 ∙ append-nil done) in
    c.loop-track.invariant.listed ∙ ap (λ (tracks : List ℕ). c.args.faults.now.items ++ flat_map (count_fault c.args.image.now) tracks) all
