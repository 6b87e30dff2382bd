use Rattle.std.proofs.Common.{◌+◌, ℕ, List, take, sym, ap, ◌∙◌, inl, inr, arith}
use Rattle.std.proofs.lemmas.Bool.{cases_eq}
use Rattle.std.proofs.lemmas.List.{length-take-le}
use Rattle.host_names.specs.HostName.{numbered_name, tail}
use Rattle.host_names.specs.TakenNames.{is_taken}
use Rattle.host_names.specs.Records.{names_of}
use Rattle.host_names.proofs.NextNames.{numbered_front}
use Rattle.host_names.proofs.Records.{length-names}
use Rattle.host_names.proofs.Search.{first_free_at, first_free_past}
use Rattle.host_names.proofs.taken_names.put_free.Goals as goal

pub returns-then-not-is_taken-clause-number : goal.returns-then-not-is_taken-clause-number
returns-then-not-is_taken-clause-number c =
    let names = names_of c.args.names.now in
    let front = take c.args.stem_len c.args.name.now.items in
    let back = tail c.args.ending c.args.is_part in
    let number = c.loop-number.number in
    let made = c.in_ok-put_numbered.ensures ∙ ap (λ (f : List ℕ). numbered_name f back number) c.loop-number.invariant.0 in
    let free = ap (is_taken names) (sym made) ∙ ap (is_taken names) (sym c.deref.ensures.value) ∙ sym c.if-not-is_taken.ensures in
    first_free_at names front back number (omega (arith, c.requires.from)) (omega (arith, length-names c.args.names.now)) free c.loop-number.invariant.1

pub loop-number-preserved : goal.loop-number-preserved
loop-number-preserved c =
    let names = names_of c.args.names.now in
    let front = take c.args.stem_len c.args.name.now.items in
    let back = tail c.args.ending c.args.is_part in
    let number = c.loop-number.number in
    let made = c.in_ok-put_numbered.ensures ∙ ap (λ (f : List ℕ). numbered_name f back number) c.loop-number.invariant.0 in
    let not_free = ap (is_taken names) (sym made) ∙ ap (is_taken names) (sym c.deref.ensures.value) ∙ sym c.if-not-is_taken.ensures in (
      ap (take c.args.stem_len) made ∙ numbered_front front back number c.args.stem_len (length-take-le c.args.stem_len c.args.name.now.items c.requires.within),
      λ k low below. elim (cases_eq k number) [
        | inl is ↦ ap (λ (n : ℕ). is_taken names (numbered_name front back n)) is ∙ not_free
        | inr before ↦ c.loop-number.invariant.1 k low (omega arith)
      ],
    )

pub returns-clause-number : goal.returns-clause-number
returns-clause-number c =
    let names = names_of c.args.names.now in
    ap (λ (n : ℕ). n + 1) (sym (length-names c.args.names.now))
    ∙ first_free_past names (take c.args.stem_len c.args.name.now.items) (tail c.args.ending c.args.is_part)
    (λ k low below. c.loop-number.invariant.1 k low (omega (arith, length-names c.args.names.now)))
