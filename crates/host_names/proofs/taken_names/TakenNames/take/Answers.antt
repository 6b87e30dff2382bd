use Rattle.std.proofs.Common.{◌≡◌, ◌+◌, ◌-◌, ◌^◌, ◌≤◌, ◌<◌, true, ℕ, List, [], ◌∷◌, ◌++◌, length, take, drop, get_or, sym, subst, ap, ◌∙◌, rules, arith}
use Rattle.std.proofs.lemmas.List.{get_or-take, length-append}
use Rattle.host_names.specs.declared.taken_names.Taken.{Taken}
use Rattle.host_names.specs.HostName.{is_same_name, numbered_name, tail}
use Rattle.host_names.specs.TakenNames.{first_free}
use Rattle.host_names.specs.Records.{names_of, AreTried, AreNameRecords}
use Rattle.host_names.proofs.NextNames.{tail_at, next_is, end_fits, end_at}
use Rattle.host_names.proofs.Records.{BeginsAt, begins_at, length-names, tried_all}
use Rattle.host_names.proofs.Search.{first_free_within}
use Rattle.host_names.proofs.taken_names.TakenNames.take.Goals as goal

-- where the search begins
begins : (c : goal.After-put_free-arg-1) → BeginsAt c.as_slice-names.result.now c.push_tail.new.name.items c.len-stem_len.result (tail c.args.ending c.args.is_part) c.first_number-first.result
begins c =
    let records = c.as_slice-names.result.now in
    let whole = c.push_tail.new.name.items in
    let back = tail c.args.ending c.args.is_part in
    let name_is = c.deref.ensures.value in
    let all : AreNameRecords records = subst (λ (r : List Taken). AreNameRecords r) (sym c.as_slice-names.ensures.value) c.self.invariant in
    let ends : drop c.len-stem_len.result whole ≡ back =
    tail_at c.put_stem.new.name.items back whole c.len-stem_len.result (omega arith) c.in_ok-push_tail.ensures in
    let fits : c.len-stem_len.result ≤ length whole =
    omega (arith, ap length c.in_ok-push_tail.ensures, length-append c.put_stem.new.name.items back) in
    let from_name = begins_at records c.deref.result.now c.len-stem_len.result c.args.ending c.args.is_part c.find-found.result c.first_number-first.result all
    (subst (λ (name : List ℕ). c.len-stem_len.result ≤ length name) (sym name_is) fits)
    (subst (λ (name : List ℕ). drop c.len-stem_len.result name ≡ back) (sym name_is) ends)
    c.find-found.ensures.within c.find-found.ensures.found c.first_number-first.ensures in
    subst (λ (name : List ℕ). BeginsAt records name c.len-stem_len.result back c.first_number-first.result) name_is from_name

pub put_free-requires-clause-from : goal.put_free-requires-clause-from
put_free-requires-clause-from c = (begins c).0

pub put_free-requires-clause-tried : goal.put_free-requires-clause-tried
put_free-requires-clause-tried c = (begins c).1

pub overflow_sub-len : goal.overflow_sub-len
overflow_sub-len c =
    let front = take c.len-stem_len.result c.push_tail.new.name.items in
    let back = tail c.args.ending c.args.is_part in
    let fits = end_fits front back c.put_free.new.name.items c.in_ok-number.number (c.len.result - c.len-stem_len.result)
    (omega (arith, ap length c.in_ok-push_tail.ensures, length-append c.put_stem.new.name.items back)) c.in_ok-number.ensures.named in
    omega arith

pub keep-requires-clause-ends : goal.keep-requires-clause-ends
keep-requires-clause-ends c =
    let front = take c.len-stem_len.result c.push_tail.new.name.items in
    let back = tail c.args.ending c.args.is_part in
    let size = c.len.result - c.len-stem_len.result in
    let new = c.put_free.new.name.items in
    let there = end_at front back new c.in_ok-number.number size
    (omega (arith, ap length c.in_ok-push_tail.ensures, length-append c.put_stem.new.name.items back)) c.in_ok-number.ensures.named in
    let long : length new - size ≡ c.len-2.result - size = omega arith in (
      c.args.ending,
      c.args.is_part,
      ap (drop (c.len-2.result - size)) c.deref-2.ensures.value ∙ ap (λ (n : ℕ). drop n new) (sym long) ∙ there,
    )

pub overflow_add-number : goal.overflow_add-number
overflow_add-number c =
    let records = c.as_slice-names.result.now in
    let front = take c.len-stem_len.result c.push_tail.new.name.items in
    let back = tail c.args.ending c.args.is_part in
    let within = first_free_within (names_of records) front back in
    let small : c.in_ok-number.number + 1 < 2 ^ 64 = omega (arith, within.1, c.in_ok-number.ensures.number, length-names records, c.as_slice-names.type_inv) in
    search rules

pub pass-requires-clause-tried : goal.pass-requires-clause-tried
pass-requires-clause-tried c = λ d.
    let records = c.as_slice-names.result.now in
    let after = c.deref_mut.result.now in
    let whole = c.push_tail.new.name.items in
    let new = c.put_free.new.name.items in
    let place = c.in-Some.place in
    let back = tail c.args.ending c.args.is_part in
    let front = take c.len-stem_len.result whole in
    let all : AreNameRecords records = subst (λ (r : List Taken). AreNameRecords r) (sym c.as_slice-names.ensures.value) c.self.invariant in
    let ends : drop c.len-stem_len.result whole ≡ back = tail_at c.put_stem.new.name.items back whole c.len-stem_len.result (omega arith) c.in_ok-push_tail.ensures in
    let fits : c.len-stem_len.result ≤ length whole = omega (arith, ap length c.in_ok-push_tail.ensures, length-append c.put_stem.new.name.items back) in
    let same : is_same_name (get_or records place d).name.items whole ≡ true =
    ap (is_same_name (get_or records place d).name.items) (sym c.deref.ensures.value) ∙ c.in-Some.ensures.found d in
    let number_is = c.in_ok-number.ensures.number in
    let new_is : new ≡ numbered_name front back (first_free (names_of records) front back) = c.in_ok-number.ensures.named ∙ ap (numbered_name front back) number_is in
    let tried = tried_all records whole new c.len-stem_len.result place d c.args.ending c.args.is_part all fits ends c.in-Some.ensures.within same new_is in
    let kept : after ≡ c.keep.new.names.items = c.deref_mut.ensures.value in
    let items = c.self.inside.names.items in
    let inside : place < length items = omega (arith, c.in-Some.ensures.within, ap length c.as_slice-names.ensures.value) in
    let same_record : get_or after place d ≡ get_or records place d =
    ap (λ (r : List Taken). get_or r place d) kept ∙ sym (get_or-take (length items) c.keep.new.names.items place d inside)
    ∙ ap (λ (r : List Taken). get_or r place d) (c.in_ok-keep.ensures.before ∙ sym c.as_slice-names.ensures.value) in
    let same_names : names_of after ≡ names_of records ++ new ∷ [] =
    ap names_of kept ∙ c.in_ok-keep.ensures.names
    ∙ ap (λ (name : List ℕ). names_of items ++ name ∷ []) c.deref-2.ensures.value
    ∙ ap (λ (r : List Taken). names_of r ++ new ∷ []) (sym c.as_slice-names.ensures.value) in
    subst (λ (names : List (List ℕ)). AreTried names (get_or after place d) (c.in_ok-number.number + 1)) (sym same_names)
    (subst (λ (taken : Taken). AreTried (names_of records ++ new ∷ []) taken (c.in_ok-number.number + 1)) (sym same_record)
    (subst (λ (n : ℕ). AreTried (names_of records ++ new ∷ []) (get_or records place d) (n + 1)) (sym number_is) tried))

pub returns-in-Some-clause-named : goal.returns-in-Some-clause-named
returns-in-Some-clause-named c =
    let front = take c.len-stem_len.result c.push_tail.new.name.items in
    let back = tail c.args.ending c.args.is_part in
    next_is c.args.self.now c.args.text.now c.put_stem.new.name.items c.push_tail.new.name.items c.put_free.new.name.items c.len-stem_len.result
    c.in_ok-number.number c.args.ending c.args.is_part c.in_ok-put_stem.ensures (omega arith) c.in_ok-push_tail.ensures
    (c.in_ok-number.ensures.number ∙ ap (λ (names : List (List ℕ)). first_free names front back) (ap names_of c.as_slice-names.ensures.value ∙ c.self.view_is))
    c.in_ok-number.ensures.named

pub returns-in_default-clause-named : goal.returns-in_default-clause-named
returns-in_default-clause-named c =
    let front = take c.len-stem_len.result c.push_tail.new.name.items in
    let back = tail c.args.ending c.args.is_part in
    next_is c.args.self.now c.args.text.now c.put_stem.new.name.items c.push_tail.new.name.items c.put_free.new.name.items c.len-stem_len.result
    c.in_ok-number.number c.args.ending c.args.is_part c.in_ok-put_stem.ensures (omega arith) c.in_ok-push_tail.ensures
    (c.in_ok-number.ensures.number ∙ ap (λ (names : List (List ℕ)). first_free names front back) (ap names_of c.as_slice-names.ensures.value ∙ c.self.view_is))
    c.in_ok-number.ensures.named
