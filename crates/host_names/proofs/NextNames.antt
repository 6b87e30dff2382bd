-- The name that a file gets, as the code puts it together.
use Rattle.std.proofs.Common.{◌≡◌, ℕ, ◌-◌, ◌≤◌, Bool, List, ◌++◌, length, take, drop, sym, ap, ◌∙◌, append_assoc, arith}
use Rattle.std.proofs.lemmas.List.{take_at, drop_at, length-append}
use Rattle.host_names.specs.declared.ending.Ending.{Ending}
use Rattle.host_names.specs.HostName.{stem, tail, number_mark, numbered_name}
use Rattle.host_names.specs.TakenNames.{first_free, next_name}

-- the end of a name, and the part before it
pub tail_at : (front back whole : List ℕ) (place : ℕ) → place ≡ length front → whole ≡ front ++ back → drop place whole ≡ back
tail_at front back whole place at is = ap (drop place) is ∙ drop_at front back place (sym at)

pub front_at : (front back whole : List ℕ) (place : ℕ) → place ≡ length front → whole ≡ front ++ back → take place whole ≡ front
front_at front back whole place at is = ap (take place) is ∙ take_at front back place (sym at)

-- the first free name that begins as the first one does is the next one
pub next_is : (taken : List (List ℕ)) (text begun whole new : List ℕ) (place number : ℕ) (ending : Ending) (is_part : Bool) → begun ≡ stem text → place ≡ length begun
    → whole ≡ begun ++ tail ending is_part → number ≡ first_free taken (take place whole) (tail ending is_part)
    → new ≡ numbered_name (take place whole) (tail ending is_part) number → new ≡ next_name taken text ending is_part
unfolding next_name
next_is taken text begun whole new place number ending is_part begun_is at whole_is number_is new_is =
    let back = tail ending is_part in
    let front : take place whole ≡ stem text = front_at begun back whole place at whole_is ∙ begun_is in
    new_is ∙ ap (λ (f : List ℕ). numbered_name f back number) front
    ∙ ap (numbered_name (stem text) back) (number_is ∙ ap (λ (f : List ℕ). first_free taken f back) front)

-- where the end of a numbered name begins
pub end_fits : (front back new : List ℕ) (number size : ℕ) → size ≡ length back → new ≡ numbered_name front back number → size ≤ length new
unfolding numbered_name
end_fits front back new number size size_is is =
    omega (arith, ap length is, length-append front (number_mark number ++ back), length-append (number_mark number) back)

pub end_at : (front back new : List ℕ) (number size : ℕ) → size ≡ length back → new ≡ numbered_name front back number → drop (length new - size) new ≡ back
unfolding numbered_name
end_at front back new number size size_is is =
    let parted : new ≡ (front ++ number_mark number) ++ back = is ∙ sym (append_assoc front (number_mark number) back) in
    tail_at (front ++ number_mark number) back new (length new - size)
    (omega (arith, ap length parted, length-append (front ++ number_mark number) back)) parted

-- a numbered name begins with what it is made of
pub numbered_front : (front back : List ℕ) (number place : ℕ) → length front ≡ place → take place (numbered_name front back number) ≡ front
unfolding numbered_name
numbered_front front back number place at = take_at front (number_mark number ++ back) place at
