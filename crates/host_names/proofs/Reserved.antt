-- No name of a file is that of a device.
use Rattle.std.proofs.Common.{◌≡◌, ◌≢◌, ℕ, suc, ◌+◌, Bool, true, false, not, ◌⊎◌, List, [], ◌∷◌, ◌++◌, length, take, get_or, refl, sym, ap, ◌∙◌, inl, inr, append-nil, append_assoc, arith}
use Rattle.std.specs.Prelude.{◌==◌, ◌&&◌, if◌then◌else◌, codes, decimal}
use Rattle.std.specs.Char.{to_ascii_lowercase}
use Rattle.std.specs.Int.{is_in_range}
use Rattle.std.specs.List.{list_any, list_all, position_or_len}
use Rattle.std.specs.Str.{str_to_ascii_lowercase}
use Rattle.std.proofs.lemmas.Bool.{cases_eq, both_ways, false_from_ne_true, ne_eqb, or_from, and_left, and_parts, and_right}
use Rattle.std.proofs.lemmas.List.{map-append, length-append}
use Rattle.std.proofs.lemmas.List.Folds.{list_all-append}
use Rattle.host_names.specs.declared.ending.Ending.{Ending}
use Rattle.host_names.specs.declared.ending.Ending.TheVariants.{Del, Seq, Prg, Usr, Rel, Deleted, Orphan}
use Rattle.host_names.specs.HostName.{full_stop, underscore, is_same_name, before_dot, device_name, without_last_spaces, devices, ports, is_port, is_reserved, allowed_name, unhidden_name, closed_name, filled_name, unreserved_name, stem, ending_text, part_ending, tail, number_mark, numbered_name}
use Rattle.host_names.specs.TakenNames.{first_free, next_name}
use Rattle.host_names.proofs.SameNames.{lower_from_same}
use Rattle.host_names.proofs.Numbers.{first_mark, other_mark}
use Rattle.host_names.proofs.Spaces.{front_kept}

-- ---- names that are not reserved

-- a word without a space
abbrev has_no_space : List ℕ → Bool
has_no_space word = list_all (λ byte. not (byte == 32)) word

and_false : (a : Bool) → (a && false) ≡ false
and_false true = refl
and_false false = refl

-- a name with a space isn't one without
spaced_differs : (front rest word : List ℕ) → has_no_space (str_to_ascii_lowercase word) ≡ true → is_same_name (front ++ 32 ∷ rest) word ≡ false
spaced_differs front rest word spaceless =
    false_from_ne_true (is_same_name (front ++ 32 ∷ rest) word)
    (λ same.
    let lower = str_to_ascii_lowercase in
    let is : lower front ++ 32 ∷ lower rest ≡ lower word = sym (map-append to_ascii_lowercase front (32 ∷ rest)) ∙ lower_from_same (front ++ 32 ∷ rest) word same in
    let none : has_no_space (lower front ++ 32 ∷ lower rest) ≡ false =
    list_all-append (λ byte. not (byte == 32)) (lower front) (32 ∷ lower rest) ∙ and_false (has_no_space (lower front)) in
    both_ways (has_no_space (lower word)) (ap has_no_space (sym is) ∙ none) spaceless)

-- nor any of some words, each without a space
spaced_among : (front rest : List ℕ) (words : List (List ℕ)) → list_all (λ word. has_no_space (str_to_ascii_lowercase word)) words ≡ true
    → list_any (is_same_name (front ++ 32 ∷ rest)) words ≡ false
spaced_among front rest [] spaceless = refl
spaced_among front rest (word ∷ words) spaceless =
    let both = and_parts (has_no_space (str_to_ascii_lowercase word)) (list_all (λ word. has_no_space (str_to_ascii_lowercase word)) words) spaceless in
    or_from (is_same_name (front ++ 32 ∷ rest) word) (list_any (is_same_name (front ++ 32 ∷ rest)) words) (spaced_differs front rest word both.0)
    (spaced_among front rest words both.1)

-- no port's word has one, nor has any device
spaced_word : (front rest : List ℕ) → list_any (is_same_name (front ++ 32 ∷ rest)) ports ≡ false
spaced_word front rest = spaced_among front rest ports refl

spaced_device : (front rest : List ℕ) → list_any (is_same_name (front ++ 32 ∷ rest)) devices ≡ false
spaced_device front rest = spaced_among front rest devices refl

-- the parts of the test of ports
no_port_word : (name : List ℕ) → list_any (is_same_name (take 3 name)) ports ≡ false → is_port name ≡ false
no_port_word name none =
    and_right (length name == 4) (is_in_range 49 57 (get_or name 3 0) && list_any (is_same_name (take 3 name)) ports)
    (and_right (is_in_range 49 57 (get_or name 3 0)) (list_any (is_same_name (take 3 name)) ports) none)

no_port_number : (name : List ℕ) → is_in_range 49 57 (get_or name 3 0) ≡ false → is_port name ≡ false
no_port_number name none =
    and_right (length name == 4) (is_in_range 49 57 (get_or name 3 0) && list_any (is_same_name (take 3 name)) ports)
    (and_left (is_in_range 49 57 (get_or name 3 0)) (list_any (is_same_name (take 3 name)) ports) none)

no_port_length : (name : List ℕ) → length name ≢ 4 → is_port name ≡ false
no_port_length name other = and_left (length name == 4) (is_in_range 49 57 (get_or name 3 0) && list_any (is_same_name (take 3 name)) ports) (ne_eqb (length name) 4 other)

spaced_port : (front rest : List ℕ) → is_port (front ++ 32 ∷ rest) ≡ false
spaced_port [] rest = no_port_word (32 ∷ rest) (spaced_word [] (take 2 rest))
spaced_port (a ∷ []) rest = no_port_word (a ∷ 32 ∷ rest) (spaced_word (a ∷ []) (take 1 rest))
spaced_port (a ∷ b ∷ []) rest = no_port_word (a ∷ b ∷ 32 ∷ rest) (spaced_word (a ∷ b ∷ []) [])
spaced_port (a ∷ b ∷ c ∷ []) rest = no_port_number (a ∷ b ∷ c ∷ 32 ∷ rest) refl
spaced_port (a ∷ b ∷ c ∷ d ∷ more) rest =
    no_port_length (a ∷ b ∷ c ∷ d ∷ (more ++ 32 ∷ rest)) (λ is. omega (arith, length-append more (32 ∷ rest)))

-- a name with a space is not reserved
spaced : (front rest : List ℕ) → is_reserved (front ++ 32 ∷ rest) ≡ false
unfolding is_reserved
spaced front rest = or_from (list_any (is_same_name (front ++ 32 ∷ rest)) devices) (is_port (front ++ 32 ∷ rest)) (spaced_device front rest) (spaced_port front rest)

-- nor is one that begins with `_`
underscored : (rest : List ℕ) → is_reserved (underscore ∷ rest) ≡ false
unfolding is_reserved
underscored rest = or_from (list_any (is_same_name (underscore ∷ rest)) devices) (is_port (underscore ∷ rest)) refl (no_port_word (underscore ∷ rest) refl)

-- ---- what is before the first full stop

before_stop : (byte : ℕ) (name : List ℕ) → (byte == full_stop) ≡ true → before_dot (byte ∷ name) ≡ []
before_stop byte name is = ap (λ (t : Bool). take (if not t then 1 + position_or_len (λ b. b == full_stop) name else 0) (byte ∷ name)) is

before_other : (byte : ℕ) (name : List ℕ) → (byte == full_stop) ≡ false → before_dot (byte ∷ name) ≡ byte ∷ before_dot name
before_other byte name is =
    let more : 1 + position_or_len (λ b. b == full_stop) name ≡ suc (position_or_len (λ b. b == full_stop) name) = omega arith in
    ap (λ (t : Bool). take (if not t then 1 + position_or_len (λ b. b == full_stop) name else 0) (byte ∷ name)) is
    ∙ ap (λ (n : ℕ). take n (byte ∷ name)) more

-- before the first one of two lists: it is in the first list, or all of that list is before it
before-append : (front rest : List ℕ) → (before_dot (front ++ rest) ≡ before_dot front)
    ⊎ ((before_dot (front ++ rest) ≡ front ++ before_dot rest) × (before_dot front ≡ front))
before-append [] rest = inr (refl, refl)
before-append (byte ∷ front) rest = by_test (before-append front rest) (byte == full_stop) refl
  where
    by_test : ((before_dot (front ++ rest) ≡ before_dot front) ⊎ ((before_dot (front ++ rest) ≡ front ++ before_dot rest) × (before_dot front ≡ front))) → (t : Bool)
        → (byte == full_stop) ≡ t
        → (before_dot (byte ∷ (front ++ rest)) ≡ before_dot (byte ∷ front))
        ⊎ ((before_dot (byte ∷ (front ++ rest)) ≡ byte ∷ (front ++ before_dot rest)) × (before_dot (byte ∷ front) ≡ byte ∷ front))
    by_test others true is = inl (before_stop byte (front ++ rest) is ∙ sym (before_stop byte front is))
    by_test (inl same) false is = inl (before_other byte (front ++ rest) is ∙ ap (λ (bs : List ℕ). byte ∷ bs) same ∙ sym (before_other byte front is))
    by_test (inr both) false is =
        inr (before_other byte (front ++ rest) is ∙ ap (λ (bs : List ℕ). byte ∷ bs) both.0, before_other byte front is ∙ ap (λ (bs : List ℕ). byte ∷ bs) both.1)

-- nothing is before the full stop of an end
before_tail : (ending : Ending) (is_part : Bool) → before_dot (tail ending is_part) ≡ []
unfolding tail ending_text part_ending
before_tail Del is_part = before_stop 46 (codes "del" ++ part_ending is_part) refl
before_tail Seq is_part = before_stop 46 (codes "seq" ++ part_ending is_part) refl
before_tail Prg is_part = before_stop 46 (codes "prg" ++ part_ending is_part) refl
before_tail Usr is_part = before_stop 46 (codes "usr" ++ part_ending is_part) refl
before_tail Rel is_part = before_stop 46 (codes "rel" ++ part_ending is_part) refl
before_tail Deleted is_part = before_stop 46 (codes "deleted" ++ part_ending is_part) refl
before_tail Orphan is_part = before_stop 46 (codes "orphan" ++ part_ending is_part) refl

-- ---- names

-- the test of a device, by what comes before the first full stop
abbrev is_device : List ℕ → Bool
is_device front = is_reserved (without_last_spaces front)

-- what a name begins with
unreserved_free : (name : List ℕ) → is_reserved (device_name (unreserved_name name)) ≡ false
unreserved_free name = by_test (is_reserved (device_name name)) refl
  where
    by_test : (t : Bool) → is_reserved (device_name name) ≡ t → is_reserved (device_name (if t then underscore ∷ name else name)) ≡ false
    by_test true is =
        ap is_device (before_other underscore name refl)
        ∙ ap is_reserved (front_kept [] underscore (before_dot name) refl)
        ∙ underscored (device_name name)
    by_test false is = is

stem_free : (text : List ℕ) → is_reserved (device_name (stem text)) ≡ false
unfolding stem
stem_free text = unreserved_free (filled_name (closed_name (unhidden_name (allowed_name text))))

-- a bracket after a space is no part of a device's name
bracketed_free : (front rest : List ℕ) → is_device (front ++ 32 ∷ 40 ∷ rest) ≡ false
bracketed_free front rest =
    ap is_device (sym (append_assoc front (32 ∷ []) (40 ∷ rest)))
    ∙ ap is_reserved (front_kept (front ++ 32 ∷ []) 40 rest refl ∙ append_assoc front (32 ∷ []) (40 ∷ without_last_spaces rest))
    ∙ spaced front (40 ∷ without_last_spaces rest)

-- a name whose front is free is free
numbered_free : (front : List ℕ) (number : ℕ) (ending : Ending) (is_part : Bool) → is_reserved (device_name front) ≡ false
    → is_reserved (device_name (numbered_name front (tail ending is_part) number)) ≡ false
unfolding numbered_name
numbered_free front number ending is_part free =
    elim (before-append front (number_mark number ++ tail ending is_part)) [
      | inl same ↦ ap is_device same ∙ free
      | inr both ↦ elim (cases_eq number 1) [
        | inl one ↦
            let none : before_dot (number_mark number ++ tail ending is_part) ≡ [] =
            ap (λ (bs : List ℕ). before_dot (bs ++ tail ending is_part)) (ap number_mark one ∙ first_mark) ∙ before_tail ending is_part in
            ap is_device (both.0 ∙ ap (λ (bs : List ℕ). front ++ bs) none ∙ append-nil front ∙ sym both.1) ∙ free
        | inr other ↦
            let more = (decimal number ++ codes ")") ++ tail ending is_part in
            let some : before_dot (number_mark number ++ tail ending is_part) ≡ 32 ∷ 40 ∷ before_dot more =
            ap (λ (bs : List ℕ). before_dot (bs ++ tail ending is_part)) (other_mark number other) ∙ before_other 32 (40 ∷ more) refl
            ∙ ap (λ (bs : List ℕ). 32 ∷ bs) (before_other 40 more refl) in
            ap is_device (both.0 ∙ ap (λ (bs : List ℕ). front ++ bs) some) ∙ bracketed_free front (before_dot more)
      ]
    ]

pub name_unreserved : (taken : List (List ℕ)) (text : List ℕ) (ending : Ending) (is_part : Bool)
    → is_reserved (device_name (next_name taken text ending is_part)) ≡ false
unfolding next_name
name_unreserved taken text ending is_part =
    numbered_free (stem text) (first_free taken (stem text) (tail ending is_part)) ending is_part (stem_free text)
