-- The bytes of a block, whatever the order of the dumps
use Rattle.std.proofs.Common.{◌≡◌, ◌≢◌, ℕ, ◌<◌, Bool, true, false, nat_lt, Option, Some, None, List, [], refl, sym, ap, ◌∙◌, arith, inl, inr}
use Rattle.std.specs.Prelude.{◌==◌}
use Rattle.std.specs.List.{All, find, list_any, position}
use Rattle.std.specs.Option.{option_map_or}
use Rattle.std.specs.List.Sorted.{IsPermutation}
use Rattle.std.proofs.lemmas.List.Sorted.{All-permutation}
use Rattle.std.proofs.lemmas.Bool.{cases_lt, le-ltb}
use Rattle.d64_image.specs.Image.{sector_at}
use Rattle.d64_survey.specs.Dump.{DumpView}
use Rattle.d64_merge.specs.Copies.{is_good, agree, good_count, votes, wins}
use Rattle.d64_merge.specs.Choices.{are_equal, first_good, dump_at}
use Rattle.d64_merge.proofs.Counts.{count_none, apart, find_all, find_none, found}
use Rattle.d64_merge.proofs.Agreements.{agreeing, agree_by}
use Rattle.d64_merge.proofs.Orders.{each_equal, same_good_count, same_wins, none_passes}

-- the bytes of a block in a dump; empty if there is no dump
abbrev pub bytes_in : ℕ → Option DumpView → List ℕ
bytes_in block dump = option_map_or (λ (dump : DumpView). sector_at dump.image block) dump []

-- a number that a test finds less than another one is less
pub below : (a b : ℕ) → nat_lt a b ≡ true → a < b
below a b h = elim (cases_lt a b) [ inl less ↦ less | inr more ↦ let wrong : true ≡ false = sym h ∙ le-ltb a b more in absurd (cc) ]

pub not_none : (n : ℕ) → (n == 0) ≡ false → n ≢ 0
not_none n h is = let wrong : true ≡ false = sym (ap (λ (m : ℕ). m == 0) is) ∙ h in absurd (cc)

module _ (block : ℕ) (dumps others : List DumpView) (perm : IsPermutation dumps others) where
  -- the first good copies in both orders have equal bytes, if all good copies are equal
  good_bytes_by : (first other : Option DumpView) → find (is_good block) dumps ≡ first → find (is_good block) others ≡ other
      → option_map_or (λ dump. votes block dumps dump == good_count block dumps) first true ≡ true → good_count block dumps ≢ 0
      → bytes_in block other ≡ bytes_in block first
  good_bytes_by None other a b h some = absurd (some (count_none (is_good block) dumps (find_none (is_good block) dumps a)))
  good_bytes_by (Some first) None a b h some =
      absurd (some (sym (same_good_count block dumps others perm) ∙ count_none (is_good block) others (find_none (is_good block) others b)))
  good_bytes_by (Some first) (Some other) a b h some =
      let each = All-permutation (λ x. is_good block x ≡ true → agree block first x ≡ true) dumps others perm (each_equal block dumps first h) in
      let is = find_all (is_good block) (λ x. is_good block x ≡ true → agree block first x ≡ true) others each other b in
      sym (agreeing block first other (is.0 is.1)).2

  pub good_bytes : are_equal block dumps ≡ true → good_count block dumps ≢ 0
      → bytes_in block (dump_at others (first_good block others)) ≡ bytes_in block (dump_at dumps (first_good block dumps))
  good_bytes h some =
      ap (bytes_in block) (found (is_good block) others)
      ∙ good_bytes_by (find (is_good block) dumps) (find (is_good block) others) refl refl
      (sym (ap (λ (dump : Option DumpView). option_map_or (λ dump. votes block dumps dump == good_count block dumps) dump true) (found (is_good block) dumps)) ∙ h) some
      ∙ ap (bytes_in block) (sym (found (is_good block) dumps))

  -- two copies that win are equal: otherwise there would be more good copies than there are
  two_winners : (one other : DumpView) → wins block dumps one ≡ true → wins block dumps other ≡ true → (agrees : Bool) → agree block one other ≡ agrees
      → sector_at one.image block ≡ sector_at other.image block
  two_winners one other a b true is = (agreeing block one other is).2
  two_winners one other a b false is =
      let split = apart (agree block one) (agree block other) (is_good block) (λ x h. (agreeing block one x h).1) (λ x h. (agreeing block other x h).1)
      (λ x h. not_both (agree block other x) x refl h) dumps in
      let first = below _ _ a in
      let second = below _ _ b in
      absurd (omega (arith, split, first, second))
    where
      not_both : (t : Bool) (x : DumpView) → agree block other x ≡ t → agree block one x ≡ true → t ≡ false
      not_both false x k h = refl
      not_both true x k h =
          let p = agreeing block one x h in
          let q = agreeing block other x k in
          let wrong : true ≡ false = sym (agree_by block one other p.0 q.0 (p.2 ∙ sym q.2)) ∙ is in
          absurd (cc)

  winner_bytes_by : (first other : Option DumpView) → find (wins block dumps) dumps ≡ first → find (wins block others) others ≡ other
      → list_any (wins block dumps) dumps ≡ true → list_any (wins block others) others ≡ true → bytes_in block other ≡ bytes_in block first
  winner_bytes_by None other a b h k = let wrong : true ≡ false = sym h ∙ none_passes (wins block dumps) dumps (find_none (wins block dumps) dumps a) in absurd (cc)
  winner_bytes_by (Some first) None a b h k = let wrong : true ≡ false = sym k ∙ none_passes (wins block others) others (find_none (wins block others) others b) in absurd (cc)
  winner_bytes_by (Some first) (Some other) a b h k =
      let p = (find_all (wins block dumps) (λ x. x ≡ x) dumps (all_so dumps) first a).1 in
      let q = (find_all (wins block others) (λ x. x ≡ x) others (all_so others) other b).1 in
      sym (two_winners first other p (sym (same_wins block dumps others perm other) ∙ q) (agree block first other) refl)
    where
      all_so : (xs : List DumpView) → All (λ x. x ≡ x) xs
      all_so xs = λ k d h. refl

  pub winner_bytes : list_any (wins block dumps) dumps ≡ true → list_any (wins block others) others ≡ true
      → bytes_in block (dump_at others (position (wins block others) others)) ≡ bytes_in block (dump_at dumps (position (wins block dumps) dumps))
  winner_bytes h k =
      ap (bytes_in block) (found (wins block others) others) ∙ winner_bytes_by (find (wins block dumps) dumps) (find (wins block others) others) refl refl h k
      ∙ ap (bytes_in block) (sym (found (wins block dumps) dumps))
