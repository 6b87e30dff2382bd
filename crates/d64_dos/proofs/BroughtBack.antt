-- a file that is brought back is one file more, and one that was just deleted is the one from before
use Rattle.std.proofs.Common.{◌≡◌, ◌≢◌, ℕ, zero, suc, cond, eq-eqb, ◌+◌, ◌==◌, ◌<◌, Bool, true, false, not, eqb, List, [], ◌∷◌, length, get_or, Option, Some, None, refl, sym, ap, ap₂, ◌∙◌, subst, inl, inr, arith}
use Rattle.std.specs.Prelude.{◌&&◌, All, find, is_some, bytes_eq}
use Rattle.std.specs.List.{enumerate_from, list_any}
use Rattle.std.specs.Option.{option_map, option_or, option_map_or, option_and_then}
use Rattle.std.specs.FinSet as set
use Rattle.std.proofs.lemmas.Bool.{cases_Bool, eqb-true}
use Rattle.std.proofs.lemmas.List.{get_or-set_same, get_or-set_other, length-set}
use Rattle.std.proofs.lemmas.List.Elements.{All-from_get_or}
use Rattle.std.proofs.lemmas.Slice.Eq.{bytes_eq-Decides}
use Rattle.std.proofs.lemmas.List.Folds.{list_any_at, list_any_none}
use Rattle.d64_image.specs.Image.{IsImage}
use Rattle.d64_map.specs.Map.{free_blocks, with_map}
use Rattle.d64_image.proofs.Pairs.{block_of-none}
use Rattle.d64_files.specs.Chain.{chain, block_in, held_block}
use Rattle.d64_files.specs.Directory.{slots, numbered_slots, has_name, is_name_taken}
use Rattle.d64_files.specs.FirstFault.{first_fault, sound_conditions}
use Rattle.d64_files.specs.Name.{name_in}
use Rattle.d64_files.specs.Ownership.{chain_at}
use Rattle.d64_files.specs.Slot.{is_used, first_pair, name_of}
use Rattle.d64_files.specs.Writing.{written_at}
use Rattle.d64_files.specs.declared.kind.Kind.{Kind}
use Rattle.d64_files.specs.declared.kind.Kind.TheVariants.{Del, Seq, Prg, Usr, Rel}
use Rattle.d64_files.proofs.FirstFaults.{sound_decides}
use Rattle.d64_effects.specs.Delete.{scratched_slots, scratched_disk}
use Rattle.d64_effects.specs.Laws.{IsWritable}
use Rattle.d64_effects.specs.Undelete.{cell_at, chain_left, undeleted_disk, CanComeBack}
use Rattle.d64_effects.specs.View.{IsSound, view}
use Rattle.d64_effects.specs.KeepingLaws.{HasFile}
use Rattle.d64_effects.specs.ViewAfter.{file_back}
use Rattle.d64_effects.proofs.ClearedDisks.{is_used-cleared}
use Rattle.d64_effects.proofs.ComeBack.{LeftBehind, left_behind, comes-back, map_anew-shows}
use Rattle.d64_effects.proofs.KeptFiles.{undeleting-keeps}
use Rattle.d64_effects.proofs.ScratchedDisks.{scratched-is_sound}
use Rattle.d64_effects.proofs.TypeBytes.{first_pair-typed, size_of-typed, field_of-typed}
use Rattle.d64_scratched.specs.Scratched.{is_scratched}
use Rattle.d64_dos.specs.Change.{Delete, Undelete}
use Rattle.d64_dos.specs.Undelete.{is_scratched_as, chain_of, is_file_left, slot_to_undelete}
use Rattle.d64_dos.specs.UndeleteLaws.{UndeletingAddsOneFile, IsOnlyFileOf, BringsBack, UndeletingUndoesDeleting}
use Rattle.d64_dos.specs.WriteRefusal.{is_writable}
use Rattle.d64_dos.specs.declared.refusal.Refusal.TheVariants.{Directory}
use Rattle.d64_dos.proofs.Restored.{IsLeft, is_left_as, is_whole_as, chosen, can_come_back, undeletable, some_slot, disk_back, slot_to_undelete-is, refused_by_slots}
use Rattle.d64_dos.proofs.SameWords.{is_left_so}
use Rattle.d64_dos.proofs.Steps.{writable}

-- one file more
pub one_file_more : UndeletingAddsOneFile
one_file_more image name kind is sound none =
    let passes = undeletable image name kind none in
    let slot = some_slot (slot_to_undelete image name) passes.left in
    let can = can_come_back image name slot.0 (chosen image name slot.0 slot.1) in
    let disk = disk_back image name kind slot.0 slot.1 in
    let keeps = undeleting-keeps image slot.0 kind is sound (writable kind passes.writable) can in (
      slot.0,
      slot.1,
      record {
        vacant = can.unused;
        back = subst (λ (next : List (List ℕ)). HasFile next slot.0 (file_back image slot.0 kind)) (sym disk) keeps.0;
        others = λ other file has. subst (λ (next : List (List ℕ)). HasFile next other file) (sym disk) (keeps.1 other file has);
        only = λ other file differs has. keeps.2 other file differs (subst (λ (next : List (List ℕ)). HasFile next other file) disk has);
      },
    )

-- kinds that can be written pass the test
writes : (kind : Kind) → IsWritable kind → is_writable kind ≡ true
writes Del h = absurd (h.0 refl)
writes Seq h = refl
writes Prg h = refl
writes Usr h = refl
writes Rel h = absurd (h.1 refl)

-- a numbered slot that passes is found, or one before it
some_found : (test : ℕ × List ℕ → Bool) (n : ℕ) (cells : List (List ℕ)) (k : ℕ) → k < length cells → test (n + k, get_or cells k []) ≡ true
    → is_some (find test (enumerate_from n cells)) ≡ true
some_found test n [] k within passes = absurd (omega arith)
some_found test n (c ∷ cells) k within passes = by_test (test (n, c)) refl k within passes (λ j inside h. some_found test (n + 1) cells j inside h)
  where
    by_test : (b : Bool) → test (n, c) ≡ b → (k : ℕ) → k < length (c ∷ cells) → test (n + k, get_or (c ∷ cells) k []) ≡ true
        → ((j : ℕ) → j < length cells → test (n + 1 + j, get_or cells j []) ≡ true → is_some (find test (enumerate_from (n + 1) cells)) ≡ true)
        → is_some (cond b (Some (n, c)) (find test (enumerate_from (n + 1) cells))) ≡ true
    by_test true e k within passes later = refl
    by_test false e zero within passes later =
        absurd (let p : true ≡ false = sym passes ∙ ap (λ (m : ℕ). test (m, c)) (let z : n + 0 ≡ n = omega arith in z) ∙ e in cc)
    by_test false e (suc k) within passes later =
        later k (omega arith) (ap (λ (m : ℕ). test (m, get_or cells k [])) (let z : n + 1 + k ≡ n + suc k = omega arith in z) ∙ passes)

-- where one isn't lost there is one that comes back
some_back : (whole left : Option (ℕ × List ℕ)) → is_some left ≡ true → is_some (option_map (λ (s : ℕ × List ℕ). s.0) (option_or whole left)) ≡ true
some_back (Some one) left h = refl
some_back None (Some one) h = refl
some_back None None h = absurd (cc)

both : (a b : Bool) → a ≡ true → b ≡ true → (a && b) ≡ true
both true true h i = refl
both true false h i = absurd (cc)
both false b h i = absurd (cc)

-- a name is itself
same_name : (name : List ℕ) → bytes_eq name name ≡ true
same_name name = (bytes_eq-Decides name name).1 refl

-- from track 0 there is no chain
no_chain : (image : List (List ℕ)) (sector : ℕ) → chain_at image (0, sector) ≡ []
unfolding block_in
no_chain image sector =
    ap (λ (b : Option ℕ). option_map_or (chain image) (option_and_then (held_block image) b) []) (block_of-none 0 sector (λ l k m. absurd (omega arith)))

-- a pair from which there is a chain has a track
has_track : (image : List (List ℕ)) (pair : ℕ × ℕ) → chain_at image pair ≢ [] → not (pair.0 == 0) ≡ true
has_track image pair some = elim (cases_Bool (pair.0 == 0)) [
  | inl t ↦ absurd (some (ap (λ (track : ℕ). chain_at image (track, pair.1)) (eqb-true pair.0 0 t) ∙ no_chain image pair.1))
  | inr f ↦ ap not f
]

-- one file of a name was deleted on a sound image
module _ (image : List (List ℕ)) (patterns : List (List ℕ)) (name : List ℕ) (kind : Kind) (slot : ℕ) (is : IsImage image) (sound : IsSound image)
    (kinds_fit : IsWritable kind) (one : scratched_slots image patterns ≡ slot ∷ []) (only : IsOnlyFileOf image name kind slot) where
  behind : LeftBehind image (scratched_disk image patterns) slot
  behind = left_behind image patterns slot kind is sound kinds_fit only.type one

  back : CanComeBack (scratched_disk image patterns) slot × (undeleted_disk (scratched_disk image patterns) slot kind ≡ with_map image (free_blocks image))
  back = comes-back image patterns slot kind is sound kinds_fit only.type one

  still_sound : IsSound (scratched_disk image patterns)
  still_sound = scratched-is_sound image patterns is sound

  abbrev cleared : List ℕ
  cleared = written_at (cell_at image slot) 2 (0 ∷ [])

  cell_is : cell_at (scratched_disk image patterns) slot ≡ cleared
  cell_is = ap (λ (cells : List (List ℕ)). get_or cells slot []) behind.entries ∙ get_or-set_same (slots image) slot cleared [] behind.there

  other_is : (other : ℕ) → other ≢ slot → cell_at (scratched_disk image patterns) other ≡ cell_at image other
  other_is other apart =
      ap (λ (cells : List (List ℕ)). get_or cells other []) behind.entries ∙ get_or-set_other (slots image) slot other cleared [] apart

  there_after : slot < length (slots (scratched_disk image patterns))
  there_after = back.0.there

  pair_is : first_pair cleared ≡ first_pair (cell_at image slot)
  pair_is = first_pair-typed (cell_at image slot) 0 behind.long

  name_is : name_of cleared ≡ name
  name_is = ap name_in (field_of-typed (cell_at image slot) 0 behind.long) ∙ only.named

  -- its chain in the image from which it was deleted
  some_chain : chain_at (scratched_disk image patterns) (first_pair cleared) ≢ []
  some_chain none = back.0.chain (ap (λ (cell : List ℕ). chain_at (scratched_disk image patterns) (first_pair cell)) cell_is ∙ none)

  still_left : is_file_left (scratched_disk image patterns) cleared ≡ true
  still_left =
      let disk : List (List ℕ) = scratched_disk image patterns in
      let chain_is : chain_left disk slot ≡ chain_of disk cleared = ap (chain_of disk) cell_is in
      is_left_so disk cleared (record {
        some = some_chain;
        free = subst (All (λ block. set.contains (free_blocks disk) block ≡ true)) chain_is back.0.free;
        size = sym (ap length chain_is) ∙ ap length behind.chain ∙ only.size ∙ sym (size_of-typed (cell_at image slot) 0 behind.long);
      })

  passes : is_scratched_as name cleared ≡ true
  passes =
      both (is_scratched cleared) (bytes_eq (name_of cleared) name)
      (both (not (is_used cleared)) (not ((first_pair cleared).0 == 0)) (ap not (is_used-cleared (cell_at image slot) behind.long))
      (has_track (scratched_disk image patterns) (first_pair cleared) some_chain))
      (ap (λ (n : List ℕ). bytes_eq n name) name_is ∙ same_name name)

  scratched_there : list_any (is_scratched_as name) (slots (scratched_disk image patterns)) ≡ true
  scratched_there =
      list_any_at (is_scratched_as name) (slots (scratched_disk image patterns)) slot [] there_after (ap (is_scratched_as name) cell_is ∙ passes)

  -- no used slot has the name
  unnamed : (k : ℕ) → has_name name (cell_at (scratched_disk image patterns) k) ≡ false
  unnamed k = elim (cases_Bool (eqb k slot)) [
    | inl t ↦
        ap (λ (n : ℕ). has_name name (cell_at (scratched_disk image patterns) n)) (eqb-true k slot t) ∙ ap (has_name name) cell_is
        ∙ ap (λ (used : Bool). used && bytes_eq (name_of cleared) name) (is_used-cleared (cell_at image slot) behind.long)
    | inr f ↦ let apart = not_same k slot f in ap (has_name name) (other_is k apart) ∙ only.others k apart
  ]
    where
      not_same : (a b : ℕ) → eqb a b ≡ false → a ≢ b
      not_same a b f e = let g : eqb a b ≡ true = eq-eqb a b e in cc

  not_taken : is_name_taken name (slots (scratched_disk image patterns)) ≡ false
  not_taken =
      list_any_none (has_name name) (slots (scratched_disk image patterns))
      (All-from_get_or (λ cell. has_name name cell ≡ false) (slots (scratched_disk image patterns)) [] (λ k within. unnamed k))

  -- the slot comes back
  found : is_some (slot_to_undelete (scratched_disk image patterns) name) ≡ true
  found =
      let disk : List (List ℕ) = scratched_disk image patterns in
      ap is_some (slot_to_undelete-is disk name)
      ∙ some_back (find (is_whole_as disk name) (numbered_slots (slots disk))) (find (is_left_as disk name) (numbered_slots (slots disk)))
      (some_found (is_left_as disk name) 0 (slots disk) slot there_after
      (ap₂ (λ (n : ℕ) (cell : List ℕ). is_left_as disk name (n, cell)) (let z : 0 + slot ≡ slot = omega arith in z) cell_is
      ∙ both (is_scratched_as name cleared) (is_file_left disk cleared) passes still_left))

  only_one : (other : ℕ) → IsLeft (scratched_disk image patterns) name other → other ≡ slot
  only_one other left = elim (cases_Bool (eqb other slot)) [
    | inl t ↦ eqb-true other slot t
    | inr f ↦
        let apart : other ≢ slot = λ e. let g : eqb other slot ≡ true = eq-eqb other slot e in cc in
        let within : other < length (slots image) =
        let l = left.there in let m = ap length behind.entries ∙ length-set (slots image) slot cleared in omega arith in
        let named : list_any (is_scratched_as name) (slots image) ≡ true =
        list_any_at (is_scratched_as name) (slots image) other [] within (ap (is_scratched_as name) (sym (other_is other apart)) ∙ left.scratched) in
        absurd (let e : true ≡ false = sym named ∙ only.scratched in cc)
  ]

  chosen_is : slot_to_undelete (scratched_disk image patterns) name ≡ Some slot
  chosen_is =
      let back_slot = some_slot (slot_to_undelete (scratched_disk image patterns) name) found in
      back_slot.1 ∙ ap Some (only_one back_slot.0 (chosen (scratched_disk image patterns) name back_slot.0 back_slot.1))

  no_fault : (disk : List (List ℕ)) → IsSound disk → None ≡ first_fault disk sound_conditions
  no_fault disk holds = sym ((sound_decides disk).0.1 holds)

  pub brought_back : BringsBack image (Delete patterns) (Undelete name kind)
  brought_back =
      let disk : List (List ℕ) = scratched_disk image patterns in
      let bytes = disk_back disk name kind slot chosen_is ∙ back.1 in
      record {
        deleted = ap (option_map Directory) (sym (no_fault image sound));
        accepted =
            sym (refused_by_slots disk name kind true false true (writes kind kinds_fit) (no_fault disk still_sound) (sym scratched_there) (sym not_taken) (sym found));
        shows = ap view bytes ∙ map_anew-shows image is sound;
        bytes = bytes;
      }

pub undoes_deleting : UndeletingUndoesDeleting
undoes_deleting image patterns name kind slot is sound kinds_fit one only = brought_back image patterns name kind slot is sound kinds_fit one only
