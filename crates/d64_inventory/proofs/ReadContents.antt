-- The content of a file is what is read of it.
use Rattle.std.proofs.Common.{◌≡◌, ◌≢◌, ℕ, Bool, true, false, not, cond, List, [], ◌∷◌, Option, Some, None, refl, sym, ap, ◌∙◌, inl, inr}
use Rattle.std.specs.Prelude.{is_some}
use Rattle.std.specs.List.{slice_get}
use Rattle.std.specs.Option.{option_and_then}
use Rattle.std.proofs.lemmas.Bool.{cases_Bool}
use Rattle.d64_files.specs.FileData.{data_along}
use Rattle.d64_files.specs.FirstFault.{is_nil}
use Rattle.d64_files.specs.Ownership.{chain_at, roots_of}
use Rattle.d64_files.specs.Slot.{is_closed, kind_of, first_pair}
use Rattle.d64_files.specs.Reading.{is_del, file_refusal, file_content}
use Rattle.d64_files.specs.declared.dir_fault.DirFault.TheVariants.{NoChain}
use Rattle.d64_files.specs.declared.kind.Kind.{Kind}
use Rattle.d64_files.specs.declared.kind.Kind.TheVariants.{Del, Seq, Prg, Usr, Rel}
use Rattle.d64_files.specs.declared.reading.ReadFault.{ReadFault}
use Rattle.d64_files.specs.declared.reading.ReadFault.TheVariants.{Directory, NotFound, NotClosed, WrongType}
use Rattle.d64_survey.specs.Way.{way, is_whole}
use Rattle.d64_survey.specs.declared.way_end.WayEnd.{WayEnd}
use Rattle.d64_survey.specs.declared.way_end.WayEnd.TheVariants.{End, Off, Loop}
use Rattle.d64_survey.proofs.Traced.{bounded}
use Rattle.d64_inventory.specs.Contents.{content_along}
use Rattle.d64_inventory.specs.ContentLaws.{ContentIsWhatIsRead}

-- a way that is a whole chain ends as one
whole_is_end : (end : WayEnd) → is_whole end ≡ true → end ≡ End
whole_is_end End e = refl
whole_is_end (Off track sector) e = absurd (let f : false ≡ true = e in cc)
whole_is_end (Loop track sector) e = absurd (let f : false ≡ true = e in cc)

-- an empty list isn't another one
nil_is : (list : List ℕ) → is_nil list ≡ true → list ≡ []
nil_is [] e = refl
nil_is (x ∷ list) e = absurd (let f : false ≡ true = e in cc)

-- the content along the way from a pair is the data of the chain, if there is one
along_chain : (image : List (List ℕ)) (pair : ℕ × ℕ) → content_along image (way image pair) ≡ cond (is_nil (chain_at image pair)) None (Some (data_along image (chain_at image pair)))
along_chain image pair =
    let b = bounded image pair in
    elim (cases_Bool (is_nil (chain_at image pair))) [
      | inl t ↦
          let broken : is_whole (way image pair).1 ≡ false = elim (cases_Bool (is_whole (way image pair).1)) [
            | inl w ↦ let c = b.chain (whole_is_end (way image pair).1 w) in absurd (c.1 (nil_is (chain_at image pair) t))
            | inr f ↦ f
          ] in
          ap (λ (w : Bool). cond w (Some (data_along image (way image pair).0)) None) broken
          ∙ sym (ap (λ (n : Bool). cond n None (Some (data_along image (chain_at image pair)))) t)
      | inr f ↦
          let some : chain_at image pair ≢ [] = λ e. let g : true ≡ false = sym (ap is_nil e) ∙ f in cc in
          let end = b.end some in
          ap (λ (e : WayEnd). cond (is_whole e) (Some (data_along image (way image pair).0)) None) end
          ∙ ap (λ (bs : List ℕ). Some (data_along image bs)) (sym (b.chain end).0)
          ∙ sym (ap (λ (n : Bool). cond n None (Some (data_along image (chain_at image pair)))) f)
    ]

-- why a used file can't be read
abbrev refusal : Bool → Kind → Bool → Option ReadFault
refusal closed kind nil = cond (not closed) (Some NotClosed) (cond (is_del kind) (Some WrongType) (cond nil (Some (Directory NoChain)) None))

-- its content, by the pair from which its data leads
abbrev content_by : List (List ℕ) → List ℕ → Bool → Kind → Option (List ℕ)
content_by image cell closed kind = option_and_then (λ pair. content_along image (way image pair)) (slice_get (cond closed (roots_of kind cell) []) 0)

-- a refusal only because there is no chain
refused : (nil : Bool) (bytes : List ℕ) → cond nil None (Some bytes) ≡ cond (is_some (cond nil (Some (Directory NoChain)) None)) None (Some bytes)
refused true bytes = refl
refused false bytes = refl

by_kind : (image : List (List ℕ)) (cell : List ℕ) (closed : Bool) (kind : Kind)
    → content_by image cell closed kind ≡ cond (is_some (refusal closed kind (is_nil (chain_at image (first_pair cell))))) None (Some (file_content image cell))
by_kind image cell false kind = refl
by_kind image cell true Del = refl
by_kind image cell true Seq = along_chain image (first_pair cell) ∙ refused (is_nil (chain_at image (first_pair cell))) (file_content image cell)
by_kind image cell true Prg = along_chain image (first_pair cell) ∙ refused (is_nil (chain_at image (first_pair cell))) (file_content image cell)
by_kind image cell true Usr = along_chain image (first_pair cell) ∙ refused (is_nil (chain_at image (first_pair cell))) (file_content image cell)
by_kind image cell true Rel = along_chain image (first_pair cell) ∙ refused (is_nil (chain_at image (first_pair cell))) (file_content image cell)

pub content_is_read : ContentIsWhatIsRead
unfolding file_refusal
content_is_read image cell used =
    by_kind image cell (is_closed cell) (kind_of cell)
    ∙ sym (ap (λ (t : Bool). cond (is_some (cond (not t) (Some NotFound) (refusal (is_closed cell) (kind_of cell) (is_nil (chain_at image (first_pair cell)))))) None (Some (file_content image cell))) used)
