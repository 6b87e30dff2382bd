use Rattle.std.proofs.Common.{◌≡◌, ◌≤◌, ◌++◌, [], ◌∷◌, List, ℕ, length, refl, sym, subst, ap, ◌∙◌}
use Rattle.host_names.specs.declared.taken_names.Taken.{Taken}
use Rattle.host_names.specs.Digest.{name_digest}
use Rattle.host_names.specs.Records.{names_of, HasEndingAt, AreNameRecords}
use Rattle.host_names.proofs.Records.{kept_names, kept_records}
use Rattle.host_names.proofs.taken_names.keep.Goals as goal

pub returns-clause-names : goal.returns-clause-names
returns-clause-names c =
    let taken : Taken = record { name = c.in_ok-kept.kept; digest = c.digest.result; stem_len = c.args.stem_len; next = 2 } in
    let old = c.args.names.now.items in
    ap names_of c.in_ok-push.ensures.items ∙ kept_names old taken ∙ ap (λ (name : List ℕ). names_of old ++ name ∷ []) c.in_ok-kept.ensures.items

pub returns-clause-records : goal.returns-clause-records
returns-clause-records c =
    let taken : Taken = record { name = c.in_ok-kept.kept; digest = c.digest.result; stem_len = c.args.stem_len; next = 2 } in
    let is : c.args.name.now ≡ c.in_ok-kept.kept.items = sym c.in_ok-kept.ensures.items in
    subst (λ (records : List Taken). AreNameRecords records) (sym {A = List Taken} c.in_ok-push.ensures.items)
    (kept_records c.args.names.now.items taken c.requires.records (c.digest.ensures ∙ ap name_digest is)
    (subst (λ (name : List ℕ). c.args.stem_len ≤ length name) is c.requires.within)
    (subst (λ (name : List ℕ). HasEndingAt name c.args.stem_len) is c.requires.ends) refl)
