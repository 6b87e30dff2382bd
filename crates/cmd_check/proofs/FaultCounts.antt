-- Of the faults of one number the first have a line each.
use Rattle.std.proofs.Common.{◌≡◌, ℕ, ◌+◌, ◌≤◌, ◌<◌, Bool, true, false, List, [], ◌∷◌, ◌++◌, length, take, get_or, refl, sym, ap, ap₂, ◌∙◌, append_assoc, append-nil, length-append, arith}
use Rattle.std.specs.Prelude.{◌==◌, nat_lt, cond, if◌then◌else◌}
use Rattle.std.specs.List.{flat_map}
use Rattle.std.proofs.lemmas.Bool.{ltb-true, ltb-false, eq-eqb, ne_eqb}
use Rattle.std.proofs.lemmas.Grind.{flat_map-append}
use Rattle.std.proofs.lemmas.List.{take_all, take-append-le}
use Rattle.std.proofs.lemmas.List.Elements.{filter_more}
use Rattle.d64_image.specs.Disk.{Disk}
use Rattle.d64_survey.specs.Faults.{number}
use Rattle.d64_survey.specs.declared.fault.Fault.{Fault}
use Rattle.cmd_check.specs.CheckText.{fault_line, faults_of, most_lines}

-- one fault more of a number
faults_of-one : (list : List Fault) (i condition : ℕ) (fault : Fault) → i < length list → fault ≡ get_or list i fault → number fault ≡ condition
    → faults_of (take (i + 1) list) condition ≡ faults_of (take i list) condition ++ fault ∷ []
faults_of-one list i condition fault within is same =
    let these = faults_of (take i list) condition in
    filter_more (λ (f : Fault). number f == condition) list i fault within
    ∙ ap (λ (f : Fault). these ++ cond (number f == condition) (f ∷ []) []) (sym is)
    ∙ ap (λ (b : Bool). these ++ cond b (fault ∷ []) []) (eq-eqb (number fault) condition same)

-- one fault more of another one
pub faults_of-other : (list : List Fault) (i condition : ℕ) (fault : Fault) → i < length list → fault ≡ get_or list i fault → (number fault ≡ condition → ⊥)
    → faults_of (take (i + 1) list) condition ≡ faults_of (take i list) condition
faults_of-other list i condition fault within is other =
    let these = faults_of (take i list) condition in
    filter_more (λ (f : Fault). number f == condition) list i fault within
    ∙ ap (λ (f : Fault). these ++ cond (number f == condition) (f ∷ []) []) (sym is)
    ∙ ap (λ (b : Bool). these ++ cond b (fault ∷ []) []) (ne_eqb (number fault) condition other)
    ∙ append-nil these

-- how many there are then
pub count-more : (list : List Fault) (i condition count after : ℕ) (fault : Fault) → i < length list → fault ≡ get_or list i fault → number fault ≡ condition
    → count ≡ length (faults_of (take i list) condition) → after ≡ count + 1 → after ≡ length (faults_of (take (i + 1) list) condition)
count-more list i condition count after fault within is same counted known =
    known
    ∙ ap (λ (n : ℕ). n + 1) counted
    ∙ sym (length-append (faults_of (take i list) condition) (fault ∷ []))
    ∙ ap length (sym (faults_of-one list i condition fault within is same))

-- the text of the first of a list, to which one more comes
first-more : {X : Type 0} (f : X → List ℕ) (n : ℕ) (list : List X) (x : X)
    → flat_map f (take n (list ++ x ∷ [])) ≡ flat_map f (take n list) ++ (if nat_lt (length list) n then f x else [])
first-more f n list x = by_test (nat_lt (length list) n) refl
  where
    by_test : (below : Bool) → nat_lt (length list) n ≡ below → flat_map f (take n (list ++ x ∷ [])) ≡ flat_map f (take n list) ++ (if below then f x else [])
    by_test true is =
        let short : length list < n = ltb-true (length list) n is in
        ap (flat_map f) (take_all n (list ++ x ∷ []) (omega (arith, length-append list (x ∷ []))))
        ∙ flat_map-append f list (x ∷ [])
        ∙ ap₂ (λ (before after : List ℕ). before ++ after) (ap (flat_map f) (sym (take_all n list (omega arith)))) (append-nil (f x))
    by_test false is =
        let long : n ≤ length list = ltb-false (length list) n is in
        ap (flat_map f) (take-append-le n list (x ∷ []) long) ∙ sym (append-nil (flat_map f (take n list)))

-- the lines of the first faults with a number, if this many of a list are counted
abbrev pub lines_within : Disk → List Fault → ℕ → ℕ → List ℕ
lines_within image list i condition = flat_map (fault_line image) (take most_lines (faults_of (take i list) condition))

-- with one fault more of the number
pub line-more : (image : Disk) (list : List Fault) (i condition count : ℕ) (fault : Fault) (before text after : List ℕ) → i < length list → fault ≡ get_or list i fault
    → number fault ≡ condition → count ≡ length (faults_of (take i list) condition) → text ≡ before ++ lines_within image list i condition
    → after ≡ text ++ (if nat_lt count most_lines then fault_line image fault else []) → after ≡ before ++ lines_within image list (i + 1) condition
line-more image list i condition count fault before text after within is same counted so known =
    let these = faults_of (take i list) condition in
    let lines = lines_within image list i condition in
    known
    ∙ ap (λ (t : List ℕ). t ++ (if nat_lt count most_lines then fault_line image fault else [])) so
    ∙ append_assoc before lines (if nat_lt count most_lines then fault_line image fault else [])
    ∙ ap (λ (n : ℕ). before ++ (lines ++ (if nat_lt n most_lines then fault_line image fault else []))) counted
    ∙ ap (λ (t : List ℕ). before ++ t) (sym (first-more (fault_line image) most_lines these fault))
    ∙ ap (λ (l : List Fault). before ++ flat_map (fault_line image) (take most_lines l)) (sym (faults_of-one list i condition fault within is same))

-- with one fault more of another one
pub line-same : (image : Disk) (list : List Fault) (i condition : ℕ) (fault : Fault) (before text after : List ℕ) → i < length list → fault ≡ get_or list i fault
    → (number fault ≡ condition → ⊥) → text ≡ before ++ lines_within image list i condition → after ≡ text → after ≡ before ++ lines_within image list (i + 1) condition
line-same image list i condition fault before text after within is other so kept =
    kept ∙ so ∙ ap (λ (l : List Fault). before ++ flat_map (fault_line image) (take most_lines l)) (sym (faults_of-other list i condition fault within is other))
