-- Runs that go on, file by file.
use Rattle.std.proofs.Common.{◌≡◌, ℕ, ◌+◌, ◌<◌, ◌≤◌, List, [], ◌∷◌, ◌++◌, map, take, drop, length, get_or, Result, Ok, Err, refl, sym, ap, ◌∙◌, subst, append_assoc}
use Rattle.std.proofs.lemmas.List.{take_more, take_all, map-append, take-append-drop}
use Rattle.program_surveys.specs.Names.{Request}
use Rattle.program_surveys.specs.FileOutcomes.{Effects}
use Rattle.program_surveys.specs.Runs.{RunState, Steps, Processes, StopsAt, StopsIn, Runs, EndsAt}
use Rattle.program_console.specs.declared.stream_fault.StreamFault.{StreamFault}

-- no files
pub Steps-none : (effects : Effects) (a : RunState) → Steps effects [] a a
unfolding Steps
Steps-none effects a = refl

-- one file
pub Steps-one : (effects : Effects) (request : Request) (a b : RunState) → Processes effects request a b → Steps effects (request ∷ []) a b
unfolding Steps
Steps-one effects request a b processes = (b, processes, refl)

-- some files, and then others
pub Steps-append : (effects : Effects) (xs ys : List Request) (a b c : RunState) → Steps effects xs a b → Steps effects ys b c → Steps effects (xs ++ ys) a c
unfolding Steps
Steps-append effects [] ys a b c first others = subst (λ s. Steps effects ys s c) first others
Steps-append effects (x ∷ xs) ys a b c first others = (first.0, first.1, Steps-append effects xs ys first.0 b c first.2 others)

-- a run over one file ends as that file ends
pub Runs-one : {A : Type 0} (effects : Effects) (request : Request) (a b : RunState) (result : Result A StreamFault) → EndsAt effects request a b result → Runs effects (request ∷ []) a b result
Runs-one effects request a b (Ok done) ends = Steps-one effects request a b ends
Runs-one effects request a b (Err fault) ends =
    record { before = []; request = request; rest = []; split = refl; middle = a; processed = Steps-none effects a; stopped = ends }

-- a run that goes on to other files
pub Runs-append : {A : Type 0} (effects : Effects) (xs ys : List Request) (a b c : RunState) (result : Result A StreamFault)
    → Steps effects xs a b → Runs effects ys b c result → Runs effects (xs ++ ys) a c result
Runs-append effects xs ys a b c (Ok done) first others = Steps-append effects xs ys a b c first others
Runs-append effects xs ys a b c (Err fault) first others = record {
  before = xs ++ others.before;
  request = others.request;
  rest = others.rest;
  split = append_assoc xs others.before (others.request ∷ others.rest) ∙ ap (λ (l : List Request). xs ++ l) others.split;
  middle = others.middle;
  processed = Steps-append effects xs others.before a b others.middle first others.processed;
  stopped = others.stopped;
}

-- a run that stops does so whatever would come after
pub StopsIn-more : (effects : Effects) (xs more : List Request) (fault : StreamFault) (a b : RunState) → StopsIn effects xs fault a b → StopsIn effects (xs ++ more) fault a b
StopsIn-more effects xs more fault a b stop = record {
  before = stop.before;
  request = stop.request;
  rest = stop.rest ++ more;
  split = sym (append_assoc stop.before (stop.request ∷ stop.rest) more) ∙ ap (λ (l : List Request). l ++ more) stop.split;
  middle = stop.middle;
  processed = stop.processed;
  stopped = stop.stopped;
}

-- the first elements, and the next one
taken_next : {X : Type 0} (f : X → Request) (xs : List X) (i : ℕ) (x : X) → i < length xs → x ≡ get_or xs i x
    → map f (take (i + 1) xs) ≡ map f (take i xs) ++ f x ∷ []
taken_next f xs i x within is =
    ap (map f) (take_more xs i x within) ∙ map-append f (take i xs) (get_or xs i x ∷ []) ∙ ap (λ y. map f (take i xs) ++ f y ∷ []) (sym is)

-- one more file is processed, with the same effects
pub Steps-next : {X : Type 0} (effects same : Effects) (f : X → Request) (xs : List X) (i : ℕ) (x : X) (request : Request) (a b c : RunState)
    → i < length xs → x ≡ get_or xs i x → Steps effects (map f (take i xs)) a b → same ≡ effects → request ≡ f x → Processes same request b c → Steps effects (map f (take (i + 1) xs)) a c
Steps-next effects same f xs i x request a b c within is first is_same is_asked processes =
    subst (λ (l : List Request). Steps effects l a c) (sym (taken_next f xs i x within is))
    (Steps-append effects (map f (take i xs)) (f x ∷ []) a b c first (Steps-one effects (f x) b c (subst (λ (r : Effects). Processes r (f x) b c) is_same (subst (λ (y : Request). Processes same y b c) is_asked processes))))

-- a run stops at the next one
pub Runs-stopped : {A X : Type 0} (effects same : Effects) (f : X → Request) (xs : List X) (i : ℕ) (x : X) (request : Request) (fault : StreamFault) (result : Result A StreamFault) (a b c : RunState)
    → i < length xs → x ≡ get_or xs i x → Steps effects (map f (take i xs)) a b → same ≡ effects → request ≡ f x → StopsAt same request fault b c → result ≡ Err fault
    → Runs effects (map f xs) a c result
Runs-stopped {A} {X} effects same f xs i x request fault result a b c within is first is_same is_asked stops is_err =
    let stopped : StopsIn effects (map f xs) fault a c = record {
      before = map f (take i xs);
      request = f x;
      rest = map f (drop (i + 1) xs);
      split = sym (append_assoc (map f (take i xs)) (f x ∷ []) (map f (drop (i + 1) xs)))
          ∙ ap (λ (l : List Request). l ++ map f (drop (i + 1) xs)) (sym (taken_next f xs i x within is))
          ∙ sym (map-append f (take (i + 1) xs) (drop (i + 1) xs))
          ∙ ap (map f) (take-append-drop (i + 1) xs);
      middle = b;
      processed = first;
      stopped = subst (λ (r : Effects). StopsAt r (f x) fault b c) is_same (subst (λ (y : Request). StopsAt same y fault b c) is_asked stops);
    } in
    subst (λ (r : Result A StreamFault). Runs effects (map f xs) a c r) (sym is_err) stopped

-- all files are processed
pub Steps-all : {X : Type 0} (effects : Effects) (f : X → Request) (xs : List X) (i : ℕ) (a b : RunState)
    → length xs ≤ i → Steps effects (map f (take i xs)) a b → Steps effects (map f xs) a b
Steps-all {X} effects f xs i a b all steps = subst (λ (l : List X). Steps effects (map f l) a b) (take_all i xs all) steps
