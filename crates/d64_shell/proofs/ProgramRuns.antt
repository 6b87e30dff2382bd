-- Runs of the program.
use Rattle.std.proofs.Common.{◌≡◌, ℕ, Bool, List, Option, refl, subst}
use Rattle.host_storage.specs.Input.{Reading}
use Rattle.host_storage.specs.Output.{account_of}
use Rattle.host_storage.specs.Files.{HostState}
use Rattle.program_console.specs.Outside.{Outside, outside_of}
use Rattle.d64_shell.specs.Program.{Ended}

-- what is outside is the same for the same parts
pub outside_is : (r r' w w' f f' : Option (List ℕ)) (h h' : Reading) (o o' b b' : Bool) (host : HostState)
    → r ≡ r' → h ≡ h' → w ≡ w' → o ≡ o' → f ≡ f' → b ≡ b' → outside_of r h (account_of w o) (account_of f b) host ≡ outside_of r' h' (account_of w' o') (account_of f' b') host
outside_is r r' w w' f f' h h' o o' b b' host e1 e2 e3 e4 e5 e6 = rw (e1, e2, e3, e4, e5, e6) refl

-- what the program has done over wrapped streams it has done over the streams that are in them
pub Ended-streams : (after : List (List ℕ)) (old old' : Outside) (r r' w w' f f' : Option (List ℕ)) (h : Reading) (o b : Bool) (host : HostState) (status : ℕ)
    → old ≡ old' → r ≡ r' → w ≡ w' → f ≡ f' → Ended after old (outside_of r h (account_of w o) (account_of f b) host) status
    → Ended after old' (outside_of r' h (account_of w' o) (account_of f' b) host) status
Ended-streams after old old' r r' w w' f f' h o b host status is e1 e2 e3 ended =
    subst (λ (x : Option (List ℕ)). Ended after old' (outside_of r' h (account_of w' o) (account_of x b) host) status) e3
    (subst (λ (x : Option (List ℕ)). Ended after old' (outside_of r' h (account_of x o) (account_of f b) host) status) e2
    (subst (λ (x : Option (List ℕ)). Ended after old' (outside_of x h (account_of w o) (account_of f b) host) status) e1
    (subst (λ (x : Outside). Ended after x (outside_of r h (account_of w o) (account_of f b) host) status) is ended)))
