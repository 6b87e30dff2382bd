use Rattle.std.proofs.Common.{◌≡◌, ◌==◌, ℕ, Option, Some, None, rules}
use Rattle.std.specs.Prelude.{position}
use Rattle.std.proofs.lemmas.Iterator.{YieldsList-from_slice}
use Rattle.std.proofs.lemmas.Iterator.Search.{position_from_yields_List}
use Rattle.d64_files.proofs.Prefixes.{before_place, before_none}
use Rattle.d64_files.proofs.name.name_in.Goals as goal
use borrow.Author.Tests.{tests}

pub returns-in-Some : goal.returns-in-Some
returns-in-Some c =
    let found : Some c.in-Some.end ≡ position (λ (b : ℕ). b == 0xA0) c.args.field.now =
    position_from_yields_List (λ (b : ℕ). b == 0xA0) _ _ _ c.in-Some.ensures.ran (YieldsList-from_slice c.args.field.now cc) (λ x b q k. search (rules, tests)) in
    before_place (λ (b : ℕ). b == 0xA0) c.args.field.now c.in-Some.end found

pub returns-in-None : goal.returns-in-None
returns-in-None c =
    let found : ◌≡◌ {A = Option ℕ} None (position (λ (b : ℕ). b == 0xA0) c.args.field.now) =
    position_from_yields_List (λ (b : ℕ). b == 0xA0) _ _ _ c.in-None.ensures.ran (YieldsList-from_slice c.args.field.now cc) (λ x b q k. search (rules, tests)) in
    before_none (λ (b : ℕ). b == 0xA0) c.args.field.now found
