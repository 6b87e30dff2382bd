-- Texts that are written one after another.
use Rattle.std.proofs.Common.{◌≡◌, List, ℕ, true, [], ◌∷◌, ◌++◌, Option, Some, refl, subst}
use Rattle.host_storage.specs.Output.{Account, Writes}
use Rattle.script_lines.specs.declared.line_command.LineCommand.{LineCommand}
use Rattle.script_lines.specs.declared.line_command.LineCommand.TheVariants.{Quit, Redo, Undo}
use Rattle.std.specs.Prelude.{nat_lt}
use Rattle.script_hints.specs.Past.{makes_change}
use Rattle.script_hints.specs.Observed.{WritesEach, named_changes}

-- no text
pub unwritten : (account : Account) → WritesEach account account []
unfolding WritesEach
unwritten account = refl

-- a text
pub written : (old new : Account) (text : List ℕ) → Writes old new text → WritesEach old new (text ∷ [])
unfolding WritesEach
written old new text is = (new, is, refl)

-- some texts, and then others
pub written_after : (old middle new : Account) (texts more : List (List ℕ)) → WritesEach old middle texts → WritesEach middle new more → WritesEach old new (texts ++ more)
unfolding WritesEach
written_after old middle new [] more same then = subst (λ (before : Account). WritesEach before new more) same then
written_after old middle new (text ∷ texts) more first then = (first.0, first.1, written_after first.0 middle new texts more first.2 then)

-- a command that may have made a change
pub made : (command : Option LineCommand) (before now : ℕ) → (command ≡ Some Undo → ⊥) → (command ≡ Some Redo → ⊥) → (command ≡ Some Quit → ⊥)
    → makes_change command before now ≡ nat_lt before now
made (Some Undo) before now undo redo quit = absurd (undo refl)
made (Some Redo) before now undo redo quit = absurd (redo refl)
made (Some Quit) before now undo redo quit = absurd (quit refl)
made command before now undo redo quit = refl

-- a command that undid and redid nothing
pub unnamed : (command : Option LineCommand) (before after : Option (List ℕ)) → (command ≡ Some Undo → ⊥) → (command ≡ Some Redo → ⊥) → named_changes true command before after ≡ []
unnamed (Some Undo) before after undo redo = absurd (undo refl)
unnamed (Some Redo) before after undo redo = absurd (redo refl)
unnamed command before after undo redo = refl
