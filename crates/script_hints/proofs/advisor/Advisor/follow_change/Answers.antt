use Rattle.std.proofs.Common.{◌≡◌, Some, ap, sym, ◌∙◌, rules}
use Rattle.script_hints.specs.Past.{command_of}
use Rattle.script_lines.specs.declared.line_command.LineCommand.TheVariants.{Quit, Redo, Undo}
use Rattle.script_hints.proofs.Saying.{made, unnamed, unwritten, written}
use Rattle.script_hints.proofs.advisor.Advisor.follow_change.Goals as goal

-- the change that was undone is named
pub returns-in-Some-Undo-clause-named : goal.returns-in-Some-Undo-clause-named
returns-in-Some-Undo-clause-named g c raw says =
    let is : command_of raw ≡ Some Undo = sym (c.command_of.ensures raw says) ∙ c.in-Some-Undo.is ∙ ap Some c.in-Some-Undo.field-0-is in
    rw is (written _ _ _ (rw c.done-self.ensures at (rw c.known_line-undone.ensures at c.write_change.ensures.either)))

-- the change that was redone is named
pub returns-in-Some-Redo-clause-named : goal.returns-in-Some-Redo-clause-named
returns-in-Some-Redo-clause-named g c raw says =
    let is : command_of raw ≡ Some Redo = sym (c.command_of.ensures raw says) ∙ c.in-Some-Redo.is ∙ ap Some c.in-Some-Redo.field-0-is in
    rw is (written _ _ _ (rw c.known_line-redone.ensures at c.write_change-in-Some-Redo.ensures.either))

pub returns-in-Some-Quit-clause-named : goal.returns-in-Some-Quit-clause-named
returns-in-Some-Quit-clause-named g c raw says =
    let is : command_of raw ≡ Some Quit = sym (c.command_of.ensures raw says) ∙ c.in-Some-Quit.is ∙ ap Some c.in-Some-Quit.field-0-is in
    rw is (unwritten _)

pub returns-in_default-clause-named : goal.returns-in_default-clause-named
returns-in_default-clause-named g c raw says =
    let undo : command_of raw ≡ Some Undo → ⊥ = λ is. search rules in
    let redo : command_of raw ≡ Some Redo → ⊥ = λ is. search rules in
    rw (unnamed (command_of raw) _ _ undo redo) (unwritten _)

pub returns-else-self-before-clause-named : goal.returns-else-self-before-clause-named
returns-else-self-before-clause-named g c raw says =
    let undo : command_of raw ≡ Some Undo → ⊥ = λ is. search rules in
    let redo : command_of raw ≡ Some Redo → ⊥ = λ is. search rules in
    rw (unnamed (command_of raw) _ _ undo redo) (unwritten _)

pub returns-in-Some-Undo-clause-past : goal.returns-in-Some-Undo-clause-past
returns-in-Some-Undo-clause-past g c raw says =
    let is : command_of raw ≡ Some Undo = sym (c.command_of.ensures raw says) ∙ c.in-Some-Undo.is ∙ ap Some c.in-Some-Undo.field-0-is in
    rw is (search rules)

pub returns-in-Some-Redo-clause-past : goal.returns-in-Some-Redo-clause-past
returns-in-Some-Redo-clause-past g c raw says =
    let is : command_of raw ≡ Some Redo = sym (c.command_of.ensures raw says) ∙ c.in-Some-Redo.is ∙ ap Some c.in-Some-Redo.field-0-is in
    rw is (search rules)

pub returns-in-Some-Quit-clause-past : goal.returns-in-Some-Quit-clause-past
returns-in-Some-Quit-clause-past g c raw says =
    let is : command_of raw ≡ Some Quit = sym (c.command_of.ensures raw says) ∙ c.in-Some-Quit.is ∙ ap Some c.in-Some-Quit.field-0-is in
    rw is (search rules)

-- a line that made a change is held
pub returns-in_default-clause-past : goal.returns-in_default-clause-past
returns-in_default-clause-past g c raw says =
    let undo : command_of raw ≡ Some Undo → ⊥ = λ is. search rules in
    let redo : command_of raw ≡ Some Redo → ⊥ = λ is. search rules in
    let quit : command_of raw ≡ Some Quit → ⊥ = λ is. search rules in
    rw (made (command_of raw) _ _ undo redo quit) (search rules)

-- and one that made none is not
pub returns-else-self-before-clause-past : goal.returns-else-self-before-clause-past
returns-else-self-before-clause-past g c raw says =
    let undo : command_of raw ≡ Some Undo → ⊥ = λ is. search rules in
    let redo : command_of raw ≡ Some Redo → ⊥ = λ is. search rules in
    let quit : command_of raw ≡ Some Quit → ⊥ = λ is. search rules in
    rw (made (command_of raw) _ _ undo redo quit) (search rules)
