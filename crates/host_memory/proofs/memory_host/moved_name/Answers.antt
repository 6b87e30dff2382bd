use Rattle.std.proofs.Common.{◌≡◌, ◌++◌, sym, subst, ◌∙◌, rules, IfOk, string_bytes}
use Rattle.host_memory.proofs.Moves.{moved_name-within, moved_name-beside, stripped, unstripped}
use Rattle.host_memory.proofs.memory_host.moved_name.Goals as goal

-- the new beginning, and what follows the old one
pub returns-in_ok-push_str-in-Some : goal.returns-in_ok-push_str-in-Some
returns-in_ok-push_str-in-Some c =
    let pushed : string_bytes c.push_str.new.self ≡ c.args.to.now ++ c.in-Some.rest.now = search rules in
    let whole = stripped c.args.from.now c.args.name.now c.strip_prefix.result c.strip_prefix.ensures.cases c.in-Some.rest c.in-Some.is in
    pushed ∙ sym (moved_name-within c.args.from.now c.args.to.now c.args.name.now c.in-Some.rest.now whole)

-- the name as it is
pub returns-in-None : goal.returns-in-None
returns-in-None c =
    let beside = moved_name-beside c.args.from.now c.args.to.now c.args.name.now (unstripped c.args.from.now c.args.name.now c.strip_prefix.result c.strip_prefix.ensures.cases c.in-None.is) in
    subst (λ named. IfOk c.from_str-in-None.result (λ moved. string_bytes moved ≡ named)) (sym beside) (search rules)
