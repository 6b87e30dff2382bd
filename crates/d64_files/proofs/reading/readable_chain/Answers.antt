use Rattle.std.proofs.Common.{sym, ap, ◌∙◌, rules}
use Rattle.d64_files.specs.Ownership.{chain_at}
use Rattle.d64_files.specs.Reading.{is_del}
use Rattle.d64_files.proofs.Contents.{unused, unclosed, deleted, chainless, has_chain}
use Rattle.d64_files.proofs.reading.readable_chain.Goals as goal

pub returns-then-not-used-clause-refused : goal.returns-then-not-used-clause-refused
returns-then-not-used-clause-refused c = unused c.args.image.now c.args.entry.now.bytes (sym c.used.ensures ∙ c.if-not-used.true)

pub returns-then-not-closed-clause-refused : goal.returns-then-not-closed-clause-refused
returns-then-not-closed-clause-refused c =
    unclosed c.args.image.now c.args.entry.now.bytes (sym c.used.ensures ∙ c.if-not-used.false) (sym c.closed.ensures ∙ c.if-not-closed.true)

pub returns-then-is_del-clause-refused : goal.returns-then-is_del-clause-refused
returns-then-is_del-clause-refused c =
    deleted c.args.image.now c.args.entry.now.bytes (sym c.used.ensures ∙ c.if-not-used.false) (sym c.closed.ensures ∙ c.if-not-closed.false)
    (sym (c.is_del.ensures ∙ ap is_del c.kind.ensures) ∙ c.if-is_del.true)

pub returns-in-Some-clause-refused : goal.returns-in-Some-clause-refused
returns-in-Some-clause-refused c =
    has_chain c.args.image.now c.args.entry.now.bytes (sym c.used.ensures ∙ c.if-not-used.false) (sym c.closed.ensures ∙ c.if-not-closed.false)
    (sym (c.is_del.ensures ∙ ap is_del c.kind.ensures) ∙ c.if-is_del.false)
    (λ e. c.in-Some.ensures.exists.0 (search rules) (ap (chain_at c.args.image.now) c.first_pair-track.ensures ∙ e))

pub returns-in-None-clause-refused : goal.returns-in-None-clause-refused
returns-in-None-clause-refused c =
    chainless c.args.image.now c.args.entry.now.bytes (sym c.used.ensures ∙ c.if-not-used.false) (sym c.closed.ensures ∙ c.if-not-closed.false)
    (sym (c.is_del.ensures ∙ ap is_del c.kind.ensures) ∙ c.if-is_del.false)
    (sym (c.in-None.ensures.value ∙ ap (chain_at c.args.image.now) c.first_pair-track.ensures))
