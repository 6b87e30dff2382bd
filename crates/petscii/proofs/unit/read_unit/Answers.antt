use Rattle.std.proofs.Common.{[], ◌∷◌, refl, inl}
use Rattle.petscii.proofs.UnitForms.{accepted_character, unknown_character}
use Rattle.petscii.proofs.unit.read_unit.Goals as goal

pub returns-in-Some-clause-read : goal.returns-in-Some-clause-read
returns-in-Some-clause-read c = record {
  unit = c.args.first ∷ [];
  is_unit = inl (record { byte = c.args.first; is = refl; no_brace = c.if-first-eq123.false });
  accepted = accepted_character c.in-Some.byte c.args.first c.in-Some.ensures.0 c.in-Some.ensures.1;
  joined = refl;
}

pub returns-in-None-clause-fault : goal.returns-in-None-clause-fault
returns-in-None-clause-fault c = (
  refl,
  record {
    byte = c.args.first;
    rest = c.args.after.now;
    joined = refl;
    no_brace = c.if-first-eq123.false;
    unknown = unknown_character c.args.first c.in-None.ensures c.if-first-eq123.false;
  },
)
