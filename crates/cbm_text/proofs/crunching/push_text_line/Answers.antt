use Rattle.std.proofs.Common.{◌≡◌, ◌≤◌, ◌⊎◌, List, ℕ, Err, inr, refl, sym, subst, rules}
use Rattle.std.specs.Result.{IfErr}
use Rattle.petscii.specs.TextFault.{IsFirstTextFault, IsTextOutOfMemory}
use Rattle.petscii.specs.TextForm.{IsTextOf}
use Rattle.cbm_text.specs.declared.fault.BasicFault.{BasicFault}
use Rattle.cbm_text.specs.declared.fault.BasicFault.TheVariants.{TokenByte}
use Rattle.cbm_text.specs.Program.{ProgramLine}
use Rattle.cbm_text.specs.Crunching.{Crunched}
use Rattle.cbm_text.specs.BasicText.{IsBasicOutOfMemory, IsTextLineRead, HasFault, most_bytes, greatest_link}
use Rattle.cbm_text.specs.LineFault.{IsFaultOfCodes, IsNext}
use Rattle.cbm_text.specs.Modes.{CrunchesUpTo}
use Rattle.cbm_text.proofs.TextPrograms.{codes_fault_known, crunched_short, line_pushed, text_fault_known}
use Rattle.cbm_text.proofs.crunching.push_text_line.Goals as goal

pub returns-in_err-number-clause-fault : goal.returns-in_err-number-clause-fault
returns-in_err-number-clause-fault c =
    let fault = c.in_err-number.field-0.0 in
    let known : IsBasicOutOfMemory fault ⊎ HasFault c.args.at c.args.place c.args.text.now fault = inr (c.in_err-number.ensures c.args.at) in
    search rules

pub returns-in-Err-clause-fault : goal.returns-in-Err-clause-fault
returns-in-Err-clause-fault c =
    let numbered = c.in_ok-number.ensures in
    let known = subst (λ (w : List ℕ). IsTextOutOfMemory c.in-Err.fault ⊎ IsFirstTextFault w c.in-Err.fault) numbered.2 c.in-Err.ensures.fault in
    subst (λ (fault : BasicFault). IsBasicOutOfMemory fault ⊎ HasFault c.args.at c.args.place c.args.text.now fault) (sym c.fault_of_text.ensures)
    (text_fault_known c.args.at c.args.place c.args.text.now c.in-Err.fault numbered.0 known)

pub returns-in_err-codes-clause-fault : goal.returns-in_err-codes-clause-fault
returns-in_err-codes-clause-fault c =
    let numbered = c.in_ok-number.ensures in
    let bytes = c.in-Ok.bytes.items in
    let none : (codes : List ℕ) → ¬ (Crunched c.deref.result.now codes) = rw c.in_err-codes.ensures.0 at c.in_ok-crunch_bytes.ensures in
    let read : IsTextLineRead c.args.text.now bytes =
    record { numbered = numbered.0; read = subst (λ (w : List ℕ). IsTextOf bytes w) numbered.2 c.in-Ok.ensures.read } in
    let token : HasFault c.args.at c.args.place c.args.text.now (TokenByte c.args.place) =
    (refl, bytes, read, subst (λ (w : List ℕ). (codes : List ℕ) → ¬ (Crunched w codes)) c.deref.ensures.value none) in
    let same : c.from_residual-in_err-codes.result ≡ Err c.in_err-codes.field-0.0 = search rules in
    subst (λ r. IfErr r (λ fault. IsBasicOutOfMemory fault ⊎ HasFault c.args.at c.args.place c.args.text.now fault)) (sym same)
    (inr (subst (λ (fault : BasicFault). HasFault c.args.at c.args.place c.args.text.now fault) (sym c.in_err-codes.ensures.1) token))

pub returns-in_err-next-clause-fault : goal.returns-in_err-next-clause-fault
returns-in_err-next-clause-fault c =
    let numbered = c.in_ok-number.ensures in
    let bytes = c.in-Ok.bytes.items in
    let codes = c.in_ok-codes.codes.items in
    let fault = c.in_err-next.field-0.0 in
    let up_to : CrunchesUpTo most_bytes c.deref.result.now codes = rw c.in_ok-codes.ensures at c.in_ok-crunch_bytes.ensures in
    let read : IsTextLineRead c.args.text.now bytes =
    record { numbered = numbered.0; read = subst (λ (w : List ℕ). IsTextOf bytes w) numbered.2 c.in-Ok.ensures.read } in
    let known : IsFaultOfCodes c.args.at c.args.place bytes codes fault =
    subst (λ (w : List ℕ). IsFaultOfCodes c.args.at c.args.place w codes fault) c.deref-2.ensures.value
    (subst (λ (w : List ℕ). IsFaultOfCodes c.args.at c.args.place c.deref-2.result.now w fault) c.deref-3.ensures.value c.in_err-next.ensures) in
    let same : c.from_residual-in_err-next.result ≡ Err fault = search rules in
    subst (λ r. IfErr r (λ found. IsBasicOutOfMemory found ⊎ HasFault c.args.at c.args.place c.args.text.now found)) (sym same)
    (inr (codes_fault_known c.args.at c.args.place most_bytes c.args.text.now bytes codes fault read
    (subst (λ (w : List ℕ). CrunchesUpTo most_bytes w codes) c.deref.ensures.value up_to) known))

pub returns-clause-line : goal.returns-clause-line
returns-clause-line c =
    let numbered = c.in_ok-number.ensures in
    let bytes = c.in-Ok.bytes.items in
    let codes = c.in_ok-codes.codes.items in
    let next = c.in_ok-next.next in
    let line : ProgramLine = record { number = c.in_ok-number.number; bytes = codes } in
    let up_to : CrunchesUpTo most_bytes c.deref.result.now codes = rw c.in_ok-codes.ensures at c.in_ok-crunch_bytes.ensures in
    let known : IsNext c.args.at bytes codes next =
    subst (λ (w : List ℕ). IsNext c.args.at w codes next) c.deref-2.ensures.value
    (subst (λ (w : List ℕ). IsNext c.args.at c.deref-2.result.now w next) c.deref-3.ensures.value c.in_ok-next.ensures) in
    let there : Crunched c.deref.result.now codes = crunched_short most_bytes c.deref.result.now codes up_to known.short in (
      line,
      record {
        bytes = bytes;
        crunched = record {
          read = record { numbered = numbered.0; read = subst (λ (w : List ℕ). IsTextOf bytes w) numbered.2 c.in-Ok.ensures.read };
          crunched = subst (λ (w : List ℕ). Crunched w codes) c.deref.ensures.value there;
        };
        number = numbered.1;
        no_zero = known.no_zero;
        short = known.short;
        linked = subst (λ (n : ℕ). n ≤ greatest_link) known.is known.linked;
      },
      known.is,
      line_pushed c.args.file.now.items c.push_line.new.file.items c.deref-4.result.now codes c.args.at next c.in_ok-number.number
          c.in_ok-push_line.ensures known.is c.deref-4.ensures.value,
    )
