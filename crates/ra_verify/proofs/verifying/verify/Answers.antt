use Rattle.std.proofs.Common.{◌≡◌, ℕ, Some, None, Err, IfOk, ap, arith}
use Rattle.ra_journal.specs.Journals.{opening_in}
use Rattle.ra_verify.specs.WrongLines.{IsWrongLine, IsReport}
use Rattle.ra_verify.specs.declared.faults.VerifyFault.TheVariants as fault
use Rattle.ra_verify.proofs.CheckLemmas.{moved}
use Rattle.ra_verify.proofs.verifying.verify.Goals as goal

pub returns : goal.returns
returns g c =
    let held = g.F.Files.held c.args.files.now in
    let called = c.in_ok-room.room.reader.name in
    let name = c.args.name.now in
    let j = c.in_ok-checker.checker.journal in
    let named = c.in_ok-room.ensures.name in
    let e = c.in_ok-checker.ensures in
    let same = ap (λ x. opening_in x) e.journal in
    let told = c.check.ensures in
    record {
      none_wrong =
          moved held called name j _ (λ o bytes. IfOk c.check.result (λ n. IsWrongLine o bytes None)) named same
          told.none_wrong;
      report = moved held called name j _ (λ o bytes. IfOk c.check.result (λ n. IsReport o bytes n)) named same
          told.report;
      wrong = moved held called name j _ (λ o bytes. (n : ℕ) → c.check.result ≡ Err (fault.Wrong n) →
          IsWrongLine o bytes (Some n)) named same told.wrong;
      fault = rw named at told.fault;
      leaves = told.leaves;
    }

-- no memory
pub returns-in_err-room : goal.returns-in_err-room
returns-in_err-room g c = grind arith
