use Rattle.std.proofs.Common.{Err, ap, ◌∙◌}
use Rattle.ra_journal.specs.Journals.{opening_in}
use Rattle.ra_verify.specs.declared.faults.VerifyFault.TheVariants as fault
use Rattle.ra_verify.proofs.CheckLemmas.{first_lines, entry_wrong_first, judged_none, judged_report}
use Rattle.ra_verify.proofs.CheckerLemmas.{same_run}
use Rattle.ra_verify.proofs.CheckLemmas.{judged_wrong, no_fault, over_all, same_why}
use Rattle.ra_verify.proofs.checking.check_rest.Goals as goal

pub read_rest-requires-clause-head : goal.read_rest-requires-clause-head
read_rest-requires-clause-head g c = first_lines (g.F.Files.held c.args.files.now c.args.reader.now.name)
    c.args.reader.now.place c.args.lines c.args.head.now c.requires.head

pub returns-in-Err : goal.returns-in-Err
returns-in-Err g c =
    let j = c.args.checker.now.journal in
    record {
      none_wrong = over_all _ (λ bytes. tt);
      report = over_all _ (λ bytes. tt);
      wrong = entry_wrong_first (g.F.Files.held c.args.files.now c.args.reader.now.name)
          (opening_in j) c.args.reader.now.place c.args.lines c.args.head.now c.read_rest.result c.in-Err.why
          c.in-Err.is c.requires.head c.read_rest.ensures.wrong;
      fault = λ is. c.read_rest.ensures.fault (c.in-Err.is ∙ ap Err (same_why c.in-Err.why fault.ReadFault is));
      leaves = c.read_rest.ensures.leaves;
    }

pub returns-in-Ok : goal.returns-in-Ok
returns-in-Ok g c =
    let j = c.args.checker.now.journal in
    let told = g.F.Files.held c.args.files.now c.args.reader.now.name in
    let rest = c.read_rest.ensures in
    let after = c.read_rest.new.checker in
    let same = same_run c.args.checker.now after rest.same in
    record {
      none_wrong = judged_none told (opening_in j) c.args.reader.now.place c.args.lines
          c.args.head.now after.journal c.read_rest.result _ c.judge.result c.in-Ok.is same c.requires.head rest.right
          c.judge.ensures.accepted;
      report = judged_report told (opening_in j) c.args.reader.now.place c.args.lines
          c.args.head.now after.journal c.read_rest.result _ c.judge.result c.in-Ok.is same c.requires.head rest.right
          c.judge.ensures.accepted;
      wrong = judged_wrong told (opening_in j) c.args.reader.now.place c.args.lines
          c.args.head.now after.journal c.read_rest.result _ c.judge.result c.in-Ok.is same c.requires.head rest.right
          rest.all c.judge.ensures.wrong;
      fault = no_fault c.judge.result after.journal c.args.head.now c.args.lines c.judge.ensures.wrong;
      leaves = rest.leaves;
    }
