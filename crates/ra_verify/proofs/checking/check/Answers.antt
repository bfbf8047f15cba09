use Rattle.std.proofs.Common.{ap, ◌∙◌, le_trans}
use Rattle.ra_journal.specs.Journals.{opening_in}
use Rattle.ra_verify.proofs.CheckLemmas.{long_wrong, over_all, rose_since}
use Rattle.ra_verify.proofs.checking.check.Goals as goal

pub check_rest-requires-clause-head : goal.check_rest-requires-clause-head
check_rest-requires-clause-head g c =
    let read = c.read_head.ensures.head in
    let same = ap (g.F.Files.held c.read_head.new.files) read.called ∙ read.leaves.kept c.args.reader.now.name in
    rw (same, c.as_slice.ensures) (rw c.in-Ok.is at read.is)

pub returns-in-Ok : goal.returns-in-Ok
returns-in-Ok g c =
    let read = c.read_head.ensures.head in
    let rest = c.check_rest.ensures in
    let same = ap (g.F.Files.held c.read_head.new.files) read.called ∙ read.leaves.kept c.args.reader.now.name in
    record {
      none_wrong = rw same at rest.none_wrong;
      report = rw same at rest.report;
      wrong = rw same at rest.wrong;
      fault = λ is. rose_since (read.leaves.never_fall c.args.reader.now.name) ((rw read.called at rest.fault) is);
      leaves = record {
        kept = λ other. rest.leaves.kept other ∙ read.leaves.kept other;
        never_fall = λ other. le_trans (read.leaves.never_fall other) (rest.leaves.never_fall other);
      };
    }

pub returns-in-Err : goal.returns-in-Err
returns-in-Err g c =
    let j = c.args.checker.now.journal in
    let read = c.read_head.ensures.head in
    record {
      none_wrong = over_all _ (λ bytes. tt);
      report = over_all _ (λ bytes. tt);
      wrong = long_wrong (g.F.Files.held c.args.files.now c.args.reader.now.name)
          (opening_in j) c.read_head.result c.in-Err.why c.in-Err.is read.long;
      fault = λ is. read.fault (c.in-Err.is ∙ is);
      leaves = read.leaves;
    }
