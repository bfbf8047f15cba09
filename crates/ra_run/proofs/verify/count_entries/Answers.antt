use Rattle.ra_token.proofs.ToldLemmas.{at_exit}
use Rattle.ra_journal.specs.Openings.{opening}
use Rattle.ra_run.proofs.VerifyLemmas.{fault_so, start_count}
use Rattle.ra_run.proofs.verify.count_entries.Goals as goal

pub returns-clause-refused : goal.returns-clause-refused
returns-clause-refused g c =
    let inst = c.args.start.now.inst in
    let o = opening inst.tables c.args.start.now.initial.items c.args.lots.now in
    rw c.refused_by.ensures
    (fault_so (g.F.Files.held c.args.files.now) c.args.report.now o
    (g.F.Files.faults c.args.files.now) (g.F.Files.faults c.verify-told.new.files)
    c.verify-told.result c.in-Err.why inst.well_formed inst.small c.requires.fits
    c.in_ok-scratch.ensures.feasible c.in-Err.is (rw c.as_str.ensures at c.verify-told.ensures.wrong)
    (rw c.as_str.ensures at c.verify-told.ensures.fault))

pub returns-in_err-scratch-clause-refused : goal.returns-in_err-scratch-clause-refused
returns-in_err-scratch-clause-refused g c =
    at_exit _ _ _ c.from_residual.ensures
    (start_count (g.F.Files.held c.args.files.now) c.args.report.now
    (opening c.args.start.now.inst.tables c.args.start.now.initial.items c.args.lots.now)
    (g.F.Files.faults c.args.files.now)
    (g.F.Files.faults c.args.files.now) _ c.in_err-scratch.ensures.refused)
