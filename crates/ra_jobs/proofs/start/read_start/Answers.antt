use Rattle.std.proofs.Common.{[]}
use Rattle.ra_token.proofs.ToldLemmas.{at_exit}
use Rattle.ra_jobs.specs.declared.refusals.Role.TheVariants as role
use Rattle.ra_jobs.specs.Refusals.{Nothing}
use Rattle.ra_jobs.proofs.StageLemmas.{reason_list, reason_source, starts, leaves_both}
use Rattle.ra_jobs.proofs.start.read_start.Goals as goal

pub returns-in_err-initial-clause-refused : goal.returns-in_err-initial-clause-refused
returns-in_err-initial-clause-refused g c =
    at_exit _ _ _ c.from_residual-in_err-initial.ensures
    (reason_list (g.F.Files.held c.args.files.now) (g.F.Files.held c.read_instance.new.files) _
    role.Initial c.in_ok-inst.inst.tables [] (g.F.Files.faults c.args.files.now)
    (g.F.Files.faults c.read_instance.new.files) (g.F.Files.faults c.read_list.new.files) Nothing
    c.read_instance.ensures.leaves.kept c.read_instance.ensures.leaves.never_fall c.requires.initial
    c.in_ok-inst.ensures.read (λ e. absurd (cc)) _ c.in_err-initial.ensures.refused)

pub returns-in_err-inst-clause-refused : goal.returns-in_err-inst-clause-refused
returns-in_err-inst-clause-refused g c =
    at_exit _ _ _ c.from_residual.ensures
    (reason_source (g.F.Files.held c.args.files.now) _ (g.F.Files.faults c.args.files.now)
    (g.F.Files.faults c.read_instance.new.files) Nothing _ c.in_err-inst.ensures.refused)

pub returns-clause-leaves : goal.returns-clause-leaves
returns-clause-leaves g c = leaves_both c.read_instance.ensures.leaves c.read_list.ensures.leaves

pub returns-in_err-initial-clause-leaves : goal.returns-in_err-initial-clause-leaves
returns-in_err-initial-clause-leaves g c = leaves_both c.read_instance.ensures.leaves c.read_list.ensures.leaves

pub returns-clause-read : goal.returns-clause-read
returns-clause-read g c = starts (g.F.Files.held c.args.files.now) (g.F.Files.held c.read_instance.new.files)
    _ c.in_ok-inst.inst.tables c.in_ok-initial.initial.items
    c.read_instance.ensures.leaves.kept c.requires.initial c.requires.alone c.in_ok-inst.ensures.read
    c.in_ok-initial.ensures.read
