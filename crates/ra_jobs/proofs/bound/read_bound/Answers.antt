-- The instance was read, and then the initial list if one is named.
use Rattle.std.proofs.Common.{[]}
use Rattle.ra_token.proofs.ToldLemmas.{at_exit}
use Rattle.ra_jobs.specs.Refusals.{Nothing}
use Rattle.ra_jobs.specs.declared.refusals.Role.TheVariants as role
use Rattle.ra_jobs.proofs.ResultLemmas.{if_ok_then, if_err_then}
use Rattle.ra_jobs.proofs.StageLemmas.{reason_list, reason_source, bound_read, leaves_both}
use Rattle.ra_jobs.proofs.bound.read_bound.Goals as goal

pub returns-clause-read : goal.returns-clause-read
returns-clause-read g c =
    if_ok_then c.bound_over-ended.result _ _
    (λ bound is. bound_read (g.F.Files.held c.args.files.now) (g.F.Files.held c.read_instance.new.files)
    _ c.in_ok-inst.inst.tables bound c.read_instance.ensures.leaves.kept
    c.in_ok-inst.ensures.read is) c.bound_over-ended.ensures.read

pub returns-clause-refused : goal.returns-clause-refused
returns-clause-refused g c =
    if_err_then c.bound_over-ended.result _ _
    (λ refusal reason. reason_list (g.F.Files.held c.args.files.now) (g.F.Files.held c.read_instance.new.files)
    _ role.Initial c.in_ok-inst.inst.tables [] (g.F.Files.faults c.args.files.now)
    (g.F.Files.faults c.read_instance.new.files) (g.F.Files.faults c.bound_over-ended.new.files) Nothing
    c.read_instance.ensures.leaves.kept c.read_instance.ensures.leaves.never_fall reason.0 c.in_ok-inst.ensures.read
    (λ e. absurd (cc)) refusal reason.1) c.bound_over-ended.ensures.refused

pub returns-in_err-inst-clause-refused : goal.returns-in_err-inst-clause-refused
returns-in_err-inst-clause-refused g c =
    at_exit _ _ _ c.from_residual.ensures
    (reason_source (g.F.Files.held c.args.files.now) _ (g.F.Files.faults c.args.files.now)
    (g.F.Files.faults c.read_instance.new.files) Nothing _ c.in_err-inst.ensures.refused)

pub returns-clause-leaves : goal.returns-clause-leaves
returns-clause-leaves g c = leaves_both c.read_instance.ensures.leaves c.bound_over-ended.ensures.leaves
