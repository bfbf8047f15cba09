use Rattle.std.proofs.Common.{refl}
use Rattle.std.proofs.lemmas.Result.{MatchResult-weaker}
use Rattle.ra_token.proofs.ToldLemmas.{at_exit}
use Rattle.ra_jobs.proofs.StageLemmas.{instance_open, instance_closed, source_model, source_closed, leaves_both}
use Rattle.ra_jobs.proofs.reading.read_instance.Goals as goal

pub returns-in-None-clause-read : goal.returns-in-None-clause-read
returns-in-None-clause-read g c = instance_open (g.F.Files.held c.args.files.now) c.args.model.now
    _ c.in_ok-inst.inst.tables c.in_ok-inst.ensures.read (rw c.in-None.is refl)

pub returns-in-Some-clause-read : goal.returns-in-Some-clause-read
returns-in-Some-clause-read g c = MatchResult-weaker c.close.result c.close.ensures.read
    (λ x h. instance_closed (g.F.Files.held c.args.files.now) (g.F.Files.held c.read_open.new.files) c.args.model.now
    _ c.in-Some.closed.now c.in_ok-inst.inst.tables x.tables
    c.read_open.ensures.leaves.kept (rw c.in-Some.is refl) c.in_ok-inst.ensures.read h)
    (λ y h. h)

pub returns-in-Some-clause-refused : goal.returns-in-Some-clause-refused
returns-in-Some-clause-refused g c = MatchResult-weaker c.close.result c.close.ensures.refused (λ x h. h)
    (λ y h. source_closed (g.F.Files.held c.args.files.now) (g.F.Files.held c.read_open.new.files) c.args.model.now
    _ c.in-Some.closed.now c.in_ok-inst.inst.tables
    (g.F.Files.faults c.args.files.now) (g.F.Files.faults c.read_open.new.files)
    (g.F.Files.faults c.close.new.files) c.read_open.ensures.leaves.kept c.read_open.ensures.leaves.never_fall
    (rw c.in-Some.is refl) c.in_ok-inst.ensures.read y h)

pub returns-in_err-inst-clause-refused : goal.returns-in_err-inst-clause-refused
returns-in_err-inst-clause-refused g c =
    at_exit _ _ _ c.from_residual.ensures
    (source_model (g.F.Files.held c.args.files.now) c.args.model.now _
    (g.F.Files.faults c.args.files.now) (g.F.Files.faults c.read_open.new.files) _ c.in_err-inst.ensures.refused)

pub returns-in-Some-clause-leaves : goal.returns-in-Some-clause-leaves
returns-in-Some-clause-leaves g c = leaves_both c.read_open.ensures.leaves c.close.ensures.leaves
