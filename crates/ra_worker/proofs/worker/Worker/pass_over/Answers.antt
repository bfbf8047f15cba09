use Rattle.std.proofs.Common.{refl, subst}
use Rattle.ra_worker.specs.Replicas.{HasPassed}
use Rattle.ra_worker.proofs.Owning.{work_passed}
use Rattle.ra_worker.proofs.worker.Worker.pass_over.Goals as goal

pub returns-clause-work : goal.returns-clause-work
returns-clause-work c =
    work_passed c.args._shared.now c.args.self.now (record c.args.self.now { replica = c.pass_over.new.self })
    c.seen-seen.result c.requires.work c.requires.quiet c.seen-seen.ensures c.pass_over.ensures refl

pub returns-clause-passed : goal.returns-clause-passed
returns-clause-passed c =
    subst (HasPassed c.args.self.now.replica c.pass_over.new.self) c.seen-seen.ensures c.pass_over.ensures
