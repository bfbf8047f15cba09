use Rattle.std.proofs.Common.{length, refl}
use Rattle.ra_worker.proofs.Steps.{told_next, work_told, place_told}
use Rattle.ra_worker.proofs.worker.Worker.take_copied.Goals as goal

pub take_in-requires-clause-told : goal.take_in-requires-clause-told
take_in-requires-clause-told c = told_next c.args._shared.now c.args.self.now c.args.self.now.batch c.requires.work
    c.requires.next.next

pub returns-clause-work : goal.returns-clause-work
returns-clause-work c =
    work_told c.args._shared.now c.args.self.now (record c.args.self.now { replica = c.take_in.new.replica })
    c.args.self.now.batch (length c.args.self.now.batch) c.requires.work c.requires.next.next c.take_in.ensures refl

pub returns-clause-place : goal.returns-clause-place
returns-clause-place c =
    place_told c.args.self.now (record c.args.self.now { replica = c.take_in.new.replica }) c.args.self.now.batch
    c.requires.next.next c.take_in.ensures c.requires.more
