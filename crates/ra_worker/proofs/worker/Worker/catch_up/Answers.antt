use Rattle.std.proofs.Common.{refl, ap, ◌∙◌, arith}
use Rattle.ra_journal.specs.Batches.{batch_from}
use Rattle.ra_turn.specs.Passes.{seen_by}
use Rattle.ra_worker.proofs.Seen.{prefix_long}
use Rattle.ra_worker.proofs.Steps.{work_handed}
use Rattle.ra_worker.proofs.worker.Worker.catch_up.Goals as goal

pub catch_up-requires-clause-place : goal.catch_up-requires-clause-place
catch_up-requires-clause-place g c = omega (arith, c.place-place.ensures, c.requires.work.at.place)

pub take_copied-requires-clause-work : goal.take_copied-requires-clause-work
take_copied-requires-clause-work g c =
    work_handed c.args.shared.now c.args.self.now
    (record c.args.self.now { pass = c.catch_up.new.pass; batch = c.catch_up.new.batch }) c.requires.work refl
    c.catch_up.ensures.rest c.catch_up.ensures.turn.0 c.catch_up.ensures.seen

pub take_copied-requires-clause-next : goal.take_copied-requires-clause-next
take_copied-requires-clause-next g c = record {
  next = c.catch_up.ensures.batch ∙ ap (batch_from (seen_by c.catch_up.new.pass)) c.place-place.ensures;
}

pub take_copied-requires-clause-more : goal.take_copied-requires-clause-more
take_copied-requires-clause-more g c = omega (
  arith,
  c.requires.more,
  prefix_long (seen_by c.args.self.now.pass) (seen_by c.catch_up.new.pass) c.catch_up.ensures.seen,
)
