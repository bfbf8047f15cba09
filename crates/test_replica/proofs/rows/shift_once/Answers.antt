-- The process is where it was put.
use Rattle.ra_rows.proofs.StandLemmas.{has_after}
use Rattle.test_replica.proofs.rows.shift_once.Goals as goal

pub returns-clause-stands : goal.returns-clause-stands
returns-clause-stands g c = has_after c.args.rows.now c.shift.new.self c.args.p.0 c.args.from.0 c.args.to
    c.requires.process c.requires.stands c.shift.ensures.stands
