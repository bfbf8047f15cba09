-- The rows represent the start.
use Rattle.test_replica.proofs.rows.rows_at_start.Goals as goal

pub returns-clause-stands : goal.returns-clause-stands
returns-clause-stands g c = record {
  assignment = c.args.a0.now.items;
  stands = rw c.expect.ensures at c.make.ensures.stands;
  at = c.requires.at;
}
