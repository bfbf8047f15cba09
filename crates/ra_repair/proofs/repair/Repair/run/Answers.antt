-- The lot is one that would be taken alone, and no try was made yet.
use Rattle.std.proofs.Common.{arith}
use Rattle.ra_repair.proofs.RunLemmas.{alone_fits}
use Rattle.ra_repair.proofs.repair.Repair.run.Goals as goal

pub make_tries-requires-clause-tries : goal.make_tries-requires-clause-tries
make_tries-requires-clause-tries c = record {
  fitting = alone_fits c.args.self.now.lot.now c.args.self.now.lot_fits;
  none = c.requires.none;
  room = omega (arith, c.args.self.now.room);
}
