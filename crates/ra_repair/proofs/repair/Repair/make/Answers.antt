-- What was made is before the first try.
use Rattle.std.proofs.Common.{refl}
use Rattle.ra_repair.proofs.repair.Repair.make.Goals as goal

pub returns : goal.returns
returns c = record {
  instance = refl;
  topology = refl;
  initial = refl;
  lot = refl;
  fresh = record { none = c.in_ok-tries.ensures.items; begins = c.in_ok-kept.ensures.assignment };
}
