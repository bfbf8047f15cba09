use Rattle.std.proofs.Common.{eqb, arith}
use Rattle.ra_base.proofs.Counts.{count_le}
use Rattle.ra_journal.specs.Entries.{entry_at}
use Rattle.plain.proofs.places.count_of.Goals as goal

pub overflow_add-count : goal.overflow_add-count
overflow_add-count c =
    omega (
      arith,
      c.loop-j.invariant,
      c.loop-j-test.true,
      c.ranges.n.fits,
      count_le c.loop-j.j (λ j. eqb (entry_at c.args.entries.now j).worker c.args.worker),
    )
