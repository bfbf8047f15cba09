use Rattle.std.proofs.Common.{◌≡◌, ◌+◌, None}
use Rattle.ra_base.specs.Searches.{first}
use Rattle.ra_model.specs.Numbers.{machine_count}
use Rattle.ra_model.specs.Broken.{spread_test}
use Rattle.ra_check.specs.Stamps.{AreMarksBelow}
use Rattle.ra_check.proofs.spread.first_narrow.Given as goal

abbrev pub invariant-loop-s : goal.invariant-loop-s
invariant-loop-s l = record {
  none : first l.s (spread_test l.inst.tables l.a.items) ≡ None;
  marks : AreMarksBelow l.marks.items (machine_count l.inst.tables) (l.s + 1);
}
