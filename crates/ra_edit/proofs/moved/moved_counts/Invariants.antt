-- The moved processes so far.
use Rattle.std.proofs.Common.{◌≡◌, length}
use Rattle.ra_model.specs.Numbers.{service_count, process_count}
use Rattle.ra_check.specs.Stands.{HasMoved}
use Rattle.ra_edit.specs.Keeping.{tables_with}
use Rattle.ra_edit.proofs.moved.moved_counts.Given as goal

abbrev pub invariant-loop-p : goal.invariant-loop-p
invariant-loop-p l = record {
  counted : HasMoved (tables_with l.inst.tables l.lists) l.lists.initial.items l.lists.current.items l.p l.moved.counts;
  slots : length l.moved.counts ≡ service_count l.inst.tables;
  limit : l.moved.limit ≡ process_count l.inst.tables;
}
