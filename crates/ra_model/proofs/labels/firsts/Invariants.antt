use Rattle.std.proofs.Common.{◌≡◌}
use Rattle.std.specs.Ordering.{nat_cmp}
use Rattle.std.specs.BTreeMap.{get}
use Rattle.ra_model.specs.Places.{AreFirst, label_of}
use Rattle.ra_model.proofs.PlaceLemmas.{IsKnown}
use Rattle.ra_model.proofs.labels.firsts.Given as goal

abbrev pub invariant-loop-m : goal.invariant-loop-m
invariant-loop-m l = record {
  known : IsKnown (label_of l.inst.tables l.label) l.m (get nat_cmp l.known);
  places : AreFirst (label_of l.inst.tables l.label) l.m l.places.items;
  room : l.places.room ≡ l.count;
}
