use Rattle.std.proofs.Common.{rules}
use Rattle.std.specs.Ordering.{nat_cmp}
use Rattle.std.specs.BTreeMap.{get}
use Rattle.ra_model.specs.Places.{label_of}
use Rattle.ra_model.proofs.PlaceLemmas.{known_none, known_more, places_none, places_more}
use Rattle.ra_model.proofs.labels.firsts.Goals as goal

pub loop-m-init : goal.loop-m-init
loop-m-init c = record {
  known = known_none (label_of c.args.inst.now.tables c.args.label) (get nat_cmp c.new-known.result)
      (λ x. rw c.new-known.ensures.empty);
  places = rw c.in_ok-places.ensures.items (places_none (label_of c.args.inst.now.tables c.args.label));
  room = search rules;
}

pub loop-m-preserved : goal.loop-m-preserved
loop-m-preserved c = record {
  known = known_more (label_of c.args.inst.now.tables c.args.label) c.loop-m.m c.label_at-x.result c.in_ok-place.place
      (get nat_cmp c.loop-m.known) (get nat_cmp c.first_of.new.known) c.loop-m.invariant.known c.label_at-x.ensures
      c.in_ok-place.ensures.place c.in_ok-place.ensures.known;
  places = rw c.push.ensures.items
      (places_more (label_of c.args.inst.now.tables c.args.label) c.loop-m.m c.label_at-x.result c.in_ok-place.place
      (get nat_cmp c.loop-m.known) c.loop-m.places.items c.loop-m.invariant.known c.loop-m.invariant.places
      c.label_at-x.ensures c.in_ok-place.ensures.place);
  room = search rules;
}
