-- The distinct needs of one more service.
use Rattle.std.proofs.Common.{◌≡◌, ◌++◌, ◌<◌, ◌∙◌, length, ap, arith}
use Rattle.ra_base.specs.declared.ids.Service.{Service}
use Rattle.ra_model.specs.Numbers.{service_count}
use Rattle.ra_topology.proofs.NeedLemmas.{room_left}
use Rattle.ra_topology.proofs.CountLemmas.{marked_start}
use Rattle.ra_topology.proofs.DistinctLemmas.{cut_none, cut_more, distinct_are}
use Rattle.ra_topology.proofs.distinct.list_distinct.Goals as goal

pub loop-s-init : goal.loop-s-init
loop-s-init c = record {
  marked = marked_start c.args.inst.now.tables c.services-count.result c.in_ok-marks.marks.items
      c.services-count.ensures c.in_ok-marks.ensures;
  cut = rw (c.in_ok-all.ensures.items, c.in_ok-ends.ensures.items) (cut_none c.args.inst.now.tables);
  room = c.in_ok-all.ensures.room ∙ c.count_needs.ensures;
  end_room = c.in_ok-ends.ensures.room;
}

pub extend_from_slice-requires : goal.extend_from_slice-requires
extend_from_slice-requires c =
    let i = c.args.inst.now.tables in
    let there : c.loop-s.s < service_count i = omega (arith, c.loop-s-test.true, c.services-count.ensures) in
    omega (
      arith,
      c.loop-s.invariant.cut.size,
      c.loop-s.invariant.room,
      c.in_ok-row.ensures.row.few,
      ap (length {A = Service}) c.deref.ensures.value,
      room_left,
    )

pub loop-s-preserved : goal.loop-s-preserved
loop-s-preserved c =
    let i = c.args.inst.now.tables in
    let there : c.loop-s.s < service_count i = omega (arith, c.loop-s-test.true, c.services-count.ensures) in
    let new : c.extend_from_slice.new.self.items ≡ c.loop-s.all.items ++ c.in_ok-row.row.items =
    c.extend_from_slice.ensures.items ∙ ap (λ xs. c.loop-s.all.items ++ xs) c.deref.ensures.value in
    record {
      marked = c.in_ok-row.ensures.marked;
      cut = rw (c.push.ensures.items, new)
          (cut_more i c.loop-s.s _ c.loop-s.all.items c.in_ok-row.row.items c.loop-s.ends.items
          c.args.inst.now.well_formed there c.loop-s.invariant.cut c.in_ok-row.ensures.row
          (c.len.ensures.value ∙ ap length new));
      room = c.extend_from_slice.ensures.room ∙ c.loop-s.invariant.room;
      end_room = c.push.ensures.room ∙ c.loop-s.invariant.end_room;
    }

pub invariant_of-result : goal.invariant_of-result
invariant_of-result c = c.loop-s.invariant.cut.ascend

pub returns : goal.returns
returns c =
    let i = c.args.inst.now.tables in
    let all : c.loop-s.s ≡ service_count i =
    omega (arith, c.loop-s-test.false, c.loop-s.auto.s-end, c.services-count.ensures) in
    distinct_are i c.loop-s.all.items c.loop-s.ends.items c.loop-s.s all c.loop-s.invariant.cut
