-- The dependencies of one more service.
use Rattle.std.proofs.Common.{◌≡◌, ◌<◌, ◌∙◌, length, ap, arith}
use Rattle.ra_model.specs.Numbers.{service_count}
use Rattle.ra_topology.proofs.NeedLemmas.{listed_none, listed_more, room_left, needs_ascend, needs_are}
use Rattle.ra_topology.proofs.needs.list_needs.Goals as goal

pub loop-s-init : goal.loop-s-init
loop-s-init c = record {
  listed = rw (c.in_ok-all.ensures.items, c.in_ok-ends.ensures.items) (listed_none c.args.inst.now.tables);
  room = c.in_ok-all.ensures.room ∙ c.count_needs.ensures;
  end_room = c.in_ok-ends.ensures.room;
}

pub extend_from_slice-requires : goal.extend_from_slice-requires
extend_from_slice-requires c =
    let i = c.args.inst.now.tables in
    let there : c.loop-s.s < service_count i = omega (arith, c.loop-s-test.true, c.services-count.ensures) in
    omega (arith, c.loop-s.invariant.listed.size, c.loop-s.invariant.room, c.depends.ensures.count, room_left)

pub loop-s-preserved : goal.loop-s-preserved
loop-s-preserved c =
    let i = c.args.inst.now.tables in
    let there : c.loop-s.s < service_count i = omega (arith, c.loop-s-test.true, c.services-count.ensures) in
    record {
      listed = rw (c.push.ensures.items, c.extend_from_slice.ensures.items)
          (listed_more i c.loop-s.s _ c.loop-s.all.items c.depends.result.now c.loop-s.ends.items
          c.args.inst.now.well_formed there c.loop-s.invariant.listed c.depends.ensures.count c.depends.ensures.each
          (c.len.ensures.value ∙ ap length c.extend_from_slice.ensures.items));
      room = c.extend_from_slice.ensures.room ∙ c.loop-s.invariant.room;
      end_room = c.push.ensures.room ∙ c.loop-s.invariant.end_room;
    }

pub invariant_of-result : goal.invariant_of-result
invariant_of-result c =
    let i = c.args.inst.now.tables in
    let all : c.loop-s.s ≡ service_count i =
    omega (arith, c.loop-s-test.false, c.loop-s.auto.s-end, c.services-count.ensures) in
    needs_ascend i c.loop-s.all.items c.loop-s.ends.items c.loop-s.s c.args.inst.now.well_formed all
    c.loop-s.invariant.listed

pub returns : goal.returns
returns c =
    let i = c.args.inst.now.tables in
    let all : c.loop-s.s ≡ service_count i =
    omega (arith, c.loop-s-test.false, c.loop-s.auto.s-end, c.services-count.ensures) in
    needs_are i c.loop-s.all.items c.loop-s.ends.items c.loop-s.s c.args.inst.now.well_formed all
    c.loop-s.invariant.listed
