-- Each resource by its place.
use Rattle.std.proofs.Common.{◌≡◌, ◌∙◌, ℕ, ◌+◌, ◌<◌, ◌≤◌, ap, ap₂, slice_index, arith, below_more}
use Rattle.ra_base.specs.declared.causes.Cause.TheVariants.{Capacity}
use Rattle.ra_model.specs.Numbers.{resource_count, capacity_of}
use Rattle.ra_shift.specs.Finding.{used_with}
use Rattle.ra_shift.specs.Sharing.{use_with}
use Rattle.ra_shift.proofs.ReadLaws.{room_holds, used_with as with_row}
use Rattle.ra_shift.proofs.shift.Shift.over_capacity.Goals as goal

pub returns-then-used-from-clause-some : goal.returns-then-used-from-clause-some
unfolding use_with
returns-then-used-from-clause-some c =
    let shift = c.args.self.now in
    let w = shift.world.now in
    let i = w.tables in
    let p = shift.process.0 in
    let to = c.args.to.0 in
    let r = c.loop-r.r in
    let end = ap (λ j. resource_count j) c.instance-inst.ensures.value in
    let within : r < resource_count i = omega (arith, end, c.resources-r-end.ensures, c.loop-r-test.true) in
    let cap = c.capacity-cap.ensures
    ∙ ap (λ j. capacity_of j to r) c.instance-inst.ensures.value in
    let sum : (k : ℕ) → k < resource_count i → slice_index c.usage_row-row.result.now k + slice_index shift.required.now k ≡
    used_with w p to k = λ k k_in. with_row i c.rows.result.now.tables w.here p to k
    c.usage_row-row.result.now shift.required.now c.rows.ensures.instance
    (c.usage_row-row.ensures.values _ c.rows.ensures.stand) shift.required_are k_in in
    record {
      r = r;
      within = within;
      before = λ k below. omega (arith, c.loop-r.invariant k below, sum k (omega (arith, below, within)));
      above = omega (arith, c.if-used-from.true, cap, sum r within, c.from.ensures, c.from-in-loop-r.ensures);
      named = ap₂ (Capacity (record { 0 = to }) (record { 0 = r }))
          (omega (arith, sum r within, c.from.ensures, c.from-in-loop-r.ensures)) cap;
    }

pub loop-r-preserved : goal.loop-r-preserved
loop-r-preserved c =
    let shift = c.args.self.now in
    let i = shift.world.now.tables in
    let P : ℕ → Type 0 = λ k. slice_index c.usage_row-row.result.now k + slice_index shift.required.now k ≤
    capacity_of i c.args.to.0 k in
    let cap = ap (λ j. capacity_of j c.args.to.0 c.loop-r.r) c.instance-inst.ensures.value in
    let here : slice_index c.usage_row-row.result.now c.loop-r.r + slice_index shift.required.now c.loop-r.r ≤
    capacity_of i c.args.to.0 c.loop-r.r =
    omega (arith, c.if-used-from.false, cap, c.capacity-cap.ensures, c.from.ensures, c.from-in-loop-r.ensures) in
    below_more P c.loop-r.r c.loop-r.invariant here

pub returns-clause-none : goal.returns-clause-none
returns-clause-none c =
    let shift = c.args.self.now in
    let w = shift.world.now in
    let end = ap (λ j. resource_count j) c.instance-inst.ensures.value in
    room_holds w.tables c.rows.result.now.tables w.here shift.process.0 c.args.to.0
    c.usage_row-row.result.now shift.required.now c.rows.ensures.instance
    (c.usage_row-row.ensures.values _ c.rows.ensures.stand) shift.required_are
    (λ k within. c.loop-r.invariant k (omega (arith, within, end, c.resources-r-end.ensures, c.loop-r-test.false)))
