-- Each resource by its place.
use Rattle.std.proofs.Common.{◌≡◌, ◌∙◌, ℕ, ◌+◌, ◌<◌, ◌≤◌, true, ap, ap₂, sym, slice_index, arith, below_more}
use Rattle.std.proofs.lemmas.Bool.{both_ways}
use Rattle.ra_base.specs.declared.causes.Cause.TheVariants.{Transient}
use Rattle.ra_model.specs.Numbers.{resource_count, transient_at, capacity_of}
use Rattle.ra_shift.specs.Finding.{used_between}
use Rattle.ra_shift.proofs.ReadLaws.{between_holds, between_with}
use Rattle.ra_shift.proofs.shift.Shift.over_between.Goals as goal

pub returns-then-is_too_much-clause-some : goal.returns-then-is_too_much-clause-some
returns-then-is_too_much-clause-some c =
    let shift = c.args.self.now in
    let w = shift.world.now in
    let i = w.tables in
    let p = shift.process.0 in
    let to = c.args.to.0 in
    let r = c.loop-r.r in
    let end = ap (λ j. resource_count j) c.instance-inst.ensures.value in
    let within : r < resource_count i = omega (arith, end, c.resources-r-end.ensures, c.loop-r-test.true) in
    let cap = c.capacity.ensures
    ∙ ap (λ j. capacity_of j to r) c.instance-inst.ensures.value in
    let much = c.is_too_much.ensures.0 c.if-is_too_much.true in
    let sum : (k : ℕ) → k < resource_count i → slice_index c.transient_row-row.result.now k
    + slice_index shift.required.now k ≡ used_between w p to k =
    λ k k_in. between_with i c.rows.result.now.tables w.start c.rows.result.now.start w.here
    p to k c.transient_row-row.result.now shift.required.now c.rows.ensures.instance c.rows.ensures.initial
    (c.transient_row-row.ensures.values _ c.rows.ensures.stand) shift.required_are k_in in
    record {
      r = r;
      within = within;
      away = λ home. c.if-to-self.false (sym home ∙ sym shift.home_is);
      transient = much.0;
      before = λ k below transient. omega (
        arith,
        c.loop-r.invariant k below transient,
        sum k (omega (arith, below, within)),
      );
      above = omega (arith, much.1, sum r within, c.from.ensures);
      named = ap₂ (Transient (record { 0 = to }) (record { 0 = r })) (omega (arith, sum r within, c.from.ensures)) cap;
    }

pub loop-r-preserved : goal.loop-r-preserved
loop-r-preserved c =
    let i = c.args.self.now.world.now.tables in
    let P : ℕ → Type 0 = λ k. transient_at i k ≡ true → slice_index c.transient_row-row.result.now k
    + slice_index c.args.self.now.required.now k ≤ capacity_of i c.args.to.0 k in
    let here : P c.loop-r.r = λ transient. (
    let few : capacity_of i c.args.to.0 c.loop-r.r < slice_index c.transient_row-row.result.now c.loop-r.r
    + c.from.result → ⊥ =
    λ much. both_ways c.is_too_much.result c.if-is_too_much.false (c.is_too_much.ensures.1 (transient, much)) in
    omega (arith, few, c.from.ensures)
    ) in
    below_more P c.loop-r.r c.loop-r.invariant here

pub returns-clause-none : goal.returns-clause-none
returns-clause-none c =
    let shift = c.args.self.now in
    let w = shift.world.now in
    let end = ap (λ j. resource_count j) c.instance-inst.ensures.value in
    between_holds w.tables c.rows.result.now.tables w.start c.rows.result.now.start w.here
    shift.process.0 c.args.to.0 c.transient_row-row.result.now shift.required.now c.rows.ensures.instance
    c.rows.ensures.initial (c.transient_row-row.ensures.values _ c.rows.ensures.stand) shift.required_are
    (λ k within. c.loop-r.invariant k (omega (arith, within, end, c.resources-r-end.ensures, c.loop-r-test.false)))

pub returns-then-to-self-clause-none : goal.returns-then-to-self-clause-none
returns-then-to-self-clause-none c = record {
  each = λ r within transient away. absurd (away (sym c.args.self.now.home_is ∙ sym c.if-to-self.true));
}
