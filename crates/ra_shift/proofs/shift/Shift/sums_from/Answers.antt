-- The sums of the lanes are those of the machines.
use Rattle.std.proofs.Common.{◌+◌, get_or, arith}
use Rattle.std.proofs.lemmas.Option.{IfSome_then}
use Rattle.ra_shift.proofs.SumLemmas.{lacking_within}
use Rattle.ra_shift.proofs.LaneLaws.{at_most, window_lacks, far_sums, near_sums}
use Rattle.ra_shift.proofs.shift.Shift.sums_from.Goals as goal

pub returns-then-marks_of-eq0 : goal.returns-then-marks_of-eq0
returns-then-marks_of-eq0 c =
    let w = c.args.self.now.world.now in
    let p = c.args.self.now.process.0 in
    let terms = c.args.asks.now.terms.items in
    let small = c.requires.asks.small c.if-not-asks.false in
    let these = c.requires.asks.terms c.if-not-asks.false in
    far_sums w p c.args.first c.args.limit c.filter_rows.result.now c.add_up.new.sums c.add_up.new.sums terms small
    (window_lacks w p c.args.first c.filter_rows.result.now terms c.filter_rows.ensures.rows these small
    c.requires.first)
    (rw c.as_slice.ensures.value at c.add_up.ensures) (rw c.if-marks_of-eq0.true at c.marks_of.ensures)

pub with_ways-requires-clause-small : goal.with_ways-requires-clause-small
with_ways-requires-clause-small c = λ k below.
    let said = rw c.as_slice.ensures.value at c.add_up.ensures in
    omega (
      arith,
      at_most c.args.limit (get_or c.add_up.new.sums k 0) _ (said k below),
      lacking_within c.filter_rows.result.now c.args.asks.now.terms.items (c.args.first + k),
      c.requires.asks.small c.if-not-asks.false,
    )

pub returns : goal.returns
returns c =
    let shift = c.args.self.now in
    let w = shift.world.now in
    let p = shift.process.0 in
    let terms = c.args.asks.now.terms.items in
    let small = c.requires.asks.small c.if-not-asks.false in
    let these = c.requires.asks.terms c.if-not-asks.false in
    let have = rw c.instance.ensures.value at c.with_ways.ensures in
    IfSome_then c.with_ways.result (rw shift.home_is at have)
    (λ marks with.
    near_sums w p c.args.first c.args.limit marks c.filter_rows.result.now c.add_up.new.sums c.with_ways.new.sums terms
    small (window_lacks w p c.args.first c.filter_rows.result.now terms c.filter_rows.ensures.rows these small
    c.requires.first)
    (rw c.as_slice.ensures.value at c.add_up.ensures) with)
