-- Each need by its place.
use Rattle.std.proofs.Common.{◌≢◌, ℕ, ◌<◌, ◌∙◌, ap, refl, arith, below_more}
use Rattle.ra_model.specs.Numbers.{service_count, service_of, neighbourhood_of}
use Rattle.ra_model.specs.Services.{in_neighbourhood}
use Rattle.ra_topology.specs.Lists.{service_at}
use Rattle.ra_shift.proofs.AllowLaws.{refused}
use Rattle.ra_shift.proofs.ReadLaws.{needs_there, needs_within, needs_hold, needs_lack}
use Rattle.ra_shift.proofs.shift.Shift.finds_needs.Goals as goal

pub is_missing-requires : goal.is_missing-requires
unfolding service_at
is_missing-requires c =
    let shift = c.args.self.now in
    let i = shift.world.now.tables in
    let s_in : shift.service.0 < service_count i =
    omega (arith, shift.service_is, shift.sound.well_formed.services shift.process.0 shift.process_known) in
    needs_within i shift.service.0 c.loop-need.need-index c.distinct_needs-needs.result.now shift.sound.well_formed
    (needs_there i c.topology.result.now.distinct shift.service.0 c.distinct_needs-needs.result.now
    c.topology.ensures.fits.distinct
    s_in c.distinct_needs-needs.ensures)
    s_in c.loop-need-test.true

pub returns-then-is_missing : goal.returns-then-is_missing
unfolding service_at
returns-then-is_missing c =
    let shift = c.args.self.now in
    let w = shift.world.now in
    let i = w.tables in
    let s_in : shift.service.0 < service_count i =
    omega (arith, shift.service_is, shift.sound.well_formed.services shift.process.0 shift.process_known) in
    let label = c.neighbourhood-label.ensures
    ∙ ap (λ j. neighbourhood_of j c.args.to.0) c.instance.ensures.value in
    refused (needs_lack i w.here shift.process.0 shift.service.0 c.args.to.0
    c.neighbourhood-label.result c.loop-need.need-index c.distinct_needs-needs.result.now shift.service_is label
    (needs_there i c.topology.result.now.distinct shift.service.0 c.distinct_needs-needs.result.now
    c.topology.ensures.fits.distinct
    s_in c.distinct_needs-needs.ensures) c.loop-need-test.true (c.if-is_missing.ensures.other refl)
    (c.if-is_missing.ensures.none refl))

pub loop-need-preserved : goal.loop-need-preserved
unfolding service_at
loop-need-preserved c =
    let w = c.args.self.now.world.now in
    let P : ℕ → Type 0 = λ k. service_at c.distinct_needs-needs.result.now k ≢
    service_of w.tables c.args.self.now.process.0 →
    0 < in_neighbourhood w.tables w.here (service_at c.distinct_needs-needs.result.now k)
    c.neighbourhood-label.result in
    below_more P c.loop-need.need-index c.loop-need.invariant (c.if-is_missing.ensures.some refl)

pub returns : goal.returns
returns c =
    let shift = c.args.self.now in
    let w = shift.world.now in
    let i = w.tables in
    let s_in : shift.service.0 < service_count i =
    omega (arith, shift.service_is, shift.sound.well_formed.services shift.process.0 shift.process_known) in
    let label = c.neighbourhood-label.ensures
    ∙ ap (λ j. neighbourhood_of j c.args.to.0) c.instance.ensures.value in (
      λ _. needs_hold i w.here shift.process.0 shift.service.0 c.args.to.0 c.neighbourhood-label.result
          c.distinct_needs-needs.result.now shift.service_is label
          (needs_there i c.topology.result.now.distinct shift.service.0 c.distinct_needs-needs.result.now
          c.topology.ensures.fits.distinct
          s_in c.distinct_needs-needs.ensures)
          (λ k within. c.loop-need.invariant k (omega (arith, within, c.loop-need-test.false))),
      λ _. refl,
    )
