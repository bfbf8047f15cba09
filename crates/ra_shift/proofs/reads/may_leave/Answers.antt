-- What the cells count of the service, and of those that depend on it.
use Rattle.std.proofs.Common.{◌≡◌, ◌≢◌, ℕ, ◌<◌, refl, arith, below_more}
use Rattle.ra_model.specs.Numbers.{service_count}
use Rattle.ra_model.specs.Services.{in_neighbourhood}
use Rattle.ra_topology.specs.Lists.{service_at}
use Rattle.ra_shift.proofs.ReadLaws.{may_from_many, may_from_none, may_not_from, dependant_at, dependants_there}
use Rattle.ra_shift.proofs.reads.may_leave.Goals as goal

pub returns-then-in_neighbourhood-gt1-clause-may : goal.returns-then-in_neighbourhood-gt1-clause-may
returns-then-in_neighbourhood-gt1-clause-may c _ =
    may_from_many c.args.world.now.tables c.args.world.now.here c.args.p.0 c.args.s.0
    c.args.neighbourhood c.in_neighbourhood.result c.requires.service c.requires.neighbourhood
    (c.in_neighbourhood.ensures.count _ _ _ c.cells.ensures.stand) c.if-in_neighbourhood-gt1.true

pub is_other_there-requires : goal.is_other_there-requires
unfolding service_at
is_other_there-requires c =
    let i = c.args.world.now.tables in
    let s_in : c.args.s.0 < service_count i =
    omega (arith, c.requires.service, c.topology.ensures.sound.well_formed.services c.args.p.0 c.requires.process) in
    (dependant_at i c.args.s.0 c.loop-d.d-index c.dependants-dependants.result.now
    (dependants_there i c.topology.result.now.dependants c.args.s.0 c.dependants-dependants.result.now
    c.topology.ensures.fits.dependants s_in c.dependants-dependants.ensures) c.loop-d-test.true).0

pub returns-then-is_other_there-clause-may_not : goal.returns-then-is_other_there-clause-may_not
unfolding service_at
returns-then-is_other_there-clause-may_not c _ may =
    let w = c.args.world.now in
    let i = w.tables in
    let s_in : c.args.s.0 < service_count i =
    omega (arith, c.requires.service, c.topology.ensures.sound.well_formed.services c.args.p.0 c.requires.process) in
    may_not_from i w.here c.args.p.0 c.args.s.0 c.args.neighbourhood c.loop-d.d-index
    c.in_neighbourhood.result c.dependants-dependants.result.now c.requires.service c.requires.neighbourhood
    (dependants_there i c.topology.result.now.dependants c.args.s.0 c.dependants-dependants.result.now
    c.topology.ensures.fits.dependants s_in c.dependants-dependants.ensures)
    (c.in_neighbourhood.ensures.count _ _ _ c.cells.ensures.stand) c.if-in_neighbourhood-gt1.false
    c.loop-d-test.true (c.if-is_other_there.ensures.other refl) (c.if-is_other_there.ensures.there refl) may

pub loop-d-preserved : goal.loop-d-preserved
unfolding service_at
loop-d-preserved c =
    let P : ℕ → Type 0 = λ k. service_at c.dependants-dependants.result.now k ≢ c.args.s.0 →
    in_neighbourhood c.args.world.now.tables c.args.world.now.here
    (service_at c.dependants-dependants.result.now k) c.args.neighbourhood ≡ 0 in
    below_more P c.loop-d.d-index c.loop-d.invariant (c.if-is_other_there.ensures.none refl)

pub returns-clause-may : goal.returns-clause-may
returns-clause-may c _ =
    let w = c.args.world.now in
    let i = w.tables in
    let s_in : c.args.s.0 < service_count i =
    omega (arith, c.requires.service, c.topology.ensures.sound.well_formed.services c.args.p.0 c.requires.process) in
    may_from_none i w.here c.args.p.0 c.args.s.0 c.args.neighbourhood
    c.dependants-dependants.result.now c.requires.service c.requires.neighbourhood
    (dependants_there i c.topology.result.now.dependants c.args.s.0 c.dependants-dependants.result.now
    c.topology.ensures.fits.dependants s_in c.dependants-dependants.ensures)
    (λ k within. c.loop-d.invariant k (omega (arith, within, c.loop-d-test.false)))
