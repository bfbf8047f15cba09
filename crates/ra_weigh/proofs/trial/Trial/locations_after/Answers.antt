-- The locations of the ends, each once.
use Rattle.std.proofs.Common.{◌≡◌, ◌+◌, length, arith}
use Rattle.ra_moves.specs.Values.{end_count}
use Rattle.ra_weigh.specs.Trials.{tables_of, initial_of, steps_of, before_of}
use Rattle.ra_weigh.proofs.LocationLemmas.{held_none, held_more, located_enough, located}
use Rattle.ra_weigh.proofs.trial.Trial.locations_after.Goals as goal

pub loop-j-init : goal.loop-j-init
loop-j-init c = grind (arith, held_none)

pub held_at-end-requires-clause-end : goal.held_at-end-requires-clause-end
unfolding end_count
held_at-end-requires-clause-end c = omega (arith, c.loop-j-test.true, c.steps-j-end.ensures.value)

pub loop-j-preserved : goal.loop-j-preserved
loop-j-preserved c = held_more _
    _
    _ c.loop-j.j c.loop-j.came
    c.loop-j.went
    c.held_at-end.result.came c.held_at-end.result.went c.loop-j.invariant c.held_at-end.ensures.came
    c.held_at-end.ensures.went c.held_at-end.ensures.came_few c.held_at-end.ensures.went_few

pub overflow_sub-result : goal.overflow_sub-result
unfolding end_count
overflow_sub-result c =
    let all : c.loop-j.j ≡ length (steps_of c.args.self.now) + length (steps_of c.args.self.now) =
    omega (arith, c.loop-j-test.false, c.loop-j.auto.j-end, c.steps-j-end.ensures.value) in
    located_enough _ _ _ c.args.s.0 c.args.self.now.inst.now.small
    c.args.self.now.moves all c.loop-j.invariant
    (c.locations-kept.ensures.count (tables_of c.args.self.now) (initial_of c.args.self.now)
    (before_of c.args.self.now) c.args.self.now.cells_stand)

pub returns : goal.returns
unfolding end_count
returns c =
    let all : c.loop-j.j ≡ length (steps_of c.args.self.now) + length (steps_of c.args.self.now) =
    omega (arith, c.loop-j-test.false, c.loop-j.auto.j-end, c.steps-j-end.ensures.value) in
    located _ _ _ c.args.s.0 c.args.self.now.inst.now.small c.args.self.now.moves all
    c.loop-j.invariant (c.locations-kept.ensures.count (tables_of c.args.self.now) (initial_of c.args.self.now)
    (before_of c.args.self.now) c.args.self.now.cells_stand)
