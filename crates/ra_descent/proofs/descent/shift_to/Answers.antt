-- The one step of the move.
use Rattle.std.proofs.Common.{◌≡◌, ◌∙◌, ap, arith}
use Rattle.ra_moves.specs.MoveSteps.{MoveSteps}
use Rattle.ra_moves.specs.Replacing.{after_move}
use Rattle.ra_shift.specs.Arriving.{steps_to}
use Rattle.ra_descent.proofs.ShiftLemmas.{steps_are, shift_stands, shift_reaches}
use Rattle.ra_descent.proofs.descent.shift_to.Goals as goal

pub apply-requires-clause-at_from : goal.apply-requires-clause-at_from
apply-requires-clause-at_from g c =
    let st = c.args.world.now in
    let from = rw c.assignment.ensures.value at c.machine_of-from.ensures in
    let is : c.shift-mv.result.steps ≡ steps_to st c.args.process.0 c.args.to.0 =
    ap (λ (v : MoveSteps). v.steps) c.shift-mv.ensures ∙ steps_are st c.args.process c.machine_of-from.result c.args.to from in
    let there = c.assignment.ensures.sound.fits.one_each in
    rw is (shift_stands st c.args.process.0 c.args.to.0 (omega (arith, there, c.requires.process)))

pub apply-requires-clause-to : goal.apply-requires-clause-to
apply-requires-clause-to g c =
    let st = c.args.world.now in
    let from = rw c.assignment.ensures.value at c.machine_of-from.ensures in
    let is : c.shift-mv.result.steps ≡ steps_to st c.args.process.0 c.args.to.0 =
    ap (λ (v : MoveSteps). v.steps) c.shift-mv.ensures ∙ steps_are st c.args.process c.machine_of-from.result c.args.to from in
    rw is (shift_reaches st c.args.process.0 c.args.to.0 c.requires.machine)

pub apply-requires-clause-unbroken : goal.apply-requires-clause-unbroken
apply-requires-clause-unbroken g c =
    let st = c.args.world.now in
    let from = rw c.assignment.ensures.value at c.machine_of-from.ensures in
    let is : c.shift-mv.result.steps ≡ steps_to st c.args.process.0 c.args.to.0 =
    ap (λ (v : MoveSteps). v.steps) c.shift-mv.ensures ∙ steps_are st c.args.process c.machine_of-from.result c.args.to from in
    rw is c.requires.unbroken

pub returns : goal.returns
returns g c =
    let st = c.args.world.now in
    let from = rw c.assignment.ensures.value at c.machine_of-from.ensures in
    let is : c.shift-mv.result.steps ≡ steps_to st c.args.process.0 c.args.to.0 =
    ap (λ (v : MoveSteps). v.steps) c.shift-mv.ensures ∙ steps_are st c.args.process c.machine_of-from.result c.args.to from in
    c.apply.ensures.moved ∙ ap (after_move st) is
