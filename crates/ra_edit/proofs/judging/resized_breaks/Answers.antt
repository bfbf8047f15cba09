-- The machines in the order of their numbers.
use Rattle.std.proofs.Common.{◌∙◌, sym, arith}
use Rattle.ra_edit.specs.Touched.{resized_breaks}
use Rattle.ra_edit.proofs.TestLaws.{found_first, resized_up, resized_down}
use Rattle.ra_edit.proofs.judging.resized_breaks.Goals as goal

pub returns-in-Some : goal.returns-in-Some
unfolding resized_breaks
returns-in-Some c = λ e same used at_home at_here.
    found_first _ c.in-Some.cause (sym (c.row_capacity.ensures e same used) ∙ c.in-Some.is)

pub returns-then-home-here : goal.returns-then-home-here
returns-then-home-here c = λ e same used at_home at_here. resized_up e c.args.home.0 c.args.here.0
    (sym (c.row_capacity.ensures e same used) ∙ c.in_default.is) (omega (arith, c.if-home-here.true))
    (c.two_transients.ensures e same at_home at_here)

pub returns-else-home-here : goal.returns-else-home-here
returns-else-home-here c = λ e same used at_home at_here. resized_down e c.args.home.0 c.args.here.0
    (sym (c.row_capacity.ensures e same used) ∙ c.in_default.is) (omega (arith, c.if-home-here.false))
    (c.two_transients-else-home-here.ensures e same at_here at_home)
