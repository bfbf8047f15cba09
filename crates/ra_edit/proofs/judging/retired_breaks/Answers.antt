-- What is found first is what the definition finds first.
use Rattle.std.proofs.Common.{◌∙◌, sym}
use Rattle.ra_edit.specs.Touched.{retired_breaks}
use Rattle.ra_edit.proofs.TestLaws.{found_first, found_later}
use Rattle.ra_edit.proofs.judging.retired_breaks.Goals as goal

pub returns-in-Some : goal.returns-in-Some
unfolding retired_breaks
returns-in-Some c = λ e gone. found_first _ c.in-Some.cause (sym (c.spread_test.ensures e gone) ∙ c.in-Some.is)

pub returns : goal.returns
unfolding retired_breaks
returns c = λ e gone. found_later (sym (c.spread_test.ensures e gone) ∙ c.in_default.is) (c.first_left.ensures e gone)
