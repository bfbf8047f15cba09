-- What is found first is what the definition finds first.
use Rattle.std.proofs.Common.{◌∙◌, sym}
use Rattle.ra_edit.proofs.TestLaws.{found_first, found_later}
use Rattle.ra_edit.proofs.judging.two_transients.Goals as goal

pub returns-in-Some : goal.returns-in-Some
returns-in-Some c =
    λ e same first second. found_first _ c.in-Some.cause (sym (c.row_transient.ensures e same first) ∙ c.in-Some.is)

pub returns : goal.returns
returns c = λ e same first second. found_later (sym (c.row_transient.ensures e same first) ∙ c.in_default.is)
    (c.row_transient-2.ensures e same second)
