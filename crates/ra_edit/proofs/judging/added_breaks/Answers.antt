-- What is found first is what the definition finds first.
use Rattle.std.proofs.Common.{arith}
use Rattle.std.proofs.lemmas.Grind.{common_steps}
use Rattle.std.proofs.Common.{◌∙◌, sym}
use Rattle.ra_edit.specs.Touched.{added_breaks}
use Rattle.ra_edit.proofs.TestLaws.{found_first, found_later}
use Rattle.ra_edit.proofs.judging.added_breaks.Goals as goal

pub returns-in-Some : goal.returns-in-Some
unfolding added_breaks
returns-in-Some c = λ d e origin has come used between.
    found_first _ c.in-Some.cause (sym (c.row_capacity.ensures e (come.more.origin ∙ origin) used) ∙ c.in-Some.is)

pub returns-in-Some-row_transient : goal.returns-in-Some-row_transient
unfolding added_breaks
returns-in-Some-row_transient c = λ d e origin has come used between.
    found_later (sym (c.row_capacity.ensures e (come.more.origin ∙ origin) used) ∙ c.in_default.is)
    (found_first _ c.in-Some-row_transient.cause (sym (c.row_transient.ensures e (come.more.origin ∙ origin) between)
    ∙ c.in-Some-row_transient.is))

pub returns-in-Some-conflict_test : goal.returns-in-Some-conflict_test
unfolding added_breaks
returns-in-Some-conflict_test c = λ d e origin has come used between.
    found_later (sym (c.row_capacity.ensures e (come.more.origin ∙ origin) used) ∙ c.in_default.is)
    (found_later (sym (c.row_transient.ensures e (come.more.origin ∙ origin) between)
    ∙ c.in_default-row_transient.is)
    (found_first _ c.in-Some-conflict_test.cause (sym (c.conflict_test.ensures d e has come)
    ∙ c.in-Some-conflict_test.is)))

pub returns : goal.returns
unfolding added_breaks
returns c = λ d e origin has come used between. grind (arith, common_steps, found_later)
