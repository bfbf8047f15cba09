-- What is left of each number is small, and what is added to it is the other amount.
use Rattle.std.proofs.Common.{◌∙◌}
use Rattle.ra_edit.proofs.rows.row_changed.Goals as goal

pub row_without-requires-clause-enough : goal.row_without-requires-clause-enough
row_without-requires-clause-enough c = λ r w. (c.requires.each r w).0

pub returns-clause-one_each : goal.returns-clause-one_each
returns-clause-one_each c = rw c.as_slice.ensures at c.in_ok-row_with.ensures.one_each ∙ c.in_ok-rests.ensures.one_each
