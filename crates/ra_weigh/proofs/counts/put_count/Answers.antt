use Rattle.std.proofs.Common.{sym, ◌∙◌, arith}
use Rattle.ra_weigh.proofs.MovedNext.{counts_again, filled_again, filled_more, filled_few, counts_more}
use Rattle.ra_weigh.proofs.counts.put_count.Goals as goal

pub returns-then-is_named_before-clause-filled : goal.returns-then-is_named_before-clause-filled
returns-then-is_named_before-clause-filled c = grind (arith, filled_again)

pub returns-then-is_named_before-clause-counts : goal.returns-then-is_named_before-clause-counts
returns-then-is_named_before-clause-counts c = grind (arith, counts_again)

pub offset_bounds-counts-filled : goal.offset_bounds-counts-filled
offset_bounds-counts-filled c = grind (arith, filled_few)

pub bounds-counts-filled : goal.bounds-counts-filled
bounds-counts-filled c = filled_few _ _ _ _ c.requires.filled c.requires.step c.requires.moves.few

pub overflow_add-result : goal.overflow_add-result
overflow_add-result c = grind (arith, filled_few)

pub returns-clause-filled : goal.returns-clause-filled
returns-clause-filled c = grind (arith, filled_more)

pub returns-clause-counts : goal.returns-clause-counts
returns-clause-counts c = grind (arith, counts_more, filled_few)
