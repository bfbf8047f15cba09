use Rattle.std.proofs.lemmas.Grind.{common_steps}
use Rattle.std.proofs.Common.{arith}
use Rattle.ra_edit.proofs.DraftLaws.{few_at_first}
use Rattle.ra_edit.proofs.ListLaws.{rows_fit}
use Rattle.ra_edit.proofs.lists.Lists.of.Goals as goal

pub make-requires : goal.make-requires
make-requires c = grind (arith, common_steps, few_at_first)

pub make-requires-2 : goal.make-requires-2
make-requires-2 c = grind (arith, common_steps, few_at_first, rows_fit)

pub make-requires-3 : goal.make-requires-3
make-requires-3 c = grind (arith, common_steps, few_at_first)

pub make-requires-4 : goal.make-requires-4
make-requires-4 c = grind (arith, common_steps, few_at_first)
