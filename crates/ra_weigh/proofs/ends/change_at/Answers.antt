-- An end whose machine is named before counts nothing.
use Rattle.std.proofs.Common.{◌∙◌, sym, ap, arith}
use Rattle.ra_base.specs.Sums.{is_named}
use Rattle.ra_base.proofs.Named.{fresh_again, fresh_new}
use Rattle.ra_moves.specs.Replacing.{applied}
use Rattle.ra_moves.specs.Values.{end_in}
use Rattle.ra_weigh.specs.PlaceCosts.{row_cost}
use Rattle.ra_weigh.proofs.MoveLemmas.{end_known}
use Rattle.ra_weigh.proofs.ends.change_at.Goals as goal

pub returns-then-is_named_before-clause-added : goal.returns-then-is_named_before-clause-added
returns-then-is_named_before-clause-added c = grind (arith, fresh_again)

pub returns-then-is_named_before-clause-taken : goal.returns-then-is_named_before-clause-taken
returns-then-is_named_before-clause-taken c = grind (arith, fresh_again)

pub returns-clause-added : goal.returns-clause-added
returns-clause-added c = grind (arith, fresh_new)

pub returns-clause-taken : goal.returns-clause-taken
returns-clause-taken c = grind (arith, fresh_new)
