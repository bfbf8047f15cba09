-- One step after another.
use Rattle.std.proofs.Common.{◌≡◌, length, arith}
use Rattle.ra_weigh.specs.Flowing.{MoveAlone}
use Rattle.ra_weigh.specs.Trials.{tables_of, steps_of}
use Rattle.ra_weigh.proofs.HoldLemmas.{told_true, told_false}
use Rattle.ra_weigh.proofs.SpreadLemmas.{alone_none, alone_more}
use Rattle.ra_weigh.proofs.trial.Trial.moves_alone.Goals as goal

pub loop-k-init : goal.loop-k-init
loop-k-init c = alone_none _ _ c.args.j c.args.s.0

pub returns-then-is_other : goal.returns-then-is_other
returns-then-is_other c = told_false (λ alone. grind arith)

pub loop-k-preserved : goal.loop-k-preserved
loop-k-preserved c = grind (arith, alone_more)

pub returns : goal.returns
returns c = told_true (grind arith)
