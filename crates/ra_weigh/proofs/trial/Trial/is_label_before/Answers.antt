-- One more end.
use Rattle.std.proofs.Common.{◌≡◌, ◌∙◌, sym, arith}
use Rattle.ra_base.proofs.Named.{is_named_none, is_named_found}
use Rattle.ra_weigh.proofs.StepLemmas.{unnamed_more}
use Rattle.ra_weigh.proofs.trial.Trial.is_label_before.Goals as goal

pub loop-j-init : goal.loop-j-init
loop-j-init c = is_named_none _ c.args.label

pub end_label-requires : goal.end_label-requires
end_label-requires c = omega (arith, c.requires, c.loop-j-test.true)

pub returns-then-end_label-label : goal.returns-then-end_label-label
returns-then-end_label-label c = grind (arith, is_named_found)

pub loop-j-preserved : goal.loop-j-preserved
loop-j-preserved c = grind (arith, unnamed_more)

pub returns : goal.returns
returns c = grind arith
