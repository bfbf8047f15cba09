-- One dependency after another.
use Rattle.std.proofs.lemmas.Grind.{common_steps}
use Rattle.std.proofs.Common.{arith}
use Rattle.ra_base.proofs.Searches.{first_none, first_more_none, first_found}
use Rattle.ra_edit.proofs.TestLaws.{dependencies_from, label_from, need_from}
use Rattle.ra_edit.proofs.judging.far_needs.Goals as goal

pub loop-k-init : goal.loop-k-init
loop-k-init c = λ d e origin has come. first_none _

pub loop-k-preserved : goal.loop-k-preserved
loop-k-preserved c = λ d e origin has come. grind (arith, common_steps, first_more_none, need_from)

pub returns-in-Some : goal.returns-in-Some
returns-in-Some c = λ d e origin has come.
    grind (arith, common_steps, dependencies_from, label_from, first_found, need_from)

pub returns : goal.returns
returns c = λ d e origin has come. grind (arith, common_steps, dependencies_from, label_from)
