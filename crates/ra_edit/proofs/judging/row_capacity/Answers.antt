-- One resource after another.
use Rattle.std.proofs.lemmas.Grind.{common_steps}
use Rattle.std.proofs.Common.{◌<◌, ◌∙◌, sym, ap, arith}
use Rattle.ra_base.proofs.Searches.{first_none, first_more_none, first_found}
use Rattle.ra_model.specs.Numbers.{resource_count}
use Rattle.ra_model.specs.Broken.{row_capacity}
use Rattle.ra_edit.specs.Drafts.{instance_of}
use Rattle.ra_edit.proofs.judging.row_capacity.Goals as goal
use Rattle.ra_edit.proofs.BrokenLaws.{resources_with}

pub loop-r-init : goal.loop-r-init
loop-r-init c = λ e same has. first_none _

pub loop-r-preserved : goal.loop-r-preserved
loop-r-preserved c = λ e same has. grind (arith, common_steps, first_more_none)

pub returns-in-Some : goal.returns-in-Some
unfolding row_capacity
returns-in-Some c = λ e same has.
    let column : c.loop-r.r < resource_count e.origin =
    omega (arith, c.loop-r-test.true, c.resources-r-end.ensures, ap resource_count same) in
    let within : c.loop-r.r < resource_count (instance_of e) = omega (arith, column, resources_with e) in
    sym (first_found c.loop-r.r (resource_count (instance_of e)) _ c.in-Some.cause within
    (c.loop-r.invariant e same has) (sym (c.capacity_test.ensures e same (has.each c.loop-r.r column))
    ∙ c.in-Some.is))

pub returns : goal.returns
unfolding row_capacity
returns c = λ e same has. grind (arith, common_steps, resources_with)
