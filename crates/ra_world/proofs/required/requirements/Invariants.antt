-- The requirements of the first steps are read.
use Rattle.std.proofs.Common.{◌≡◌, ◌+◌, ◌*◌}
use Rattle.ra_model.specs.Numbers.{resource_count}
use Rattle.ra_world.specs.Required.{AreRequiredRows}
use Rattle.ra_world.proofs.required.requirements.Given as goal

abbrev pub invariant-loop-j : goal.invariant-loop-j
invariant-loop-j g l = record {
  required : AreRequiredRows l.inst.tables l.mv.steps l.j l.required;
  counted : l.steps ≡ l.initial.steps + l.j * resource_count l.inst.tables;
}
