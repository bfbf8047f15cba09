-- The way from its initial machine.
use Rattle.std.proofs.Common.{◌∙◌, ◌*◌, ap₂}
use Rattle.ra_model.specs.Numbers.{way_cost_of}
use Rattle.ra_edit.proofs.SoundLaws.{initial_read, current_read}
use Rattle.ra_edit.proofs.VerdictLaws.{here_at, home_at}
use Rattle.ra_edit.proofs.costs.way_share.Goals as goal

pub machine_of-requires : goal.machine_of-requires
machine_of-requires c = initial_read c.requires.sound c.requires.process

pub machine_of-requires-2 : goal.machine_of-requires-2
machine_of-requires-2 c = current_read c.requires.sound c.requires.process

pub move_cost-way-requires : goal.move_cost-way-requires
move_cost-way-requires c = record {
  from = home_at c.requires.sound c.requires.process c.machine_of.ensures;
  to = here_at c.requires.sound c.requires.process c.machine_of-2.ensures;
}

pub returns : goal.returns
returns c = ap₂ (λ x y. x * y) (c.from.ensures ∙ c.machine_weight.ensures) (c.from-2.ensures ∙ c.move_cost-way.ensures
    ∙ ap₂ (way_cost_of c.args.inst.now.tables) c.machine_of.ensures c.machine_of-2.ensures)
