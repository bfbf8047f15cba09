-- A process that has gone: what it touched, or what is left of the cost.
use Rattle.std.proofs.Common.{◌∙◌, sym, ap}
use Rattle.ra_model.specs.Numbers.{neighbourhood_of}
use Rattle.ra_edit.proofs.SoundLaws.{current_read}
use Rattle.ra_edit.proofs.VerdictLaws.{gone_broken, here_at, service_at}
use Rattle.ra_edit.proofs.verdicts.judge_retired.Goals as goal

pub machine_of-here-requires : goal.machine_of-here-requires
machine_of-here-requires c = current_read c.requires.held.kept.sound c.requires.process

pub retired_breaks-requires : goal.retired_breaks-requires
retired_breaks-requires c = record {
  sound = c.requires.held.kept.sound;
  members = c.requires.held.members_are;
  topology = c.requires.held.topology_is;
  service = service_at c.requires.held.kept.sound c.requires.process c.service_of-s.ensures;
  process = c.requires.process;
  machine = here_at c.requires.held.kept.sound c.requires.process c.machine_of-here.ensures;
  mine = c.service_of-s.ensures;
  here = c.machine_of-here.ensures;
}

pub returns-in-Some : goal.returns-in-Some
returns-in-Some c = λ e gone. cc (
  gone_broken _ c.requires.held.kept gone c.service_of-s.ensures (ap
      (neighbourhood_of c.args.kept.now.inst.now.tables) c.machine_of-here.ensures),
  c.retired_breaks.ensures e gone,
  c.in-Some.is,
)

pub returns : goal.returns
returns c = λ e gone. (
  gone_broken _
      c.requires.held.kept gone c.service_of-s.ensures
      (ap (neighbourhood_of c.args.kept.now.inst.now.tables) c.machine_of-here.ensures)
      ∙ sym (c.retired_breaks.ensures e gone)
      ∙ c.in_default.is,
  c.in_ok-parts.ensures e gone,
)
