-- One process less.
use Rattle.std.proofs.Common.{◌<◌, slice_index, arith}
use Rattle.ra_model.specs.Numbers.{machine_count}
use Rattle.ra_edit.specs.Keeping.{drafted}
use Rattle.ra_edit.proofs.SoundLaws.{initial_read, current_read}
use Rattle.ra_edit.proofs.LoadLaws.{loads_less, row_there, there_first, there_now, used_enough, between_enough}
use Rattle.ra_edit.proofs.VerdictLaws.{has_gone, here_at, home_at}
use Rattle.ra_edit.proofs.loads.Loads.retire.Goals as goal

pub machine_of-home-requires : goal.machine_of-home-requires
machine_of-home-requires c = initial_read c.requires.sound c.requires.process

pub machine_of-here-requires : goal.machine_of-here-requires
machine_of-here-requires c = current_read c.requires.sound c.requires.process

pub go-requires : goal.go-requires
go-requires c =
    let i = c.args.inst.now.tables in
    let d = drafted i c.args.lists.now in
    let gone = has_gone c.args.p.0 c.requires.sound c.requires.process in
    let home : c.machine_of-home.result.0 < machine_count i =
    home_at c.requires.sound c.requires.process c.machine_of-home.ensures in
    let here : c.machine_of-here.result.0 < machine_count i =
    here_at c.requires.sound c.requires.process c.machine_of-here.ensures in
    rw c.resources.ensures (record {
      width = c.requirements_of.ensures.one_each;
      used = row_there (machine_count i) _ _ c.requires.loads.used_grid here;
      home = row_there (machine_count i) _ _ c.requires.loads.between_grid home;
      here = row_there (machine_count i) _ _ c.requires.loads.between_grid here;
      used_enough = λ r w. rw c.machine_of-here.ensures (omega (
        arith,
        c.requirements_of.ensures.each r w,
        used_enough r c.requires.loads gone.fewer w,
      ));
      home_enough =
          λ r w. omega (
            arith,
            c.requirements_of.ensures.each r w,
            between_enough c.machine_of-home.result.0 r c.requires.loads gone.fewer w
                (there_first d _ c.machine_of-home.ensures),
          );
      here_enough =
          λ r w. omega (
            arith,
            c.requirements_of.ensures.each r w,
            between_enough c.machine_of-here.result.0 r c.requires.loads gone.fewer w
                (there_now d _ c.machine_of-here.ensures),
          );
    })

pub returns : goal.returns
returns c = λ e gone.
    loads_less (slice_index c.requirements_of.result.now) c.requires.loads gone.fewer
    c.machine_of-home.ensures c.machine_of-here.ensures c.requirements_of.ensures.each
    (rw c.resources.ensures at c.go.ensures)
