-- The row of the process is added.
use Rattle.std.proofs.Common.{◌≤◌, ◌<◌, slice_index, arith}
use Rattle.ra_model.specs.Numbers.{machine_count}
use Rattle.ra_edit.specs.Keeping.{drafted}
use Rattle.ra_edit.proofs.SoundLaws.{few_of, initial_read, current_read}
use Rattle.ra_edit.proofs.LoadLaws.{counted_more, used_below, between_below, row_there}
use Rattle.ra_edit.proofs.VerdictLaws.{here_at, home_at}
use Rattle.ra_edit.proofs.loads.Loads.count.Goals as goal

pub machine_of-home-requires : goal.machine_of-home-requires
machine_of-home-requires c = initial_read c.requires.sound c.requires.process

pub machine_of-here-requires : goal.machine_of-here-requires
machine_of-here-requires c = current_read c.requires.sound c.requires.process

pub come-requires : goal.come-requires
come-requires c =
    let i = c.args.inst.now.tables in
    let d = drafted i c.args.lists.now in
    let n : c.args.p.0 ≤ 50000 = omega (arith, (few_of c.requires.sound).rows, c.requires.process) in
    let home : c.machine_of-home.result.0 < machine_count i =
    home_at c.requires.sound c.requires.process c.machine_of-home.ensures in
    let here : c.machine_of-here.result.0 < machine_count i =
    here_at c.requires.sound c.requires.process c.machine_of-here.ensures in
    rw c.resources.ensures (record {
      width = c.requirements_of.ensures.one_each;
      used = row_there (machine_count i) _ _ c.requires.counted.used_grid here;
      home = row_there (machine_count i) _ _ c.requires.counted.between_grid home;
      here = row_there (machine_count i) _ _ c.requires.counted.between_grid here;
      used_below = used_below d c.args.p.0 c.args.self.now n c.small.ensures c.requires.counted;
      between_below = between_below d c.args.p.0 c.args.self.now n c.small.ensures c.requires.counted;
    })

pub returns : goal.returns
returns c =
    counted_more (slice_index c.requirements_of.result.now) c.requires.counted c.machine_of-home.ensures
    c.machine_of-here.ensures c.requirements_of.ensures.each
    (rw c.resources.ensures at c.come.ensures)
