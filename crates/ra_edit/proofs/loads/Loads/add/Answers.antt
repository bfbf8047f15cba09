-- One process more.
use Rattle.std.proofs.Common.{length, slice_index, sym}
use Rattle.ra_model.specs.Numbers.{machine_count}
use Rattle.ra_edit.specs.Keeping.{drafted}
use Rattle.ra_edit.proofs.SoundLaws.{few_of}
use Rattle.ra_edit.proofs.LoadLaws.{loads_more, used_below, between_below, row_there}
use Rattle.ra_edit.proofs.loads.Loads.add.Goals as goal

pub come-requires : goal.come-requires
come-requires c =
    let i = c.args.inst.now.tables in
    let d = drafted i c.args.lists.now in
    let f = few_of c.requires.sound in
    rw c.resources.ensures (record {
      width = c.requires.asked;
      used = row_there (machine_count i) _ _ c.requires.loads.used_grid c.requires.machine;
      home = row_there (machine_count i) _ _ c.requires.loads.between_grid c.requires.machine;
      here = row_there (machine_count i) _ _ c.requires.loads.between_grid c.requires.machine;
      used_below = used_below d (length d.rows) c.args.self.now f.rows c.small.ensures c.requires.loads;
      between_below = between_below d (length d.rows) c.args.self.now f.rows c.small.ensures c.requires.loads;
    })

pub returns : goal.returns
returns c = λ e s come asks.
    loads_more c.args.m.0 (slice_index c.args.asked.now)
    c.requires.loads come.more (sym come.home) (sym come.here)
    (λ r w. asks.each r (rw (← come.more.origin) at w))
    (rw c.resources.ensures at c.come.ensures)
