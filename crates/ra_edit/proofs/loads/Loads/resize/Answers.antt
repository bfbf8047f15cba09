-- One process less, and the same one more, which requires something else.
use Rattle.std.proofs.Common.{◌<◌, slice_index}
use Rattle.ra_model.specs.Numbers.{machine_count}
use Rattle.ra_edit.specs.Editing.{retired}
use Rattle.ra_edit.specs.Keeping.{drafted}
use Rattle.ra_edit.proofs.SoundLaws.{initial_read, current_read}
use Rattle.ra_edit.proofs.LoadLaws.{loads_more, used_below_less, between_below_less, row_there}
use Rattle.ra_edit.proofs.VerdictLaws.{has_gone, here_at, home_at}
use Rattle.ra_edit.proofs.loads.Loads.resize.Goals as goal

pub machine_of-home-requires : goal.machine_of-home-requires
machine_of-home-requires c = initial_read c.requires.sound c.requires.process

pub machine_of-here-requires : goal.machine_of-here-requires
machine_of-here-requires c = current_read c.requires.sound c.requires.process

pub come-requires : goal.come-requires
unfolding retired
come-requires c =
    let i = c.args.inst.now.tables in
    let gone = has_gone c.args.p.0 c.requires.sound c.requires.process in
    let are = c.retire.ensures (retired (drafted i c.args.lists.now) c.args.p.0) gone in
    let well = c.requires.sound.well_formed in
    let home : c.machine_of-home.result.0 < machine_count i =
    home_at c.requires.sound c.requires.process c.machine_of-home.ensures in
    let here : c.machine_of-here.result.0 < machine_count i =
    here_at c.requires.sound c.requires.process c.machine_of-here.ensures in
    rw c.resources.ensures (record {
      width = c.requires.asked;
      used = row_there (machine_count i) _ _ are.used_grid here;
      home = row_there (machine_count i) _ _ are.between_grid home;
      here = row_there (machine_count i) _ _ are.between_grid here;
      used_below = used_below_less are gone.fewer well c.small.ensures;
      between_below = between_below_less are gone.fewer well c.small.ensures;
    })

pub returns : goal.returns
unfolding retired
returns c = λ e other asks.
    loads_more c.machine_of-here.result.0 (slice_index c.args.asked.now)
    (c.retire.ensures (retired (drafted c.args.inst.now.tables c.args.lists.now) c.args.p.0)
    (has_gone c.args.p.0 c.requires.sound c.requires.process)) other.after
    (cc (c.machine_of-home.ensures, other.initial))
    (cc (c.machine_of-here.ensures, other.current))
    (λ r w. asks.each r (rw (← other.after.origin) at w))
    (rw c.resources.ensures at c.come.ensures)
