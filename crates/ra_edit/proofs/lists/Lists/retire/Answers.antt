use Rattle.std.proofs.Common.{◌≡◌, ◌*◌, ◌<◌, length, arith}
use Rattle.ra_edit.specs.Editing.{process_of}
use Rattle.ra_edit.specs.Keeping.{drafted}
use Rattle.ra_edit.proofs.SoundLaws.{few_of, initial_read, current_read}
use Rattle.ra_edit.proofs.ListLaws.{dropped_is, last_within, last_fits}
use Rattle.ra_edit.proofs.ListsLaws.{retired_is}
use Rattle.ra_edit.proofs.lists.Lists.retire.Goals as goal

pub swap_remove_part-requires : goal.swap_remove_part-requires
swap_remove_part-requires c =
    let size : length c.args.self.now.requirements.items ≡ c.len-last.result * c.resources-width.result =
    cc ((few_of c.requires.sound).table, c.len-last.ensures.value, c.resources-width.ensures) in
    let within : c.args.process < c.len-last.result = omega (arith, c.requires.process, c.len-last.ensures.value) in
    record {
      within = last_within c.resources-width.result c.len-last.result c.args.process _ size within;
      apart = last_fits c.resources-width.result c.len-last.result c.args.process _ size within;
    }

pub swap_remove-requires-2 : goal.swap_remove-requires-2
swap_remove-requires-2 c = initial_read c.requires.sound c.requires.process

pub swap_remove-requires-3 : goal.swap_remove-requires-3
swap_remove-requires-3 c = current_read c.requires.sound c.requires.process

pub returns-clause-lists : goal.returns-clause-lists
returns-clause-lists c =
    let size : length c.args.self.now.requirements.items ≡ c.len-last.result * c.resources-width.result =
    cc ((few_of c.requires.sound).table, c.len-last.ensures.value, c.resources-width.ensures) in
    retired_is (drafted c.args.inst.now.tables c.args.self.now) c.args.process
    (c.swap_remove.ensures.items (process_of (record { 0 = 0 }) 0))
    (dropped_is c.resources-width.result c.len-last.result c.args.process _ _ size
    (omega (arith, c.requires.process, c.len-last.ensures.value)) c.swap_remove_part.ensures.items)
    c.resources-width.ensures c.len-last.ensures.value (c.swap_remove-2.ensures.items (record { 0 = 0 }))
    (c.swap_remove-3.ensures.items (record { 0 = 0 }))
