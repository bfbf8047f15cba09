-- The number of its service has grown by one if the process has moved.
use Rattle.std.proofs.Common.{◌∙◌, sym, ◌+◌, ◌<◌, length, arith}
use Rattle.std.proofs.lemmas.Bool.{not-true, not-false}
use Rattle.std.proofs.lemmas.List.{get_or_read}
use Rattle.ra_check.proofs.MovedLaws.{adds_moved_one, adds_moved_stays}
use Rattle.ra_check.proofs.moved.count_process.Goals as goal

pub returns-then-ne-clause-counted : goal.returns-then-ne-clause-counted
returns-then-ne-clause-counted c =
    let counts = c.args.counts.now.items in
    let place = c.service_of-place.result.0 in
    let within : place < length counts =
    omega (arith, c.service_of-place.ensures, c.args.inst.now.well_formed.services c.args.p.0 c.requires.process) in
    adds_moved_one c.args.inst.now.tables c.args.a0.now.items c.args.a.now.items c.args.p.0 place
    (c.get-count.result + 1) counts
    c.set.new.self.items (rw (c.machine_of.ensures, c.machine_of-2.ensures) at (not-true _ (sym c.ne.ensures
    ∙ c.if-ne.true))) c.service_of-place.ensures within
    (cc (get_or_read counts place c.get-count.result within c.get-count.ensures 0)) c.set.ensures.items

pub returns-else-ne-clause-counted : goal.returns-else-ne-clause-counted
returns-else-ne-clause-counted c =
    adds_moved_stays c.args.inst.now.tables c.args.a0.now.items c.args.a.now.items c.args.p.0 c.args.counts.now.items
    (rw (c.machine_of.ensures, c.machine_of-2.ensures) at (not-false _ (sym c.ne.ensures ∙ c.if-ne.false)))
