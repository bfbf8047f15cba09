use Rattle.std.proofs.Common.{rules}
use Rattle.std.specs.Option.{option_copied}
use Rattle.ra_report.proofs.GatheringLemmas.{writes}
use Rattle.ra_report.proofs.TryTexts.{adds_repair}
use Rattle.ra_report.proofs.repair.write_repair.Goals as goal

pub returns : goal.returns
returns g c =
    let listed = rw (c.as_slice.ensures, c.assignment.ensures.value) at c.add_assignment.ensures in
    let added = adds_repair g.O.Sink.taken g.O.Sink.faults c.args.repair.now (option_copied c.args.broken)
    c.make-text.result c.add_state.new.text c.add_assignment.new.text c.add_tries.new.text c.requires
    c.add_state.ensures listed c.add_tries.ensures in
    writes g.O.Sink.taken g.O.Sink.faults c.make-text.result c.add_tries.new.text c.finish.new.self
    c.make-text.ensures.same (search rules) c.make-text.ensures.sound c.make-text.ensures.none added
    c.finish.ensures.adds c.finish.ensures.none c.finish.ensures.whole c.finish.ensures.part
