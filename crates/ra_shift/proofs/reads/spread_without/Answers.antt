-- The locations of the service, and whether it is alone in that of the process.
use Rattle.ra_shift.proofs.ReadLaws.{without_last, without_more}
use Rattle.ra_shift.proofs.reads.spread_without.Goals as goal

pub overflow_sub-result : goal.overflow_sub-result
overflow_sub-result c =
    (without_last c.args.world.now.tables c.args.world.now.here c.args.p.0 c.args.s.0
    c.args.location c.locations-all.result c.in_location.result c.cells-cells.ensures.sound.small c.requires.process
    c.requires.service c.requires.location (c.locations-all.ensures.count _ _ _ c.cells-cells.ensures.stand)
    (c.in_location.ensures.count _ _ _ c.cells-cells.ensures.stand) c.if-in_location-eq1.true).0

pub returns-then-in_location-eq1-clause-value : goal.returns-then-in_location-eq1-clause-value
returns-then-in_location-eq1-clause-value c =
    (without_last c.args.world.now.tables c.args.world.now.here c.args.p.0 c.args.s.0
    c.args.location c.locations-all.result c.in_location.result c.cells-cells.ensures.sound.small c.requires.process
    c.requires.service c.requires.location (c.locations-all.ensures.count _ _ _ c.cells-cells.ensures.stand)
    (c.in_location.ensures.count _ _ _ c.cells-cells.ensures.stand) c.if-in_location-eq1.true).1

pub returns-else-in_location-eq1-clause-value : goal.returns-else-in_location-eq1-clause-value
returns-else-in_location-eq1-clause-value c =
    without_more c.args.world.now.tables c.args.world.now.here c.args.p.0 c.args.s.0
    c.args.location c.locations-all.result c.in_location.result c.requires.service c.requires.location
    (c.locations-all.ensures.count _ _ _ c.cells-cells.ensures.stand)
    (c.in_location.ensures.count _ _ _ c.cells-cells.ensures.stand) c.if-in_location-eq1.false
