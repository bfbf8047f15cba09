-- A service that is in more locations than it wants can't be left in too few by as many steps.
use Rattle.std.proofs.Common.{refl, arith}
use Rattle.ra_model.specs.Services.{locations_of}
use Rattle.ra_weigh.specs.Trials.{tables_of, initial_of, before_of, after_of}
use Rattle.ra_weigh.proofs.LocationLemmas.{left_few}
use Rattle.ra_weigh.proofs.TestLemmas.{spread_enough}
use Rattle.ra_weigh.proofs.trial.Trial.spread_test.Goals as goal

pub returns-then-wants-saturating_sub : goal.returns-then-wants-saturating_sub
returns-then-wants-saturating_sub c = spread_enough _ _ c.args.s.0
    (locations_of (tables_of c.args.self.now) (after_of c.args.self.now) c.args.s.0) c.spread_min-wants.result refl
    c.spread_min-wants.ensures
    (omega (
      arith,
      c.if-wants-saturating_sub.true,
      c.saturating_sub.ensures,
      c.steps.ensures.value,
      left_few _ _ _ c.args.s.0
          c.args.self.now.inst.now.small c.args.self.now.moves,
      c.locations-before.ensures.count (tables_of c.args.self.now) (initial_of c.args.self.now)
          (before_of c.args.self.now) c.args.self.now.cells_stand,
    ))
