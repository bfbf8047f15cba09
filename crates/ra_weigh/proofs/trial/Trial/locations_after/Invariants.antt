-- What the locations of the ends so far add and take.
use Rattle.ra_weigh.specs.Marks.{location_holds, end_location}
use Rattle.ra_weigh.specs.Trials.{tables_of, steps_of, before_of, after_of}
use Rattle.ra_weigh.proofs.LocationLemmas.{Held}
use Rattle.ra_weigh.proofs.trial.Trial.locations_after.Given as goal

abbrev pub invariant-loop-j : goal.invariant-loop-j
invariant-loop-j l = Held (end_location (tables_of l.self) (steps_of l.self))
    (location_holds (tables_of l.self) (before_of l.self) l.s.0)
    (location_holds (tables_of l.self) (after_of l.self) l.s.0) l.j
    l.came l.went
