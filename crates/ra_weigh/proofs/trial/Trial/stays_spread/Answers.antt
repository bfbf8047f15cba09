-- Each way in which it is plain.
use Rattle.std.proofs.Common.{ap, sym, ◌∙◌, arith}
use Rattle.std.proofs.lemmas.Bool.{eqb-true}
use Rattle.ra_model.specs.Numbers.{location_of}
use Rattle.ra_weigh.specs.Trials.{tables_of, initial_of, steps_of, before_of}
use Rattle.ra_weigh.proofs.StepLemmas.{step_process, step_from, step_to, from_read, to_read, service_there, service_read}
use Rattle.ra_weigh.proofs.SpreadLemmas.{spread_to_spare, spread_there, spread_by_others, spread_by_coming}
use Rattle.ra_weigh.proofs.trial.Trial.stays_spread.Goals as goal

pub spread_min-requires : goal.spread_min-requires
spread_min-requires c = grind (arith, service_there, step_process)

pub locations-requires : goal.locations-requires
locations-requires c = grind (arith, service_there, step_process)

pub returns-then-spread_min-locations : goal.returns-then-spread_min-locations
returns-then-spread_min-locations c = λ told.
    let t = c.args.self.now in
    spread_to_spare _ c.spread_min.result c.locations.result
    t.inst.now.small t.moves c.requires.named
    (service_read (tables_of t) (steps_of t) c.args.j c.requires.step c.requires.service)
    (c.moves_alone.ensures.0 c.if-not-moves_alone.false) c.spread_min.ensures
    (c.locations.ensures.count (tables_of t) (initial_of t) (before_of t) t.cells_stand) c.if-spread_min-locations.true

pub location-left-requires : goal.location-left-requires
location-left-requires c = grind (arith, step_from)

pub location-come-requires : goal.location-come-requires
location-come-requires c = grind (arith, step_to)

pub in_location-requires : goal.in_location-requires
in_location-requires c = grind (arith, service_there, step_process)

pub in_location-requires-2 : goal.in_location-requires-2
in_location-requires-2 c = grind (arith, service_there, step_process)

pub returns-then-left-come : goal.returns-then-left-come
returns-then-left-come c = λ told.
    let t = c.args.self.now in
    spread_there _ _ c.location-left.result c.location-come.result t.moves t.fine
    (service_there t.inst.now.well_formed (step_process t.moves c.requires.step
    c.requires.named) c.requires.service)
    c.requires.named
    (service_read (tables_of t) (steps_of t) c.args.j c.requires.step c.requires.service)
    (c.moves_alone.ensures.0 c.if-not-moves_alone.false)
    (c.location-left.ensures ∙ ap (location_of (tables_of t)) (sym (from_read (steps_of t) c.args.j
    c.requires.step)))
    (c.location-come.ensures ∙ ap (location_of (tables_of t)) (sym (to_read (steps_of t) c.args.j
    c.requires.step)))
    c.if-left-come.true

pub returns-then-in_location-gt1 : goal.returns-then-in_location-gt1
returns-then-in_location-gt1 c = λ told.
    let t = c.args.self.now in
    spread_by_others _ _ c.location-left.result c.in_location.result t.moves t.fine
    (service_there t.inst.now.well_formed (step_process t.moves c.requires.step
    c.requires.named) c.requires.service)
    c.requires.named
    (service_read (tables_of t) (steps_of t) c.args.j c.requires.step c.requires.service)
    (c.moves_alone.ensures.0 c.if-not-moves_alone.false)
    (c.location-left.ensures ∙ ap (location_of (tables_of t)) (sym (from_read (steps_of t) c.args.j
    c.requires.step)))
    (c.in_location.ensures.count (tables_of t) (initial_of t) (before_of t) t.cells_stand) c.if-in_location-gt1.true

pub returns : goal.returns
returns c = λ told.
    let t = c.args.self.now in
    spread_by_coming _ _ c.location-left.result c.location-come.result c.in_location-2.result t.inst.now.small t.moves
    t.fine
    (service_there t.inst.now.well_formed (step_process t.moves c.requires.step
    c.requires.named) c.requires.service)
    c.requires.named
    (service_read (tables_of t) (steps_of t) c.args.j c.requires.step c.requires.service)
    (c.moves_alone.ensures.0 c.if-not-moves_alone.false)
    (c.location-left.ensures ∙ ap (location_of (tables_of t)) (sym (from_read (steps_of t) c.args.j
    c.requires.step)))
    (c.location-come.ensures ∙ ap (location_of (tables_of t)) (sym (to_read (steps_of t) c.args.j
    c.requires.step)))
    c.if-left-come.false (c.in_location-2.ensures.count (tables_of t) (initial_of t) (before_of t) t.cells_stand)
    (eqb-true c.in_location-2.result 0 told)
