-- The moved count of the service with the process away.
use Rattle.std.proofs.Common.{◌∙◌, ◌+◌, ◌-◌, ap, ap₂, refl, sym, arith}
use Rattle.ra_cells.specs.Marks.{away}
use Rattle.ra_shift.specs.Filter.{moved_away, service_away}
use Rattle.ra_shift.proofs.FilterLaws.{away_mine, away_other, moved_away_few}
use Rattle.ra_shift.proofs.filter.service_away.Goals as goal
use Rattle.ra_model.specs.Situations.{moved_at}

pub service_with-requires-clause-few : goal.service_with-requires-clause-few
service_with-requires-clause-few c =
    let w = c.args.world.now in
    let after = away_mine w c.args.p.0 (c.moved.result + 1 - c.is_away.result) c.args.s.0
    c.requires.service
    (ap₂ (λ x y. x + 1 - y) (c.moved.ensures.count w.tables w.start w.here c.cells.ensures.stand
    ∙ ap (moved_at w) c.requires.service)
    (c.is_away.ensures.value ∙ ap₂ away c.requires.home c.requires.from)) in
    omega (arith, after, moved_away_few w c.args.p.0 c.args.s.0 c.cells.ensures.sound.fits c.requires.process)

pub returns-clause-value : goal.returns-clause-value
unfolding service_away
returns-clause-value c =
    let w = c.args.world.now in
    let after = away_mine w c.args.p.0 (c.moved.result + 1 - c.is_away.result) c.args.s.0
    c.requires.service
    (ap₂ (λ x y. x + 1 - y) (c.moved.ensures.count w.tables w.start w.here c.cells.ensures.stand
    ∙ ap (moved_at w) c.requires.service)
    (c.is_away.ensures.value ∙ ap₂ away c.requires.home c.requires.from)) in
    c.service_with.ensures.value (moved_away w c.args.p.0)
    (λ k within apart. away_other w c.args.p.0 (moved_at w k) k
    (λ same. apart (same ∙ sym c.requires.service)) refl) after
