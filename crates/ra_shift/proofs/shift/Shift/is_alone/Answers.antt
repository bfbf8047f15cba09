-- What the cells count.
use Rattle.std.proofs.Common.{◌∙◌, sym, ap}
use Rattle.std.proofs.lemmas.Bool.{eqb-true, eq-eqb}
use Rattle.ra_model.specs.Services.{on_machine}
use Rattle.ra_shift.proofs.shift.Shift.is_alone.Goals as goal

pub returns : goal.returns
returns c =
    let world = c.args.self.now.world.now in
    let counted = c.on_machine.ensures.count _ _ _ c.cells.ensures.stand
    ∙ ap (λ s. on_machine world.tables world.here s c.args.to.0)
    c.args.self.now.service_is in
    (λ test. sym counted ∙ eqb-true c.on_machine.result 0 test, λ alone. eq-eqb c.on_machine.result 0 (counted ∙ alone))
