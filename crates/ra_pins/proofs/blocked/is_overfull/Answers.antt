-- One that is too little is found, or none is.
use Rattle.std.proofs.Common.{◌∙◌, sym, arith}
use Rattle.ra_model.specs.Numbers.{resource_count}
use Rattle.ra_pins.proofs.RoundLemmas.{some_yes}
use Rattle.ra_pins.proofs.blocked.is_overfull.Goals as goal

pub returns-then-exceeds : goal.returns-then-exceeds
returns-then-exceeds g c =
    sym (some_yes (resource_count c.args.inst.now.tables) c.loop-r.r
    _ (omega arith)
    (sym c.exceeds.ensures ∙ c.if-exceeds.true))
