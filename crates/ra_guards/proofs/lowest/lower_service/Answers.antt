use Rattle.std.proofs.Common.{sym, ◌∙◌}
use Rattle.ra_guards.proofs.OrderLemmas.{service_has}
use Rattle.ra_guards.proofs.LowestLemmas.{service_kept, service_written, service_lowered}
use Rattle.ra_guards.proofs.lowest.lower_service.Goals as goal

pub lower-least-requires : goal.lower-least-requires
lower-least-requires c =
    service_has c.args.inst.now.tables c.args.service c.args.versions.now c.requires.service c.requires.sized

pub returns-then-least-before : goal.returns-then-least-before
returns-then-least-before c = service_kept c.args.inst.now.tables c.args.mv.now.steps _
    c.args.q c.args.service c.machines.result c.args.before c.lower-least.result c.machines.ensures c.requires.service
    c.lower-least.ensures c.if-least-before.true

pub returns-then-moves_service : goal.returns-then-moves_service
returns-then-moves_service c = service_written c.args.inst.now.tables c.args.mv.now.steps
    _ c.args.q c.args.service c.args.before
    (sym c.moves_service.ensures ∙ c.if-moves_service.true)

pub returns-else-moves_service : goal.returns-else-moves_service
returns-else-moves_service c = service_lowered c.args.inst.now.tables c.args.mv.now.steps
    _ c.args.q c.args.service c.machines.result c.args.before c.lower-least.result
    c.machines.ensures c.requires.service c.lower-least.ensures (sym c.moves_service.ensures ∙ c.if-moves_service.false)
