use Rattle.std.proofs.Common.{◌≡◌, rules, arith, ap, ◌∙◌}
use Rattle.ra_turn.specs.declared.sight.Stage.TheVariants.{Idle}
use Rattle.ra_turn.proofs.Turns.{peeks}
use Rattle.ra_turn.proofs.steps.draw.Goals as goal

pub load-serving-requires : goal.load-serving-requires
load-serving-requires g c = let key = c.args.desk.now.key in let story = g.V.Story in
    let stage : c.loop.seat.me.0.stage ≡ Idle = ap (λ m. m.0.stage) c.loop.invariant.1 ∙ c.requires.idle.0 in (
      search rules,
      omega arith,
      peeks story.opening story.notes story.author story.touches key.passes key.turns
          key.guards (story.opening key.start.value) _ _ c.loop.seat.me c.requires.table.1.2 stage,
    )
