use Rattle.std.proofs.Common.{◌≡◌, rules, arith, ap, ◌∙◌}
use Rattle.ra_turn.specs.declared.sight.Stage.TheVariants.{Drawn}
use Rattle.ra_turn.proofs.Turns.{looks}
use Rattle.ra_turn.proofs.steps.wait.Goals as goal

pub load-requires : goal.load-requires
load-requires g c = let key = c.args.desk.now.key in let story = g.V.Story in
    let stage : c.loop.seat.me.0.stage ≡ Drawn = ap (λ m. m.0.stage) c.loop.invariant.1 ∙ c.requires.drawn.0 in (
      search rules,
      omega arith,
      looks story.opening story.notes story.author story.touches key.passes key.turns
          key.guards (story.opening key.start.value) _ _ c.loop.seat.me stage,
    )
