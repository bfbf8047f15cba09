use Rattle.std.proofs.Common.{rules, arith}
use Rattle.ra_turn.proofs.Turns.{draws}
use Rattle.ra_turn.proofs.steps.try_draw.Goals as goal

pub compare_exchange-requires : goal.compare_exchange-requires
compare_exchange-requires g c = let key = c.args.desk.now.key in let story = g.V.Story in (
  search rules,
  omega arith,
  draws story.opening story.notes story.author story.touches key.passes key.turns
      key.guards (story.opening key.start.value) _ _ c.args.seat.now.me c.args.ticket c.requires.idle.0
      c.requires.idle.1,
)
