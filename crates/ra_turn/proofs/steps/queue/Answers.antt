use Rattle.std.proofs.Common.{rules, arith}
use Rattle.ra_turn.proofs.Turns.{queues}
use Rattle.ra_turn.proofs.steps.queue.Goals as goal

pub fetch_add-requires : goal.fetch_add-requires
fetch_add-requires g c = let key = c.args.desk.now.key in let story = g.V.Story in (
  search rules,
  omega arith,
  queues story.opening story.notes story.author story.touches key.passes key.turns
      key.guards (story.opening key.start.value) _ _ c.args.seat.now.me c.requires.table.1.2 c.requires.idle.0
      c.requires.idle.1,
)
