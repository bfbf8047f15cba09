use Rattle.std.proofs.Common.{◌/◌, rules, arith}
use Rattle.ra_turn.proofs.Grips.{grips}
use Rattle.ra_turn.proofs.guards.grasp.Goals as goal

pub compare_exchange-requires : goal.compare_exchange-requires
compare_exchange-requires g c =
    let key = c.args.desk.now.key in let story = g.V.Story in (
      search rules,
      omega arith,
      grips story.opening story.notes story.author story.touches key.passes key.turns
          key.guards (story.opening key.start.value) _ _ c.args.seat.now.me c.args.guard c.args.word (c.args.word / 2)
          c.requires.guard.0 c.requires.guard.1 (omega arith),
    )
