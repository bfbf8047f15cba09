use Rattle.std.proofs.Common.{rules, arith}
use Rattle.ra_turn.proofs.Gives.{notes_one}
use Rattle.ra_turn.proofs.steps.note.Goals as goal

pub compare_exchange_with-requires : goal.compare_exchange_with-requires
compare_exchange_with-requires g c =
    let key = c.args.desk.now.key in let story = g.V.Story in let new = c.requires.one_more in (
      search rules,
      omega arith,
      notes_one story.opening story.notes story.author story.touches key.passes key.turns
          key.guards (story.opening key.start.value) _ _ c.args.seat.now.me c.args.seen c.args.value.now new.0
          c.requires.table.1.2 c.requires.holding new.1 new.2,
    )
