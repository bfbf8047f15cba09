use Rattle.std.proofs.Common.{rules, arith, refl}
use Rattle.ra_turn.proofs.Grips.{releases}
use Rattle.ra_turn.proofs.guards.release_guard.Goals as goal

pub swap-requires : goal.swap-requires
swap-requires g c = let key = c.args.desk.now.key in let story = g.V.Story in let grips = c.requires.grips in (
  search rules,
  omega arith,
  releases story.opening story.notes story.author story.touches key.passes key.turns
      key.guards (story.opening key.start.value) _ _ c.args.seat.now.me c.args.guard grips.0 c.args.version
      c.requires.table.2 grips.1 grips.2 c.requires.version.1,
)

pub returns-clause-view : goal.returns-clause-view
returns-clause-view g c = c.swap.ensures.2 c.args.guard refl
