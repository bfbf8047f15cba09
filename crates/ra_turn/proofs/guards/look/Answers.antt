use Rattle.std.proofs.Common.{rules, arith, refl}
use Rattle.ra_turn.proofs.Grips.{glances}
use Rattle.ra_turn.proofs.guards.look.Goals as goal

pub load-requires : goal.load-requires
load-requires g c = let key = c.args.desk.now.key in let story = g.V.Story in (
  search rules,
  omega arith,
  glances story.opening story.notes story.author story.touches key.passes key.turns
      key.guards (story.opening key.start.value) _ _ c.args.seat.now.me c.args.guard c.requires.guard.0
      c.requires.guard.1,
)

pub returns-clause-view : goal.returns-clause-view
returns-clause-view g c = c.load.ensures.2 c.args.guard refl
