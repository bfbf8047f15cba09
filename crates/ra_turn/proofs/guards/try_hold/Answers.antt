use Rattle.std.proofs.Common.{◌/◌, ◌++◌, ◌∷◌, [], rules}
use Rattle.ra_turn.specs.Notes.{grip}
use Rattle.ra_turn.proofs.Grasping.{only_same, only_news, only_held, only_then, heard_keeps}
use Rattle.ra_turn.proofs.guards.try_hold.Goals as goal

pub returns-then-found-version-clause-same : goal.returns-then-found-version-clause-same
returns-then-found-version-clause-same g c = let m = c.args.seat.now.me in (
  c.look-word.ensures.same,
  only_news m c.look-word.new.seat.me _
      c.look-word.ensures.view (heard_keeps c.args.guard c.look-word.result m.0.news),
)

pub returns-then-grasp-clause-same : goal.returns-then-grasp-clause-same
returns-then-grasp-clause-same g c =
    let m = c.args.seat.now.me in let looked = c.look-word.new.seat.me in let took = c.if-grasp.ensures.view in (
      search rules,
      only_then m looked c.grasp.new.seat.me
          (only_news m looked _ c.look-word.ensures.view
          (heard_keeps c.args.guard c.look-word.result m.0.news))
          (only_held looked c.grasp.new.seat.me (looked.0.grips ++ grip c.args.guard (c.look-word.result / 2) ∷ [])
          took.0),
    )

pub returns-else-grasp-clause-same : goal.returns-else-grasp-clause-same
returns-else-grasp-clause-same g c = let m = c.args.seat.now.me in (
  search rules,
  only_then m _ c.grasp.new.seat.me
      (only_news m _ _ c.look-word.ensures.view
      (heard_keeps c.args.guard c.look-word.result m.0.news))
      (only_same _ c.grasp.new.seat.me c.if-grasp.ensures.view),
)
