use Rattle.std.proofs.Common.{rules, arith, ap, ◌∙◌}
use Rattle.ra_turn.proofs.Ends.{glues}
use Rattle.ra_turn.proofs.close.join.Goals as goal

pub join_seat-requires : goal.join_seat-requires
join_seat-requires g c =
    let key = c.args.turn.now.table.shared.key in let story = g.V.Story in let other = c.into_seat.result in (
      search rules,
      search rules,
      search rules,
      (omega arith),
      glues story.opening story.notes story.author story.touches key.passes key.turns key.guards
          (story.opening key.start.value) _ c.args.seat.now.me.0 _ other.me.0 c.requires.seat.1
          (ap (λ s. s.me.0.stage) c.into_seat.ensures ∙ c.requires.pass.1.0) c.requires.seat.2
          (ap (λ s. s.me.0.grips) c.into_seat.ensures ∙ c.requires.pass.2),
    )
