use Rattle.std.proofs.Common.{rules, arith, ap, ◌∙◌}
use Rattle.ra_turn.specs.declared.sight.Stage.TheVariants.{Maker}
use Rattle.ra_turn.proofs.Ends.{cuts}
use Rattle.ra_turn.proofs.make.cut.Goals as goal

pub split_seat-seat-requires : goal.split_seat-seat-requires
split_seat-seat-requires g c = let key = c.args.turn.now.table.shared.key in let story = g.V.Story in (
  search rules,
  (omega arith),
  cuts story.opening story.notes story.author story.touches key.passes key.turns key.guards
      (story.opening key.start.value) _ c.args.maker.now.me.0
      (c.requires.maker.1 ∙ ap Maker c.requires.counts.1) (omega arith),
)
