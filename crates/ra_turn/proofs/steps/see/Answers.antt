use Rattle.std.proofs.Common.{◌≡◌, ◌∷◌, Some, rules, arith, sym, ap, ◌∙◌}
use Rattle.atomic_table.specs.Table.{rest}
use Rattle.ra_turn.proofs.Turns.{sees}
use Rattle.ra_turn.proofs.steps.see.Goals as goal

pub load-count-requires : goal.load-count-requires
load-count-requires g c = let key = c.args.desk.now.key in let story = g.V.Story in (
  search rules,
  omega arith,
  sees story.opening story.notes story.author story.touches key.passes key.turns
      key.guards (story.opening key.start.value) _ _ c.args.seat.now.me c.requires.table.1.2 c.requires.called.0,
)

pub exchange-value-requires : goal.exchange-value-requires
exchange-value-requires g c = let told = c.load-count.ensures.2 in let seat = c.load-count.new.seat in
    let taken : seat.me.1 ≡ (0, Some told.0) ∷ c.args.seat.now.me.1 = rw told.2 in
    (search rules, (Some told.0, taken ∙ ap (λ cs. (0, Some told.0) ∷ rest cs) (sym taken)))

pub returns-clause-guards : goal.returns-clause-guards
returns-clause-guards g c = let told = c.load-count.ensures.2 in
    let view : c.exchange-value.new.seat.me.0 ≡ c.load-count.new.seat.me.0 =
    rw c.exchange-value.ensures.3 in (
      rw view told.3,
      rw view told.4,
    )
