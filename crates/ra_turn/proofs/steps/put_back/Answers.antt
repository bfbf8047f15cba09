use Rattle.std.proofs.Common.{◌≡◌, ◌∷◌, [], Some, rules, arith, sym, ap, ◌∙◌}
use Rattle.ra_turn.proofs.Gives.{serves}
use Rattle.ra_turn.proofs.steps.put_back.Goals as goal

pub fetch_add-requires : goal.fetch_add-requires
fetch_add-requires g c = let key = c.args.desk.now.key in let story = g.V.Story in
    let seat = c.exchange-before.new.seat in let me = c.exchange-before.ensures.3 in
    let view : seat.me.0 ≡ c.args.seat.now.me.0 = rw me in
    let in_hand : seat.me.1 ≡ (0, Some _) ∷ [] = cc (me, c.requires.has.1, c.requires.value.1) in (
      search rules,
      omega arith,
      serves story.opening story.notes story.author story.touches key.passes key.turns key.guards
          (story.opening key.start.value) _ _ seat.me _ c.requires.table.1.2
          (rw view c.requires.has.0) in_hand
          (c.requires.value.2 ∙ ap (λ v. v.own.seen) (sym view)) (ap (λ v. v.opened) view ∙ c.requires.value.3),
    )
