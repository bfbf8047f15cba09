use Rattle.std.proofs.Common.{Some, length, ap, sym, ◌∙◌, ⊎_elim}
use Rattle.ra_turn.proofs.Lists.{by_one_more}
use Rattle.ra_turn.proofs.turn.Turn.give.Goals as goal

pub hand_on-requires-clause-one_more : goal.hand_on-requires-clause-one_more
hand_on-requires-clause-one_more g c = ⊎_elim
    (λ same. absurd (c.if-count-pass.false (c.note_count-count.ensures ∙ (ap length same ∙ c.args.pass.now.seens))))
    (λ more. record {
      note = more.0;
      added = more.1;
      own = more.2 ∙ sym c.args.pass.now.numbered;
      opened = c.requires.pass.0.1 ∙ ap Some (sym c.requires.opening);
      held = rw c.requires.opening more.3;
    })
    c.requires.notes

pub returns-else-count-pass-clause-made : goal.returns-else-count-pass-clause-made
returns-else-count-pass-clause-made g c =
    let v = c.args.pass.now.seat.me.0 in ap (λ m. m.0.own.mine) c.hand_on.ensures.view
    ∙ ⊎_elim
    (λ same. absurd (c.if-count-pass.false (c.note_count-count.ensures ∙ (ap length same ∙ c.args.pass.now.seens))))
    (λ more. by_one_more g.V.Story.author v.own.number v.own.seen v.own.mine _ more.0 more.1
    (more.2 ∙ sym c.args.pass.now.numbered) c.hand_on.ensures.made.0)
    c.requires.notes
