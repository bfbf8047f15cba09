use Rattle.std.proofs.Common.{ap, ◌∙◌}
use Rattle.ra_turn.proofs.Passing.{shut_at, told_at}
use Rattle.ra_turn.proofs.turn.Turn.take.Goals as goal

pub returns-clause-guards : goal.returns-clause-guards
returns-clause-guards g c = let story = g.V.Story in let v = c.see-seen.new.seat.me.0 in let pass = c.args.pass.now in
    let drew = c.draw-ticket.ensures.view in let waited = c.wait.ensures.view in let saw = c.see-seen.ensures.view in
    let opened = ap (λ m. m.0.opened) saw
    ∙ (ap (λ m. m.0.opened) waited ∙ (ap (λ m. m.0.opened) drew ∙ c.requires.pass.0.1)) in
    let number = ap (λ m. m.0.own.number) saw
    ∙ (ap (λ m. m.0.own.number) waited ∙ (ap (λ m. m.0.own.number) drew ∙ pass.numbered)) in (
      (
        ap (λ m. m.0.grips) saw ∙ (ap (λ m. m.0.grips) waited ∙ ap (λ m. m.0.grips) drew),
        ap (λ m. m.0.news) saw
            ∙ (ap (λ m. m.0.news) waited ∙ ap (λ m. m.0.news) drew),
      ),
      shut_at story.author story.touches v _ pass.number opened number c.see-seen.ensures.guards.0,
      told_at story.touches v _ opened c.see-seen.ensures.guards.1,
    )
