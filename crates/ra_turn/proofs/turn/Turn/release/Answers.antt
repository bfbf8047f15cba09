use Rattle.std.proofs.Common.{◌≡◌, ◌+◌, ◌<◌, ◌==◌, not, ap, sym, subst, ◌∙◌}
use Rattle.std.proofs.lemmas.List.Elements.{All-filter}
use Rattle.ra_turn.specs.Notes.{by, without}
use Rattle.ra_turn.proofs.Passing.{shut_at}
use Rattle.ra_turn.proofs.turn.Turn.release.Goals as goal

-- the words of the guards that stay locked are words of the table
pub invariant_of-pass-clause-within : goal.invariant_of-pass-clause-within
invariant_of-pass-clause-within g c = let old = c.args.pass.now.seat in let new = c.release_guard.new.seat in
    let grips : new.me.0.grips ≡ without c.args.guard old.me.0.grips =
    rw c.release_guard.ensures.view.0 in
    let table = c.release_guard.ensures.same.0 in
    rw (grips, table) (All-filter (λ k. not (k.guard == c.args.guard)) (λ k. 3 + k.guard < old.table_id.words)
    old.me.0.grips c.args.pass.now.within)

pub returns-clause-shut : goal.returns-clause-shut
returns-clause-shut g c = let story = g.V.Story in let v = c.release_guard.new.seat.me.0 in
    let pass = c.args.pass.now in let gave = c.release_guard.ensures.view in
    let opened = ap (λ m. m.0.opened) gave.0 ∙ c.requires.pass.0.1 in
    let number = ap (λ m. m.0.own.number) gave.0 ∙ pass.numbered in
    shut_at story.author story.touches v _ pass.number opened number gave.1

pub invariant_of-pass-clause-owned : goal.invariant_of-pass-clause-owned
invariant_of-pass-clause-owned g c = let author = g.V.Story.author in
    subst (λ m. by author m.0.own.number m.0.own.seen ≡ m.0.own.mine) (sym c.release_guard.ensures.view.0)
    c.args.pass.now.owned
