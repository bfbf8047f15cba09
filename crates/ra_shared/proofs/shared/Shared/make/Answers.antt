use Rattle.std.proofs.Common.{ap, sym, subst, ◌∙◌, arith}
use Rattle.ra_journal.specs.Entries.{worker_count}
use Rattle.ra_shared.specs.Books.{opening_of_journal, IsStartOf}
use Rattle.ra_shared.specs.Numbers.{guard_count}
use Rattle.ra_shared.proofs.Resting.{new_pass}
use Rattle.ra_shared.proofs.shared.Shared.make.Goals as goal

pub invariant_of-result : goal.invariant_of-result
unfolding guard_count worker_count
invariant_of-result c =
    let opened =
    c.in_ok-turn.ensures.turn.0 ∙ ap (λ j. opening_of_journal j) c.in_ok-journal.ensures.ok in
    let lots = ap (λ l. worker_count l) c.lots-lots.ensures.value
    ∙ ap (λ o. worker_count o.lots) (sym opened) in
    record {
      instance = c.instance-inst.ensures.value ∙ ap (λ o. o.inst) (sym opened);
      allotted = c.lots-lots.ensures.value ∙ ap (λ o. o.lots) (sym opened);
      started = subst IsStartOf (sym opened) c.lots-lots.ensures.sound.start;
      guards = omega (arith, c.in_ok-turn.ensures.turn.2, c.machines.ensures, c.services.ensures);
      workers = omega (arith, c.in_ok-turn.ensures.turn.1, c.len.ensures.value, lots);
    }

pub returns-clause-passes : goal.returns-clause-passes
returns-clause-passes c n d lt = new_pass _ n _ (c.in_ok-turn.ensures.passes.1 n d lt)
