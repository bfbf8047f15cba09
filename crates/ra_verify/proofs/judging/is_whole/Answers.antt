use Rattle.std.proofs.Common.{◌≡◌, ◌<◌, ◌≤◌, length, refl, ap, ◌∙◌, subst, ⊎_elim, arith}
use Rattle.std.proofs.lemmas.Bool.{cases_lt}
use Rattle.ra_draws.specs.declared.budgets.Lots.{Lots}
use Rattle.ra_journal.specs.Entries.{entries_of, worker_count, budget}
use Rattle.ra_worker.proofs.ProposalLemmas.{lot_budget}
use Rattle.ra_verify.proofs.judging.is_whole.Goals as goal

pub made_by-requires : goal.made_by-requires
unfolding worker_count
made_by-requires c =
    omega (arith, c.loop-w-test.true, c.len-w-end.ensures.value, ap (λ (l : Lots). length l.lots.items) c.lots.ensures.value)

pub returns-then-made_by-lot : goal.returns-then-made_by-lot
unfolding worker_count
returns-then-made_by-lot c =
    let own : c.lot.result.now.budget ≡ budget c.args.journal.now.lots c.loop-w.w =
    lot_budget c.lots-in-loop-w.result.now c.loop-w.w c.lot.result.now c.lot.ensures
    ∙ ap (λ (l : Lots). budget l c.loop-w.w) c.lots-in-loop-w.ensures.value in
    let exists : c.loop-w.w < worker_count c.args.journal.now.lots =
    omega (
      arith,
      c.loop-w-test.true,
      c.len-w-end.ensures.value,
      ap (λ (l : Lots). length l.lots.items) c.lots.ensures.value,
    ) in (
      λ no. absurd (cc),
      λ whole.
          absurd (omega (arith, c.if-made_by-lot.true, c.made_by.ensures, own, whole.each c.loop-w.w exists)),
    )

pub loop-w-preserved : goal.loop-w-preserved
loop-w-preserved c =
    let own : c.lot.result.now.budget ≡ budget c.args.journal.now.lots c.loop-w.w =
    lot_budget c.lots-in-loop-w.result.now c.loop-w.w c.lot.result.now c.lot.ensures
    ∙ ap (λ (l : Lots). budget l c.loop-w.w) c.lots-in-loop-w.ensures.value in
    let h = c.args.journal.now.entries in
    λ v within. ⊎_elim
    (λ (before : v < c.loop-w.w). c.loop-w.invariant v before)
    (λ (last : c.loop-w.w ≤ v).
    let here : c.loop-w.w ≡ v = omega (arith, last, within) in
    subst (λ w. entries_of h (length h) w ≡ budget c.args.journal.now.lots w) here
    (omega (arith, c.if-made_by-lot.false, c.made_by.ensures, own)))
    (cases_lt v c.loop-w.w)

pub returns : goal.returns
unfolding worker_count
returns c = (
  λ yes. record {
    each = λ w there.
        c.loop-w.invariant w
        (omega (
          arith,
          there,
          c.loop-w-test.false,
          c.len-w-end.ensures.value,
          ap (λ (l : Lots). length l.lots.items) c.lots.ensures.value,
        ));
    no_other = λ k within. (c.lots.ensures.sound.legal.each k within).numbered.worker;
  },
  λ whole. refl,
)
