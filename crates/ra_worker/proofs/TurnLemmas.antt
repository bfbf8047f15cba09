-- A replica at a state of a journal takes in what comes next, and hands in what is planned there.
use Rattle.std.proofs.Common.{◌≡◌, ℕ, ◌+◌, ◌-◌, ◌<◌, ◌≤◌, min, Bool, false, eqb, List, drop, length, sym, ap, ◌∙◌, subst, arith, ⊎_elim}
use Rattle.std.proofs.lemmas.Bool.{or_parts, ltb-false, leb-false, cases_lt, eq-eqb}
use Rattle.std.proofs.lemmas.List.{length-take, length-drop, get_or-take, get_or-drop, get_or_past}
use Rattle.ra_base.proofs.Counts.{count_grows, count_yes}
use Rattle.ra_draws.specs.declared.budgets.Lots.{Lots}
use Rattle.ra_draws.specs.Lots.{lot_at, budget_of}
use Rattle.ra_moves.specs.declared.verdicts.Plan.{Plan}
use Rattle.ra_moves.specs.Options.{plan_of}
use Rattle.ra_moves.specs.Weighing.{weighed_of}
use Rattle.ra_journal.specs.declared.entries.Entry.{Entry}
use Rattle.ra_journal.specs.Batches.{batch_from}
use Rattle.ra_journal.specs.Committing.{next_number, IsCommit}
use Rattle.ra_journal.specs.Entries.{entry_at, entries_of, worker_count, budget, words, allowed}
use Rattle.ra_journal.specs.Legal.{Legal}
use Rattle.ra_journal.specs.Openings.{Opening}
use Rattle.ra_worker.specs.Skipping.{has_used, is_behind, is_skipped}
use Rattle.ra_worker.specs.Replicas.{Progress, IsAt, ArePartOf, AreNextEntries, HasTaken}
use Rattle.ra_worker.proofs.OpeningLemmas.{world_is}

module _ (h : List Entry) (at : ℕ) where
  -- how long a batch is
  pub batch_long : length (batch_from h at) ≡ min 1024 (length h - at)
  unfolding batch_from
  batch_long = length-take 1024 (drop at h) ∙ ap (λ n. min 1024 n) (length-drop at h)

  pub batch_entry : (j : ℕ) → j < length (batch_from h at) →
      entry_at (batch_from h at) j ≡ entry_at h (at + j)
  unfolding batch_from entry_at
  batch_entry j within =
      get_or-take 1024 (drop at h) j _ (omega (arith, within, length-take 1024 (drop at h))) ∙ get_or-drop at h j _

  -- a batch is part of the journal that it is copied from
  batch_part : at ≤ length h → ArePartOf h at (batch_from h at)
  batch_part within = record { within = omega (arith, batch_long); each = λ j there. batch_entry j there }

-- and is next for the replica whose place it is copied from
pub batch_next : (o : Opening) (h b : List Entry) (r : Progress) → IsAt o h r →
    Legal o h → b ≡ batch_from h r.place → AreNextEntries r b h
batch_next o h b r at legal b_is = record {
  legal = subst (λ (p : Opening). Legal p h) (sym at.opening) legal;
  here = subst (λ (p : Opening). IsAt p h r) (sym at.opening) at;
  part = rw b_is (batch_part h r.place at.place);
}

pub taken_at : (o : Opening) (h b : List Entry) (r s : Progress) (n : ℕ) →
    IsAt o h r → Legal o h → b ≡ batch_from h r.place → HasTaken r s b n → IsAt o h s
taken_at o h b r s n at legal b_is taken =
    subst (λ (p : Opening). IsAt p h s) at.opening (taken.at h (batch_next o h b r at legal b_is))

-- a worker that is not behind has all its entries before its place
pub seen_before : (h : List Entry) (w q : ℕ) → is_behind h w q ≡ false → (j : ℕ) → j < length h →
    (entry_at h j).worker ≡ w → j < q
unfolding is_behind next_number entries_of
seen_before h w q not_behind j within own =
    let own_at : ℕ → Bool = λ (n : ℕ). eqb (entry_at h n).worker w in
    ⊎_elim
    (λ (before : j < q). before)
    (λ (late : q ≤ j).
    omega (
      arith,
      ltb-false _ _ not_behind,
      count_grows q j own_at late,
      count_yes j own_at (eq-eqb (entry_at h j).worker w own),
      count_grows (j + 1) (length h) own_at (omega arith),
    ))
    (cases_lt j q)

-- a worker that has not used its budget has some left
pub some_left : (l : Lots) (h : List Entry) (w : ℕ) → has_used l h w ≡ false → next_number h w < budget l w
unfolding has_used
some_left l h w unused = leb-false _ _ unused

-- who has some budget is one of the workers
pub some_budget : (l : Lots) (w n : ℕ) → n < budget l w → w < worker_count l
unfolding worker_count budget budget_of lot_at
some_budget l w n left = grind (arith, get_or_past)

-- a worker that is not behind has as many entries before its place as in all
pub not_behind : (h : List Entry) (w q : ℕ) → q ≤ length h → is_behind h w q ≡ false →
    entries_of h q w ≡ next_number h w
unfolding is_behind next_number entries_of
not_behind h w q within not_later =
    omega (arith, ltb-false _ _ not_later, count_grows q (length h) (λ j. eqb (entry_at h j).worker w) within)

-- the next proposal of such a worker may be handed in
pub may_commit : (o : Opening) (h : List Entry) (r : Progress) (plan : Plan) →
    IsAt o h r → is_skipped o.lots h r.worker r.place ≡ false → plan.q ≡ r.place →
    plan.k ≡ r.next → plan.mv ≡ plan_of r.world
    (words r.lots r.worker r.next)
    r.lots.drawing (allowed r.lots r.worker r.next) →
    plan.weighed ≡ weighed_of r.world plan.mv.steps → IsCommit o h r.worker plan
unfolding is_skipped
may_commit o h r plan at not_skipped q_is k_is mv weighed =
    let w = r.worker in
    let parts = or_parts (has_used o.lots h w) (is_behind h w r.place) not_skipped in
    let world = world_is o h r at in
    let lots : r.lots ≡ o.lots = ap (λ (p : Opening). p.lots) at.opening in
    record {
      worker = some_budget o.lots w _ (some_left o.lots h w parts.0);
      number = k_is ∙ at.number ∙ not_behind h w r.place at.place parts.1;
      within = omega (arith, k_is, at.number, not_behind h w r.place at.place parts.1, some_left o.lots h w parts.0);
      place = omega (arith, q_is, at.place);
      seen = λ j there own. omega (arith, q_is, seen_before h w r.place parts.1 j there own);
      planned = rw (q_is, k_is) (rw (world, lots) at mv);
      weighed = rw q_is (rw world at weighed);
    }
