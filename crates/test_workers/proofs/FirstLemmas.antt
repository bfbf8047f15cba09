-- The first plan of a worker may be handed in as long as the worker has no entry.
use Rattle.std.proofs.Common.{◌≡◌, ℕ, ◌<◌, List, length, sym, ◌∙◌, arith, eqb, eq-eqb}
use Rattle.std.proofs.lemmas.Bool.{both_ways}
use Rattle.ra_base.proofs.Counts.{count_zero_at}
use Rattle.ra_moves.specs.declared.verdicts.Plan.{Plan}
use Rattle.ra_journal.specs.declared.entries.Entry.{Entry}
use Rattle.ra_journal.specs.Entries.{entry_at, entries_of, worker_count, budget}
use Rattle.ra_journal.specs.Committing.{next_number, IsCommit}
use Rattle.ra_journal.specs.States.{state}
use Rattle.ra_journal.specs.Openings.{Opening}
use Rattle.test_workers.specs.FirstPlans.{IsFirstPlan}

pub first_commit : (o : Opening) (h : List Entry) (w : ℕ) (plan : Plan) →
    IsFirstPlan o w plan → w < worker_count o.lots → 0 < budget o.lots w → entries_of h (length h) w ≡ 0 →
    IsCommit o h w plan
unfolding next_number entries_of state
first_commit o h w plan first exists some none = record {
  worker = exists;
  number = first.number ∙ sym none;
  within = omega (arith, first.number, some);
  place = omega (arith, first.place);
  seen = λ j before own.
      absurd (both_ways _ (count_zero_at (length h) j (λ k. eqb (entry_at h k).worker w) none before)
      (eq-eqb (entry_at h j).worker w own));
  planned = rw (first.place, first.number) first.planned;
  weighed = rw first.place first.weighing;
}
