-- A journal that has answered a worker is legal.
use Rattle.std.proofs.Common.{◌≡◌, ℕ, List, [], ◌∷◌, ◌++◌, Option, Some, None, refl}
use Rattle.ra_model.proofs.BrokenLemmas.{unbroken_from_feasible}
use Rattle.ra_moves.specs.declared.verdicts.Plan.{Plan}
use Rattle.ra_moves.specs.Weighing.{weighed_of}
use Rattle.ra_guards.specs.declared.newest.Newer.{Newer}
use Rattle.ra_journal.specs.declared.entries.Entry.{Entry}
use Rattle.ra_journal.specs.Committing.{next_number, next_move, next_entry, newer_since, committed_by, committed}
use Rattle.ra_journal.specs.Committing.{IsCommit}
use Rattle.ra_journal.specs.Keeping.{IsStart}
use Rattle.ra_journal.specs.Legal.{Legal}
use Rattle.ra_journal.specs.Laws.{MayCommit, CommittedIsLegal}
use Rattle.ra_journal.specs.Openings.{Opening}
use Rattle.ra_journal.specs.States.{state_at}
use Rattle.ra_journal.proofs.EndLemmas.{planned_at_end, next_is_legal}
use Rattle.ra_journal.proofs.NextLemmas.{next_legal}

-- the plan that the worker hands in
next_plan : Opening → List Entry → ℕ → ℕ → Plan
next_plan o h w q = let mv = next_move o h w q in record {
  q = q;
  k = next_number h w;
  mv = mv;
  weighed = weighed_of (state_at o h q) mv.steps;
}

module _ (o : Opening) (h : List Entry) where
  next_commit : (w q : ℕ) → MayCommit o.lots h w q → IsCommit o h w (next_plan o h w q)
  unfolding next_plan next_move
  next_commit w q may = record {
    worker = may.worker;
    number = refl;
    within = may.left;
    place = may.place;
    seen = may.seen;
    planned = refl;
    weighed = refl;
  }

  entry_legal : (w q : ℕ) → IsStart o → Legal o h →
      MayCommit o.lots h w q → newer_since o.tables h q (next_move o h w q).steps ≡ None →
      Legal o (h ++ next_entry o h w q ∷ [])
  unfolding next_plan next_entry
  entry_legal w q start legal may none =
      let commit = next_commit w q may in
      let end = planned_at_end o h w (next_plan o h w q) start legal commit none in
      next_legal o h (next_entry o h w q) legal
      (next_is_legal o h w (next_plan o h w q) (next_entry o h w q) commit end refl refl refl refl
      refl)

  answered_legal : (e : Entry) (newer : Option Newer) →
      Legal o h → (newer ≡ None → Legal o (h ++ e ∷ [])) → Legal o (committed_by newer h e).journal
  unfolding committed_by
  answered_legal e (Some newer) legal more = legal
  answered_legal e None legal more = more refl

pub committed_legal : CommittedIsLegal
unfolding committed
committed_legal o h w q limits fits feasible legal may =
    let start : IsStart o = record {
      limits = limits;
      fits = fits;
      unbroken = unbroken_from_feasible o.tables o.start o.start feasible;
    } in
    answered_legal o h (next_entry o h w q) (newer_since o.tables h q (next_move o h w q).steps) legal
    (entry_legal o h w q start legal may)
