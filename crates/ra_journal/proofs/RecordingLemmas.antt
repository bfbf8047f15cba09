-- What the parts of a record need and do.
use Rattle.std.proofs.Common.{◌≡◌, ℕ, ◌<◌, ◌≤◌, List, length, Some, None, sym, refl, ap, ◌∙◌, subst, arith}
use Rattle.ra_base.specs.declared.causes.Cause.{Cause}
use Rattle.ra_draws.specs.declared.budgets.Lots.{Lots}
use Rattle.ra_model.specs.declared.raw.Tables.{Tables}
use Rattle.ra_model.specs.Limits.{WellFormed}
use Rattle.ra_model.specs.Situations.{Situation}
use Rattle.ra_moves.specs.declared.steps.Step.{Step}
use Rattle.ra_moves.specs.declared.verdicts.Plan.{Plan}
use Rattle.ra_moves.specs.declared.verdicts.Verdict.{Verdict}
use Rattle.ra_moves.specs.declared.verdicts.Verdict.TheVariants.{Done, Refused}
use Rattle.ra_moves.specs.declared.verdicts.Weighed.{Weighed}
use Rattle.ra_moves.specs.MoveSteps.{MoveSteps}
use Rattle.ra_moves.specs.Steps.{process_in, from_in, to_in}
use Rattle.ra_moves.specs.Judging.{judge}
use Rattle.ra_cells.specs.MovedCounts.{MovedCounts}
use Rattle.ra_moves.specs.Moving.{IsOffered}
use Rattle.ra_moves.specs.Weighing.{weighed_of}
use Rattle.ra_moves.specs.SettledNow.{IsSettling}
use Rattle.ra_moves.proofs.Settles.{changes}
use Rattle.ra_guards.specs.Guards.{AreWithin}
use Rattle.ra_guards.specs.Kept.{IsTableOf}
use Rattle.ra_journal.specs.declared.book.Book.{Book}
use Rattle.ra_journal.specs.declared.entries.Entry.{Entry}
use Rattle.ra_journal.specs.Entries.{steps_made, entries_of, worker_count, allowed}
use Rattle.ra_journal.specs.States.{state, cost_then, state_at}
use Rattle.ra_journal.specs.Legal.{Legal}
use Rattle.ra_journal.specs.Committing.{next_number, newer_since, IsCommit}
use Rattle.ra_journal.specs.Keeping.{IsStart, IsKept}
use Rattle.ra_journal.specs.Packing.{IsSmall}
use Rattle.ra_journal.specs.Quiet.{done_then}
use Rattle.ra_journal.specs.SmallSteps.{AreSmallSteps}
use Rattle.ra_journal.specs.Recording.{AreChangesOf, AreChangedBy, AreTouchedVersions, IsTakenIn}
use Rattle.ra_journal.specs.Openings.{Opening}
use Rattle.ra_journal.proofs.EndLemmas.{planned_within, planned_at_end, next_is_legal}
use Rattle.ra_journal.proofs.KeepingLemmas.{IsNext}
use Rattle.ra_journal.proofs.RoomLemmas.{AreNumbered, entries_within, entries_few, entries_fewer, proposals_few, budgets_few}
use Rattle.ra_journal.proofs.TouchedLemmas.{touched_nothing}

pub worker_below : (l : Lots) (w : ℕ) → w < worker_count l → w < 16
unfolding worker_count
worker_below l w exists = omega (arith, l.fitting.few)

module _ (i : Tables) (steps : List Step) where
  -- the next entry can be packed
  small_steps : WellFormed i → AreWithin i steps → AreSmallSteps steps
  unfolding process_in from_in to_in
  small_steps limits within = grind arith

  -- what is taken in of a verdict
  pub taken_done : (weighed : Weighed) (verdict : Verdict) (cost number : ℕ) (before after : Book) → verdict ≡ Done cost → after.entries ≡ before.entries → after.made ≡ before.made →
      number ≡ length before.entries.items → AreTouchedVersions i (Some steps) number before.versions after.versions →
      AreChangedBy i steps weighed before.greatest after.greatest → after.kept ≡ cost → after.best_at ≡ before.best_at →
      after.best_cost ≡ before.best_cost → after.done ≡ number → IsTakenIn i steps weighed verdict before after
  unfolding steps_made cost_then done_then
  taken_done weighed verdict cost number before after is entries made long versions put kept best_at best_cost last = grind arith

  pub taken_refused : (weighed : Weighed) (verdict : Verdict) (cause : Cause) (before : Book) → verdict ≡ Refused cause → IsTableOf i before.versions →
      IsTakenIn i steps weighed verdict before before
  unfolding steps_made cost_then done_then
  taken_refused weighed verdict cause before is sized = rw is (record {
    entries = refl;
    made = refl;
    versions = touched_nothing i (length before.entries.items) before.versions sized;
    done = λ cost same. absurd (cc (same));
    refused = λ other same. refl;
    kept = refl;
    best_at = refl;
    best_cost = refl;
    last = refl;
  })

module _ (o : Opening) where
  -- there is room for one entry more
  numbered : (h : List Entry) → Legal o h → AreNumbered o.lots h (length h)
  numbered h legal = record { each = λ j before. (legal.each j before).numbered }

  pub has_room : (book : Book) (w : ℕ) (plan : Plan) → IsKept o book →
      IsCommit o book.entries.items w plan → length book.entries.items < book.entries.room
  unfolding next_number
  has_room book w plan kept commit =
      omega (
        arith,
        kept.room,
        entries_fewer o.lots book.entries.items (length book.entries.items) w
            (numbered book.entries.items kept.legal) commit.worker (omega (arith, commit.number, commit.within)),
      )

  pub made_few : (h : List Entry) (w : ℕ) → Legal o h →
      w < worker_count o.lots → entries_of h (length h) w ≤ 1000000
  made_few h w legal exists =
      omega (arith, entries_within o.lots h (length h) w (numbered h legal), budgets_few o.lots w exists)

  pub small_next : (book : Book) (plan : Plan) (e : Entry) → IsStart o →
      IsKept o book → IsCommit o book.entries.items e.worker plan → e.k ≡ plan.k → e.q ≡ plan.q →
      e.mv ≡ plan.mv → IsSmall e
  small_next book plan e start kept commit number place mv = record {
    worker = omega (arith, worker_below o.lots e.worker commit.worker);
    number = omega (arith, number, commit.within, budgets_few o.lots e.worker commit.worker);
    place = omega (
      arith,
      place,
      commit.place,
      entries_few o.lots book.entries.items (length book.entries.items)
          (numbered book.entries.items kept.legal),
      proposals_few o.lots,
    );
    steps = small_steps o.tables e.mv.steps start.limits
        (subst (λ (m : MoveSteps). AreWithin o.tables m.steps) (sym mv)
        (planned_within o book.entries.items e.worker plan start kept.legal commit));
  }

  -- the next entry, and what is known of it
  pub is_next : (book : Book) (w : ℕ) (plan : Plan) (e : Entry) →
      IsStart o → IsKept o book → IsCommit o book.entries.items w plan →
      newer_since o.tables book.entries.items plan.q plan.mv.steps ≡ None → e ≡ record {
        worker = w;
        k = plan.k;
        q = plan.q;
        mv = plan.mv;
        verdict = e.verdict;
      } → e.verdict ≡ judge (state_at o book.entries.items (length book.entries.items)) plan.mv.steps
      (allowed o.lots w plan.k) → IsNext o book.entries.items e plan.weighed
  is_next book w plan e start kept commit none is judged =
      let h = book.entries.items in
      let end = planned_at_end o h w plan start kept.legal commit none in
      let mv : e.mv ≡ plan.mv = ap (λ (d : Entry). d.mv) is in
      let worker : e.worker ≡ w = ap (λ (d : Entry). d.worker) is in
      record {
        legal = next_is_legal o h w plan e commit end worker (ap (λ (d : Entry). d.k) is)
            (ap (λ (d : Entry). d.q) is) mv judged;
        exists = omega (arith, worker, worker_below o.lots w commit.worker);
        offered = subst (λ (m : MoveSteps). IsOffered o.tables (state o.start h (length h)) m.steps) (sym mv) end.offered;
        weighing = end.weighed ∙ ap (λ (m : MoveSteps). weighed_of (state_at o h (length h)) m.steps)
            (sym mv);
      }

-- the moved counts of a weighing are changes of those before it
pub counts_fit : (st : Situation) (steps : List Step) (moved : MovedCounts) (kept : ℕ)
    (weighed : Weighed) → WellFormed st.tables → IsSettling st steps moved kept weighed →
    AreChangesOf moved weighed
counts_fit st steps moved kept weighed limits settling =
    let are = changes st steps moved kept weighed limits settling in
    record { first = are.first; second = are.second; third = are.third }
