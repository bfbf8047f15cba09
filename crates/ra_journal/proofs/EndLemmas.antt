-- What is known at the end of a legal journal of a worker's plan, of whose move no guard was touched since.
use Rattle.std.proofs.Common.{◌≡◌, ℕ, ◌<◌, ◌≤◌, List, length, None, sym, refl, ap, ◌∙◌, subst, arith}
use Rattle.ra_base.specs.declared.causes.Drawing.{Drawing}
use Rattle.ra_model.specs.declared.raw.Tables.{Tables}
use Rattle.ra_model.specs.Limits.{WellFormed}
use Rattle.ra_model.specs.Numbers.{machine_count}
use Rattle.ra_model.specs.Assignments.{IsAssignment}
use Rattle.ra_model.specs.Broken.{first_broken}
use Rattle.ra_model.specs.Situations.{situation, Situation, broken_at}
use Rattle.ra_model.proofs.BrokenLemmas.{feasible_from_unbroken, unbroken_from_feasible}
use Rattle.ra_moves.specs.declared.steps.Step.{Step}
use Rattle.ra_moves.specs.declared.verdicts.Plan.{Plan}
use Rattle.ra_moves.specs.declared.verdicts.Verdict.{Verdict}
use Rattle.ra_moves.specs.MoveSteps.{MoveSteps}
use Rattle.ra_moves.specs.Steps.{process_in}
use Rattle.ra_moves.specs.Judging.{judge}
use Rattle.ra_moves.specs.Options.{option_at, plan_of, plan_place}
use Rattle.ra_moves.proofs.OptionLemmas.{option_stands, option_reaches}
use Rattle.ra_moves.specs.Moving.{IsOffered}
use Rattle.ra_moves.specs.Weighing.{weighed_of}
use Rattle.ra_moves.specs.SettledNow.{IsSettling, HasSettling}
use Rattle.ra_guards.specs.Guards.{AreWithin}
use Rattle.ra_guards.specs.Versions.{Untouched}
use Rattle.ra_guards.specs.Made.{AreSound}
use Rattle.ra_guards.proofs.NewestLemmas.{newest_is_right}
use Rattle.ra_guards.proofs.ResidentLemmas.{untouched_is_right}
use Rattle.ra_journal.specs.declared.book.Book.{Book}
use Rattle.ra_journal.specs.declared.entries.Entry.{Entry}
use Rattle.ra_journal.specs.Entries.{made_in, entries_of, words, allowed}
use Rattle.ra_journal.specs.States.{state, cost_of_state, state_at}
use Rattle.ra_journal.specs.Legal.{Legal, IsLegalAt}
use Rattle.ra_journal.specs.Laws.{IsSoundAt}
use Rattle.ra_journal.specs.Committing.{next_number, next_move, next_entry, newer_since, IsCommit}
use Rattle.ra_journal.specs.Keeping.{IsStart, IsKept}
use Rattle.ra_journal.specs.Openings.{Opening}
use Rattle.ra_journal.proofs.Offers.{plan_offered}
use Rattle.ra_journal.proofs.SoundLemmas.{sound}
use Rattle.ra_journal.proofs.MadeLemmas.{state_is_made, made_stand}
use Rattle.ra_journal.proofs.StandingLemmas.{legal_moves}

-- what is planned at an assignment has processes and machines of the instance
plan_within : (st : Situation) (x : List ℕ) (d : Drawing) (rise : ℕ) → WellFormed st.tables →
    IsAssignment st.tables st.here → AreWithin st.tables (plan_of st x d rise).steps
unfolding plan_of
plan_within st x d rise limits fits =
    let place = plan_place st x d rise in
    let some : 0 < length st.here = omega (arith, fits.one_each, limits.some_process) in
    let machines : 0 < machine_count st.tables = omega (arith, limits.some_machine) in
    let stands = option_stands st.here x (machine_count st.tables) d place some machines in
    record {
      process = λ j within. omega (arith, stands.known j within, fits.one_each);
      from = λ j within.
          omega (
            arith,
            stands.at j within,
            fits.in_range (process_in (option_at st.here x (machine_count st.tables) d place).steps j)
                (omega (arith, stands.known j within, fits.one_each)),
          );
      to = option_reaches st.here x (machine_count st.tables) d place some machines
          (λ p there. fits.in_range p (omega (arith, fits.one_each)));
    }

-- no guard is newer
pub untouched_since : (i : Tables) (h : List Entry) (q : ℕ) (steps : List Step) → WellFormed i → AreWithin i steps →
    newer_since i h q steps ≡ None → Untouched i (made_in h) q (length h) steps
unfolding newer_since
untouched_since i h q steps limits within none =
    (newest_is_right.none i (made_in h) q (length h) steps limits within).0 none

-- what was right of a move at place q is right at place n, if its guards were not touched
record IsRightAt (o : Opening) (h : List Entry) (q n : ℕ) (steps : List Step) : Type 0 where
  offered : IsOffered o.tables (state o.start h n) steps
  weighed : weighed_of (state_at o h q) steps ≡ weighed_of (state_at o h n) steps

-- the plan at the end
pub record IsPlannedAtEnd (o : Opening) (h : List Entry) (plan : Plan) : Type 0 where
  pub untouched : Untouched o.tables (made_in h) plan.q (length h) plan.mv.steps
  pub offered : IsOffered o.tables (state o.start h (length h)) plan.mv.steps
  pub weighed : plan.weighed ≡ weighed_of (state_at o h (length h)) plan.mv.steps

-- a record by its fields
same_entry : (w k q : ℕ) (mv nv : MoveSteps) (n : ℕ) (v u : Verdict) → k ≡ n → mv ≡ nv → v ≡ u →
    (let d : Entry = record { worker = w; k = k; q = q; mv = mv; verdict = v } in d) ≡
    record { worker = w; k = n; q = q; mv = nv; verdict = u }
same_entry w k q mv nv n v u number move verdict = rw (number, move, verdict) refl

module _ (o : Opening) (h : List Entry) where
  -- the states of a legal journal
  pub sound_at : (j : ℕ) → IsStart o → Legal o h → j ≤ length h → IsSoundAt o h j
  sound_at j start legal within =
      sound o h start.limits start.fits (feasible_from_unbroken o.tables o.start o.start start.limits start.fits
      start.unbroken) legal
      j within

  unbroken_at : (j : ℕ) → IsStart o → Legal o h →
      j ≤ length h → broken_at (state_at o h j) ≡ None
  unbroken_at j start legal within =
      unbroken_from_feasible o.tables o.start (state o.start h j) (sound_at j start legal within).feasible

  -- what is known of the states of a journal, over the list of what its entries make
  are_sound : (n : ℕ) → IsStart o → Legal o h →
      n ≤ length h → AreSound o.tables o.start (made_in h) n
  are_sound n start legal within = record {
    fits = λ j few. subst (IsAssignment o.tables) (state_is_made o.start h j)
        (sound_at j start legal (omega arith)).assignment;
    unbroken = λ j few. subst (λ a. first_broken o.tables o.start a ≡ None) (state_is_made o.start h j)
        (unbroken_at j start legal (omega arith));
  }

  right_later : (q n : ℕ) (steps : List Step) →
      IsStart o → Legal o h → q ≤ n → n ≤ length h → IsOffered o.tables (state o.start h q) steps →
      Untouched o.tables (made_in h) q n steps → IsRightAt o h q n steps
  right_later q n steps start legal few within offered untouched =
      let moves = legal_moves o h start.limits start.fits legal in
      let stand = made_stand o h n (record { each = λ j made before is. moves.each j made (omega arith) is }) in
      let right = untouched_is_right o.tables o.start (made_in h) q n steps start.limits
      (are_sound n start legal within)
      stand few (subst (λ a. IsOffered o.tables a steps) (state_is_made o.start h q) offered) untouched in
      record {
        offered = subst (λ a. IsOffered o.tables a steps) (sym (state_is_made o.start h n)) right.offered;
        weighed = ap (λ a. weighed_of (situation o.tables o.start a) steps) (state_is_made o.start h q) ∙ right.weighed
            ∙ ap (λ a. weighed_of (situation o.tables o.start a) steps) (sym (state_is_made o.start h n));
      }

  module _ (w : ℕ) (plan : Plan) where
    -- a plan
    pub planned_within : IsStart o →
        Legal o h → IsCommit o h w plan → AreWithin o.tables plan.mv.steps
    planned_within start legal commit =
        subst (λ (mv : MoveSteps). AreWithin o.tables mv.steps) (sym commit.planned)
        (plan_within (state_at o h plan.q) (words o.lots w plan.k) o.lots.drawing (allowed o.lots w plan.k) start.limits
        (sound_at plan.q start legal commit.place).assignment)

    pub planned_offered : IsStart o → Legal o h → IsCommit o h w plan → IsOffered o.tables (state o.start h plan.q) plan.mv.steps
    planned_offered start legal commit =
        subst (λ (mv : MoveSteps). IsOffered o.tables (state o.start h plan.q) mv.steps) (sym commit.planned)
        (plan_offered (state_at o h plan.q) (words o.lots w plan.k) o.lots.drawing (allowed o.lots w plan.k) start.limits
        (sound_at plan.q start legal commit.place).assignment)

    pub planned_at_end : IsStart o →
        Legal o h → IsCommit o h w plan → newer_since o.tables h plan.q plan.mv.steps ≡ None →
        IsPlannedAtEnd o h plan
    planned_at_end start legal commit none =
        let n = length h in
        let steps = plan.mv.steps in
        let untouched = untouched_since o.tables h plan.q steps start.limits (planned_within start legal commit)
        none in
        let right = right_later plan.q n steps start legal commit.place (omega arith)
        (planned_offered start legal commit) untouched in
        record { untouched = untouched; offered = right.offered; weighed = commit.weighed ∙ right.weighed }

    -- the next entry
    pub next_is_planned : IsCommit o h w plan → next_move o h w plan.q ≡ plan.mv
    unfolding next_move
    next_is_planned commit =
        ap (λ k. plan_of (state_at o h plan.q) (words o.lots w k) o.lots.drawing (allowed o.lots w k)) (sym commit.number)
        ∙ sym commit.planned

    pub next_entry_is : (verdict : Verdict) → IsCommit o h w plan → verdict ≡ judge (state_at o h (length h))
        plan.mv.steps
        (allowed o.lots w plan.k) → (let e : Entry = record {
          worker = w;
          k = plan.k;
          q = plan.q;
          mv = plan.mv;
          verdict = verdict;
        } in e) ≡ next_entry o h w plan.q
    unfolding next_entry
    next_entry_is verdict commit judged =
        let move = sym (next_is_planned commit) in
        same_entry w plan.k plan.q plan.mv (next_move o h w plan.q) (next_number h w) verdict
        (judge (state_at o h (length h)) (next_move o h w plan.q).steps (allowed o.lots w (next_number h w)))
        commit.number move
        (judged ∙ ap (λ (mv : MoveSteps). judge (state_at o h (length h)) mv.steps (allowed o.lots w plan.k)) move
        ∙ ap (λ k. judge (state_at o h (length h)) (next_move o h w plan.q).steps (allowed o.lots w k))
        commit.number)

    -- it may come at the end
    pub next_is_legal : (e : Entry) →
        IsCommit o h w plan → IsPlannedAtEnd o h plan → e.worker ≡ w → e.k ≡ plan.k → e.q ≡ plan.q →
        e.mv ≡ plan.mv → e.verdict ≡ judge (state_at o h (length h)) plan.mv.steps (allowed o.lots w plan.k) →
        IsLegalAt o h (length h) e
    unfolding next_number
    next_is_legal e commit end worker k q mv judged = record {
      numbered = record {
        worker = omega (arith, commit.worker);
        number = k ∙ commit.number ∙ ap (λ v. entries_of h (length h) v) (sym worker);
        budget = rw (k, worker) commit.within;
      };
      placed = record {
        place = omega (arith, commit.place);
        seen = λ n before own. omega (arith, commit.seen n before (own ∙ worker));
      };
      planned = rw (mv, k, q, worker) commit.planned;
      untouched = rw (mv, q) end.untouched;
      judged = rw (mv, k, worker) judged;
    }

pub settling_now : (o : Opening) (book : Book) (w : ℕ) (plan : Plan) → IsStart o →
    IsKept o book → IsCommit o book.entries.items w plan →
    newer_since o.tables book.entries.items plan.q plan.mv.steps ≡ None →
    IsSettling (state_at o book.entries.items (length book.entries.items)) plan.mv.steps book.greatest
    book.kept
    plan.weighed
unfolding cost_of_state
settling_now o book w plan start kept commit none =
    let h = book.entries.items in
    let end = planned_at_end o h w plan start kept.legal commit none in
    let is_sound = sound_at o h (length h) start kept.legal (omega arith) in
    record {
      start = start.fits;
      fits = is_sound.assignment;
      moves = end.offered;
      counts = kept.moved;
      cost = kept.cost ∙ is_sound.kept;
      weighing = end.weighed;
    }

pub has_settling : (st : Situation) (steps : List Step) (book : Book) (plan : Plan) →
    IsSettling st steps book.greatest book.kept plan.weighed →
    HasSettling st.tables book.greatest book.kept plan.weighed
has_settling st steps book plan settling = record {
  initial = st.start;
  assignment = st.here;
  steps = steps;
  settling = settling;
}
