-- In a legal journal over a feasible start each state is a feasible assignment, and the kept cost is its objective.
use Rattle.std.proofs.Common.{◌≡◌, ◌≢◌, ℕ, zero, suc, ◌<◌, ◌≤◌, List, set, length, Option, Some, None, sym, refl, ap}
use Rattle.std.proofs.Common.{◌∙◌, subst, ⊎_elim, arith}
use Rattle.std.proofs.lemmas.List.{get_or-set_other, get_or-set_same}
use Rattle.std.proofs.lemmas.Bool.{cases_lt}
use Rattle.ra_base.specs.declared.ids.Machine.{Machine}
use Rattle.ra_base.specs.declared.causes.Cause.{Cause}
use Rattle.ra_base.specs.declared.causes.Drawing.{Drawing}
use Rattle.ra_base.specs.Searches.{or_else}
use Rattle.ra_base.proofs.Searches.{left_none, right_none}
use Rattle.ra_model.specs.declared.raw.Tables.{Tables}
use Rattle.ra_model.specs.Limits.{WellFormed}
use Rattle.ra_model.specs.Numbers.{machine_count}
use Rattle.ra_model.specs.Assignments.{IsAssignment, machine_at}
use Rattle.ra_model.specs.Feasible.{Feasible}
use Rattle.ra_model.specs.Situations.{situation, cost_at, Situation, broken_at, IsFeasible}
use Rattle.ra_model.proofs.BrokenLemmas.{feasible_from_unbroken}
use Rattle.ra_moves.specs.declared.steps.Step.{Step}
use Rattle.ra_moves.specs.declared.verdicts.Verdict.{Verdict}
use Rattle.ra_moves.specs.Steps.{step_at, process_in, to_in}
use Rattle.ra_moves.specs.Replacing.{after_steps, applied, after_move}
use Rattle.ra_moves.specs.Judging.{repeat_of, same_of, broken_by, verdict_of, judge}
use Rattle.ra_moves.specs.Options.{plan_of, plan_place}
use Rattle.ra_moves.proofs.Applying.{length_after}
use Rattle.ra_moves.proofs.OptionLemmas.{option_reaches, option_stands}
use Rattle.ra_guards.specs.Guards.{AreKnown}
use Rattle.ra_journal.specs.declared.entries.Entry.{Entry}
use Rattle.ra_journal.specs.Entries.{entry_at, steps_made, made_by, words, allowed}
use Rattle.ra_guards.specs.Made.{after_made}
use Rattle.ra_journal.specs.States.{state, kept_cost, cost_then, cost_of_state, state_at}
use Rattle.ra_journal.specs.Legal.{IsLegalAt, Legal}
use Rattle.ra_journal.specs.Laws.{LegalIsSound}
use Rattle.ra_journal.specs.Openings.{Opening}

-- the machines of an assignment stay in range
-- each step enters one of the first m machines
pub record Reaches (m : ℕ) (steps : List Step) : Type 0 where
  pub each : (j : ℕ) → j < length steps → to_in steps j < m

-- one process is put on a machine
machine_there : (a : List Machine) (p : ℕ) (to : Machine) → p < length a → machine_at (set a p to) p ≡ to.0
unfolding machine_at
machine_there a p to within = ap (λ m. m.0) (get_or-set_same a p to _ within)

machine_elsewhere : (a : List Machine) (q p : ℕ) (to : Machine) → p ≢ q → machine_at (set a q to) p ≡ machine_at a p
unfolding machine_at
machine_elsewhere a q p to apart = ap (λ m. m.0) (get_or-set_other a q p to _ apart)

set_below : (a : List Machine) (q p m : ℕ) (to : Machine) → p < length a → to.0 < m → machine_at a p < m →
    machine_at (set a q to) p < m
set_below a q p m to within to_below below = grind (arith, machine_there, machine_elsewhere)

after_below : (a : List Machine) (steps : List Step) (m n : ℕ) → n ≤ length steps → Reaches m steps →
    ((p : ℕ) → p < length a → machine_at a p < m) → (p : ℕ) → p < length a → machine_at (after_steps a steps n) p < m
unfolding after_steps to_in
after_below a steps m zero few reaches below p within = below p within
after_below a steps m (suc n) few reaches below p within = set_below (after_steps a steps n) (process_in steps n) p m
    (step_at steps n).to (omega (arith, length_after a steps n)) (reaches.each n few)
    (after_below a steps m n (omega arith) reaches below p within)

pub applied_fits : (i : Tables) (a : List Machine) (steps : List Step) → Reaches (machine_count i) steps →
    IsAssignment i a → IsAssignment i (applied a steps)
unfolding applied
applied_fits i a steps reaches fits = record {
  one_each = length_after a steps (length steps) ∙ fits.one_each;
  in_range = λ p within. after_below a steps (machine_count i) (length steps) (omega arith) reaches
      (λ q there. fits.in_range q (omega (arith, fits.one_each))) p (omega (arith, fits.one_each));
}

-- what is planned at an assignment enters machines of the instance
pub plan_reaches : (st : Situation) (x : List ℕ) (d : Drawing) (rise : ℕ) → WellFormed st.tables →
    IsAssignment st.tables st.here → Reaches (machine_count st.tables) (plan_of st x d rise).steps
unfolding plan_of
plan_reaches st x d rise limits fits = grind (arith, option_reaches)

-- and its processes are those of the instance
pub plan_known : (st : Situation) (x : List ℕ) (d : Drawing) (rise : ℕ) → WellFormed st.tables →
    IsAssignment st.tables st.here → AreKnown st.tables (plan_of st x d rise).steps
unfolding plan_of
plan_known st x d rise limits fits =
    let stands = option_stands st.here x (machine_count st.tables) d (plan_place st x d rise)
    (omega (arith, fits.one_each, limits.some_process)) (omega (arith, limits.some_machine)) in
    record { each = λ j within. omega (arith, stands.known j within, fits.one_each) }

-- a feasible assignment with its cost
pub record IsGood (st : Situation) (cost : ℕ) : Type 0 where
  pub assignment : IsAssignment st.tables st.here
  pub feasible : IsFeasible st
  pub kept : cost ≡ cost_at st

module _ (st : Situation) (steps : List Step) where
  -- what is not refused for a broken constraint is feasible after the move
  pub applied_good : (rise : Option Cause) → WellFormed st.tables →
      IsAssignment st.tables st.here → Reaches (machine_count st.tables) steps →
      or_else (broken_by st steps) rise ≡ None →
      IsGood (after_move st steps) (cost_at (after_move st steps))
  unfolding broken_by
  applied_good rise limits fits reaches none =
      let after = applied_fits st.tables st.here steps reaches fits in
      let unbroken : broken_at (after_move st steps) ≡ None =
      right_none (same_of steps) _ (right_none (repeat_of steps) _ (left_none _ rise none)) in
      record {
        assignment = after;
        feasible = feasible_from_unbroken st.tables st.start (applied st.here steps) limits after unbroken;
        kept = refl;
      }

  -- after a verdict
  after_cause : (cost : ℕ) (found : Option Cause) →
      (found ≡ None → IsGood (after_move st steps) (cost_at (after_move st steps))) → IsGood st cost →
      IsGood (situation st.tables st.start (after_made st.here
      (steps_made (verdict_of found (cost_at (after_move st steps))) steps)))
      (cost_then cost (verdict_of found (cost_at (after_move st steps))))
  unfolding verdict_of steps_made after_made cost_then
  after_cause cost None done before = done refl
  after_cause cost (Some cause) done before = before

  pub after_verdict : (rise cost : ℕ) (verdict : Verdict) →
      WellFormed st.tables → Reaches (machine_count st.tables) steps → verdict ≡ judge st steps rise →
      IsGood st cost →
      IsGood (situation st.tables st.start (after_made st.here (steps_made verdict steps))) (cost_then cost verdict)
  unfolding judge
  after_verdict rise cost verdict limits reaches is before = grind (arith, after_cause, applied_good)

-- the state at a place of a journal
abbrev GoodAt : Opening → List Entry → ℕ → Type 0
GoodAt o h j = IsGood (state_at o h j) (kept_cost o h j)

module _ (o : Opening) (h : List Entry) where
  next_good : (j : ℕ) → WellFormed o.tables →
      IsLegalAt o h j (entry_at h j) → GoodAt o h (entry_at h j).q → GoodAt o h j → GoodAt o h (suc j)
  unfolding state kept_cost made_by
  next_good j limits legal planned before =
      let e = entry_at h j in
      let reaches : Reaches (machine_count o.tables) e.mv.steps =
      subst (λ mv. Reaches (machine_count o.tables) mv.steps) (sym legal.planned)
      (plan_reaches (state_at o h e.q) (words o.lots e.worker e.k) o.lots.drawing (allowed o.lots e.worker e.k) limits
      planned.assignment) in
      after_verdict (state_at o h j) e.mv.steps (allowed o.lots e.worker e.k) (kept_cost o h j) e.verdict limits reaches
      legal.judged before

  start_good : IsAssignment o.tables o.start → Feasible o.tables o.start o.start →
      GoodAt o h 0
  unfolding state kept_cost
  start_good fits feasible = grind arith

  -- every state up to place j
  good_up_to : WellFormed o.tables → IsAssignment o.tables o.start →
      Feasible o.tables o.start o.start → Legal o h → (j : ℕ) → j ≤ length h → (k : ℕ) → k ≤ j → GoodAt o h k
  good_up_to limits fits feasible legal zero few k below =
      let start : 0 ≡ k = omega arith in subst (GoodAt o h) start (start_good fits feasible)
  good_up_to limits fits feasible legal (suc j) few k below = ⊎_elim
      (λ (before : k < suc j). good_up_to limits fits feasible legal j (omega arith) k (omega arith))
      (λ (after : suc j ≤ k).
      let here : suc j ≡ k = omega arith in
      let next = legal.each j few in
      let before = good_up_to limits fits feasible legal j (omega arith) in
      subst (GoodAt o h) here
      (next_good j limits next (before (entry_at h j).q next.placed.place) (before j (omega arith))))
      (cases_lt k (suc j))

pub sound : LegalIsSound
unfolding cost_of_state
sound o h limits fits feasible legal j within =
    let good = good_up_to o h limits fits feasible legal j within j (omega arith) in
    record { assignment = good.assignment; feasible = good.feasible; kept = good.kept }
