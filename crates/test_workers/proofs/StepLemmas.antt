-- A step of the core keeps a legal journal legal, and the places within its length.
use Rattle.std.proofs.Common.{◌≡◌, ℕ, ◌+◌, ◌-◌, ◌<◌, ◌≤◌, min, false, ◌||◌, List, set, get_or, length, sym, ◌∙◌, subst, ⊎_elim, arith}
use Rattle.std.proofs.lemmas.Bool.{cond_both, or_parts, cases_eq}
use Rattle.std.proofs.lemmas.List.{length-set, get_or-set_same, get_or-set_other}
use Rattle.ra_draws.specs.declared.budgets.Lots.{Lots}
use Rattle.ra_model.specs.Limits.{WellFormed}
use Rattle.ra_model.specs.Assignments.{IsAssignment}
use Rattle.ra_model.specs.Feasible.{Feasible}
use Rattle.ra_journal.specs.declared.entries.Entry.{Entry}
use Rattle.ra_journal.specs.Entries.{worker_count}
use Rattle.ra_journal.specs.Laws.{MayCommit}
use Rattle.ra_journal.specs.Legal.{Legal}
use Rattle.ra_journal.specs.Openings.{Opening}
use Rattle.ra_journal.proofs.CommitLemmas.{committed_legal}
use Rattle.ra_worker.specs.Skipping.{has_used, is_behind, is_skipped}
use Rattle.ra_worker.proofs.TurnLemmas.{seen_before, some_left}
use Rattle.ra_worker.specs.declared.events.CoreEvent.TheVariants.{CatchUp, Commit}
use Rattle.ra_worker.specs.Core.{core_place_of, Turn, answered, turn, caught_up, handed_in, step, worker_of_event}
use Rattle.ra_worker.proofs.CoreLemmas.{turn_longer}
use Rattle.test_workers.specs.Laws.{StepKeepsLegal, StepKeepsPlaces}

-- a worker that is not skipped may hand in
pub may_hand_in : (l : Lots) (h : List Entry) (w q : ℕ) → w < worker_count l → q ≤ length h → has_used l h w ≡ false →
    is_behind h w q ≡ false → MayCommit l h w q
may_hand_in l h w q exists within unused not_behind = record {
  worker = exists;
  left = some_left l h w unused;
  place = within;
  seen = seen_before h w q not_behind;
}

-- a worker's turn keeps the journal legal
turn_legal : (o : Opening) (h : List Entry) (w q : ℕ) → WellFormed o.tables → IsAssignment o.tables o.start →
    Feasible o.tables o.start o.start → Legal o h → w < worker_count o.lots → q ≤ length h →
    Legal o (turn o h w q).journal
unfolding turn answered is_skipped
turn_legal o h w q limits fits feasible legal exists within =
    cond_both (has_used o.lots h w || is_behind h w q) _ _ (λ (t : Turn). Legal o t.journal)
    (λ skipped. legal)
    (λ handed. let parts = or_parts (has_used o.lots h w) (is_behind h w q) handed in
    committed_legal o h w q limits fits feasible legal (may_hand_in o.lots h w q exists within parts.0 parts.1))

-- and so does each step
pub step_legal : StepKeepsLegal
unfolding step caught_up handed_in worker_of_event
step_legal o c (CatchUp w) limits fits feasible legal within exists = legal
step_legal o c (Commit w) limits fits feasible legal within exists =
    turn_legal o c.journal w (core_place_of c w) limits fits feasible legal exists (within.each w exists)

-- a place that is set
place_set : (places : List ℕ) (w v p n : ℕ) → w < length places → p ≤ n → get_or places v 0 ≤ n →
    get_or (set places w p) v 0 ≤ n
place_set places w v p n there set_within within = ⊎_elim
    (λ (here : v ≡ w). subst (λ k. get_or (set places w p) k 0 ≤ n) (sym here)
    (omega (arith, get_or-set_same places w p 0 there)))
    (λ (apart : v ≡ w → ⊥). omega (arith, get_or-set_other places w v p 0 apart))
    (cases_eq v w)

more_within : (place long : ℕ) → place ≤ long → place + min 1024 (long - place) ≤ long
more_within place long within = omega arith

pub step_within : StepKeepsPlaces
unfolding step caught_up handed_in worker_of_event core_place_of
step_within o c (CatchUp w) within exists = record {
  one_each = length-set c.places w _ ∙ within.one_each;
  each = λ v there. place_set c.places w v _ (length c.journal) (omega (arith, within.one_each))
      (more_within (get_or c.places w 0) (length c.journal) (within.each w exists)) (within.each v there);
}
step_within o c (Commit w) within exists = record {
  one_each = within.one_each;
  each = λ v there. omega (arith, within.each v there, turn_longer o c.journal w (get_or c.places w 0));
}
