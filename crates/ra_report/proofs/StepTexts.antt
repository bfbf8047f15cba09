-- The words of the last steps of a move.
use Rattle.std.proofs.Common.{◌≡◌, ℕ, ◌+◌, ◌-◌, ◌*◌, ◌≤◌, ◌<◌, List, ◌++◌, length, drop, get_or, arith, add-one}
use Rattle.std.proofs.Math.Seq.{drop-cons, drop-length}
use Rattle.ra_moves.specs.declared.steps.Step.{Step}
use Rattle.ra_report.specs.Lines.{Prepends}
use Rattle.ra_report.proofs.LineLemmas.{in_front, at_most, nothing}
use Rattle.ra_report.specs.JournalTexts.{step_word, steps_text}

pub no_steps_left : (line : List ℕ) (steps : List Step) (n : ℕ) → n ≡ length steps →
    Prepends line line (steps_text (drop n steps)) (63 * (length steps - n))
unfolding steps_text
no_steps_left line steps n all = rw (all, drop-length) (at_most _ (omega arith) (nothing line))

steps_more : (steps : List Step) (i : ℕ) (d : Step) → i < length steps →
    steps_text (drop i steps) ≡ step_word (get_or steps i d) ++ steps_text (drop (i + 1) steps)
unfolding steps_text
steps_more steps i d within = grind (arith, add-one, drop-cons)

-- one step more in front
pub one_step_more : {a b c : List ℕ} (steps : List Step) (i n : ℕ) (d : Step) → n ≡ i + 1 → n ≤ length steps
    → Prepends a b (steps_text (drop n steps)) (63 * (length steps - n)) →
    Prepends b c (step_word (get_or steps i d)) 63
    → Prepends a c (steps_text (drop i steps)) (63 * (length steps - i))
one_step_more steps i n d next within before more =
    let some : i < length steps = omega arith in
    rw (steps_more steps i d some, ← next) (at_most _ (omega arith) (in_front before more))

-- a move has at most three
pub steps_within : {a b : List ℕ} (steps : List Step) (n : ℕ) → n ≡ 0 → length steps ≤ 3 →
    Prepends a b (steps_text (drop n steps)) (63 * (length steps - n)) → Prepends a b (steps_text steps) 189
steps_within steps n none few before = at_most _ (omega arith) (rw none at before)
