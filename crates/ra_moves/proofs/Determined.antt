-- In two assignments that break nothing and are alike for a move, its weighing is the same.
use Rattle.std.proofs.Common.{◌≡◌, ℕ, ℤ, List, Option, Some, None, refl, ap, ◌∙◌}
use Rattle.ra_base.specs.Searches.{or_else}
use Rattle.ra_base.specs.declared.causes.Cause.{Cause}
use Rattle.ra_base.specs.declared.costs.MovedCount.{MovedCount}
use Rattle.ra_base.specs.declared.ids.Machine.{Machine}
use Rattle.ra_model.specs.declared.raw.Tables.{Tables}
use Rattle.ra_model.specs.Limits.{WellFormed}
use Rattle.ra_model.specs.Broken.{first_broken}
use Rattle.ra_model.specs.Situations.{situation}
use Rattle.ra_model.proofs.BrokenLemmas.{fine_from_unbroken}
use Rattle.ra_moves.specs.declared.steps.Step.{Step}
use Rattle.ra_moves.specs.declared.verdicts.Weighed.{Weighed}
use Rattle.ra_moves.specs.Replacing.{applied}
use Rattle.ra_moves.specs.Judging.{repeat_of, same_of, broken_by}
use Rattle.ra_moves.specs.Moving.{IsOffered}
use Rattle.ra_moves.specs.Alike.{HeldAlike}
use Rattle.ra_moves.specs.Weighing.{local_change, changed_count, weighed_by, weighed_of}
use Rattle.ra_moves.specs.Laws.{WeighingIsDetermined}
use Rattle.ra_moves.proofs.CauseLemmas.{BothMove, broken_same}
use Rattle.ra_moves.proofs.ChangeLemmas.{change_same}
use Rattle.ra_moves.proofs.CountLemmas.{counts_same}

-- what a weighing is made of is the same
record SameParts (broken other_broken : Option Cause) (local other_local : ℤ)
    (counts other_counts : ℕ → Option MovedCount) : Type 0 where
  causes : broken ≡ other_broken
  changes : local ≡ other_local
  moved : (k : ℕ) → counts k ≡ other_counts k

weighed_whole : (local other_local : ℤ) (counts other_counts : ℕ → Option MovedCount) → local ≡ other_local →
    ((k : ℕ) → counts k ≡ other_counts k) → weighed_by None local counts ≡ weighed_by None other_local other_counts
unfolding weighed_by
weighed_whole local other_local counts other_counts changes moved =
    ap (λ z. let w : Weighed = record {
      broken = None;
      local = z;
      first = counts 0;
      second = counts 1;
      third = counts 2;
    } in w) changes
    ∙ ap (λ x. let w : Weighed = record {
      broken = None;
      local = other_local;
      first = x;
      second = counts 1;
      third = counts 2;
    } in w) (moved 0)
    ∙ ap (λ x. let w : Weighed = record {
      broken = None;
      local = other_local;
      first = other_counts 0;
      second = x;
      third = counts 2;
    } in w) (moved 1)
    ∙ ap (λ x. let w : Weighed = record {
      broken = None;
      local = other_local;
      first = other_counts 0;
      second = other_counts 1;
      third = x;
    } in w) (moved 2)

-- if a cause is there, nothing else is told
weighed_as : (broken : Option Cause) (local other_local : ℤ) (counts other_counts : ℕ → Option MovedCount) →
    local ≡ other_local → ((k : ℕ) → counts k ≡ other_counts k) →
    weighed_by broken local counts ≡ weighed_by broken other_local other_counts
unfolding weighed_by
weighed_as None local other_local counts other_counts changes moved =
    weighed_whole local other_local counts other_counts changes moved
weighed_as (Some cause) local other_local counts other_counts changes moved = refl

weighed_same : (broken other_broken : Option Cause) (local other_local : ℤ) (counts other_counts : ℕ →
    Option MovedCount) → SameParts broken other_broken local other_local counts other_counts →
    weighed_by broken local counts ≡ weighed_by other_broken other_local other_counts
weighed_same broken other_broken local other_local counts other_counts same =
    ap (λ c. weighed_by c local counts) same.causes
    ∙ weighed_as other_broken local other_local counts other_counts same.changes same.moved

-- a move that names a process twice is refused for that, and another is weighed
unless_repeated : (repeated broken other_broken : Option Cause) (local other_local : ℤ) (counts other_counts : ℕ →
    Option MovedCount) → (repeated ≡ None → SameParts broken other_broken local other_local counts other_counts) →
    weighed_by (or_else repeated broken) local counts ≡ weighed_by
    (or_else repeated other_broken) other_local other_counts
unfolding or_else weighed_by
unless_repeated None broken other_broken local other_local counts other_counts same =
    weighed_same broken other_broken local other_local counts other_counts (same refl)
unless_repeated (Some cause) broken other_broken local other_local counts other_counts same = refl

module _ (i : Tables) (a0 a b : List Machine) (steps : List Step) where
  pub both_move : IsOffered i a steps → IsOffered i b steps → first_broken i a0 a ≡ None → first_broken i a0 b ≡ None →
      HeldAlike i steps a b → repeat_of steps ≡ None → BothMove i a0 a b steps
  both_move one other one_fine other_fine alike once = record {
    one = one once;
    other = other once;
    one_fine = fine_from_unbroken i a0 a one_fine;
    other_fine = fine_from_unbroken i a0 b other_fine;
    alike = alike;
  }

  same_parts : WellFormed i → BothMove i a0 a b steps →
      SameParts (or_else (same_of steps) (first_broken i a0 (applied a steps)))
      (or_else (same_of steps) (first_broken i a0 (applied b steps))) (local_change (situation i a0 a) steps)
      (local_change (situation i a0 b) steps) (changed_count (situation i a0 a) steps)
      (changed_count (situation i a0 b) steps)
  same_parts limits both = record {
    causes = ap (or_else _) (broken_same i a0 a b steps both);
    changes = change_same i a0 a b steps limits both.one both.other both.alike;
    moved = λ k. counts_same i a0 a b steps k both.one both.other both.alike;
  }

pub weighing_is_determined : WeighingIsDetermined
unfolding weighed_of broken_by
weighing_is_determined i a0 a b steps limits one other one_fine other_fine alike =
    unless_repeated _ _
    _ _
    _ _
    _
    (λ once. same_parts i a0 a b steps limits (both_move i a0 a b steps one other one_fine other_fine alike once))
