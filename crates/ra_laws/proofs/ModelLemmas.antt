-- No constraint is named as broken exactly if all are met; and a count may go over the members of a service alone.
use Rattle.std.proofs.Common.{◌≡◌, ℕ, ◌<◌, Bool, List, length, get_or, sym, ap, ◌∙◌}
use Rattle.ra_base.specs.Sums.{count, pick}
use Rattle.ra_base.specs.declared.ids.Machine.{Machine}
use Rattle.ra_model.specs.declared.raw.Tables.{Tables}
use Rattle.ra_model.specs.Numbers.{process_count}
use Rattle.ra_model.specs.Assignments.{machine_at}
use Rattle.ra_model.specs.Services.{is_of, members_at}
use Rattle.ra_laws.specs.ModelLaws.{BrokenNamesAll}
use Rattle.ra_base.proofs.Counts.{count_same}
use Rattle.ra_base.proofs.Picks.{pick_count, pick_length}
use Rattle.ra_model.proofs.BrokenLemmas.{feasible_from_unbroken, unbroken_from_feasible}
use Rattle.ra_model.proofs.TallyLemmas.{members_count}

pub unbroken_is_feasible : BrokenNamesAll
unbroken_is_feasible i a0 a limits fits = (feasible_from_unbroken i a0 a limits fits, unbroken_from_feasible i a0 a)

-- and a count over the members alone, if g lists them
pub members_listed : (i : Tables) (a : List Machine) (s : ℕ) (test : ℕ → ℕ → Bool) (n : ℕ) (g : ℕ → ℕ) →
    n ≡ count (process_count i) (is_of i s) →
    ((j : ℕ) → j < n → g j ≡ get_or (pick (process_count i) (is_of i s)) j 0) →
    members_at i a s test ≡ count n (λ j. test (g j) (machine_at a (g j)))
members_listed i a s test n g as_many listed =
    let members = pick (process_count i) (is_of i s) in
    let all : length members ≡ n = pick_length (process_count i) (is_of i s) ∙ sym as_many in
    members_count i a s test
    ∙ sym (pick_count (process_count i) (is_of i s) (λ p. test p (machine_at a p)))
    ∙ ap (λ k. count k (λ j. test (get_or members j 0) (machine_at a (get_or members j 0)))) all
    ∙ count_same n (λ j. test (get_or members j 0) (machine_at a (get_or members j 0)))
    (λ j. test (g j) (machine_at a (g j))) (λ j h. ap (λ p. test p (machine_at a p)) (sym (listed j h)))
