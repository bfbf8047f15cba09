-- What is chosen is the first of least cost.
use Rattle.std.proofs.Common.{◌≡◌, ℕ, suc, ◌+◌, ◌<◌, ◌≤◌, length, Option, Some, None, refl, arith}
use Rattle.ra_base.specs.Searches.{least_place, IsLeast}
use Rattle.ra_base.proofs.Least.{least_means, least_none_from, least_there}
use Rattle.ra_model.specs.Numbers.{machine_count}
use Rattle.ra_model.specs.Situations.{situation}
use Rattle.ra_moves.specs.Options.{option_count, option_cost, plan_place, plan_of}
use Rattle.ra_journal.specs.States.{cost_of_state}
use Rattle.ra_journal.specs.Best.{best_place, best_of}
use Rattle.ra_repair.specs.Runs.{try_count, option_penalty, chosen}
use Rattle.ra_laws.specs.LeastLaws.{IsChosen, PlanIsLeast, BestIsLeast, ChoiceIsLeast}

first_least : (n : ℕ) (f : ℕ → Option ℕ) → IsChosen n f (least_place n f)
first_least n f = record {
  some = λ k x within given. let there = least_there n k x f within given in (there.0, least_means n there.0 f there.1);
  none = λ nones. (least_none_from n f nones).1;
}

-- if each place has a value, the least one is that of its place
least_of_all : (n : ℕ) (cost : ℕ → ℕ) → IsLeast (suc n) (λ j. Some (cost j)) (least_place (suc n) (λ j. Some (cost j)))
    (cost (least_place (suc n) (λ j. Some (cost j))))
least_of_all n cost =
    let f = λ (j : ℕ). Some (cost j) in
    let p = least_place (suc n) f in
    let there = least_there (suc n) 0 (cost 0) f (omega arith) refl in
    let found = least_means (suc n) there.0 f there.1 in
    let given : Some (cost p) ≡ Some there.0 = found.answer in
    let same : cost p ≡ there.0 = cc in
    record {
      below = found.below;
      answer = refl;
      smallest = λ k x within is. omega (arith, found.smallest k x within is, same);
      earliest = λ k x before is. omega (arith, found.earliest k x before is, same);
    }

pub plan_is_least : PlanIsLeast
unfolding plan_of plan_place
plan_is_least i a0 a x d allowed = (
  least_place (option_count x (machine_count i) d) (option_cost (situation i a0 a) x d allowed),
  refl,
  first_least _
      _,
)

pub best_is_least : BestIsLeast
unfolding best_of best_place
best_is_least o h = least_of_all (length h) (cost_of_state o h)

pub choice_is_least : ChoiceIsLeast
unfolding chosen
choice_is_least i a0 a x = (least_place (try_count i x) (option_penalty i a0 a x), refl, first_least _ _)
