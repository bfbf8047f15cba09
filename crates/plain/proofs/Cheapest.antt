-- The first option of least cost, one option after another.
use Rattle.std.proofs.Common.{◌≡◌, ℕ, zero, suc, ◌+◌, ◌-◌, ◌<◌, ◌≤◌, Bool, true, false, cond, List, Option, Some, None, refl, sym, ap, ◌∙◌, arith}
use Rattle.ra_base.specs.Searches.{is_better, least, least_place}
use Rattle.ra_base.specs.declared.ids.Machine.{Machine}
use Rattle.ra_base.specs.declared.causes.Drawing.{Drawing}
use Rattle.ra_base.proofs.Least.{least_place_more}
use Rattle.ra_model.specs.declared.raw.Tables.{Tables}
use Rattle.ra_model.specs.Numbers.{machine_count}
use Rattle.ra_model.specs.Situations.{situation, Situation}
use Rattle.ra_moves.specs.Judging.{judge}
use Rattle.ra_moves.specs.Options.{option_at, option_cost, done_cost}
use Rattle.plain.specs.declared.planning.Planned.{Planned}

-- an answer that isn't better than none isn't there
not_there : (x : Option ℕ) → is_better x None ≡ false → x ≡ None
unfolding is_better
not_there None worse = refl
not_there (Some x) worse = absurd (cc)

-- the answer at the one place or at the other
kept_or_new : (better : Bool) (n p : ℕ) (f : ℕ → Option ℕ) (so_far : Option ℕ) → so_far ≡ f p →
    cond better (f n) so_far ≡ f (cond better n p)
kept_or_new true n p f so_far is = refl
kept_or_new false n p f so_far is = is

-- the least of some answers is the one at its place, there or not
pub least_at_place : (n : ℕ) (f : ℕ → Option ℕ) → least (suc n) f ≡ f (least_place (suc n) f)
unfolding least least_place
least_at_place zero f = by_test (is_better (f 0) None) refl
  where
    by_test : (better : Bool) → is_better (f 0) None ≡ better → cond better (f 0) None ≡ f (cond better 0 0)
    by_test true is = refl
    by_test false is = sym (not_there (f 0) is)
least_at_place (suc n) f = kept_or_new (is_better (f (suc n)) (least (suc n) f)) (suc n) (least_place (suc n) f) f
    (least (suc n) f) (least_at_place n f)

pub least_at : (n : ℕ) (f : ℕ → Option ℕ) → 0 < n → least n f ≡ f (least_place n f)
least_at zero f some = absurd (omega arith)
least_at (suc n) f some = least_at_place n f

-- option k of assignment a, with the verdict on it
pub record IsOption (st : Situation) (x : List ℕ) (d : Drawing) (allowed k : ℕ) (planned : Planned) :
    Type 0 where
  pub move : planned.mv ≡ option_at st.here x (machine_count st.tables) d k
  pub verdict : planned.verdict ≡ judge st planned.mv.steps allowed

-- its cost
cost_is : (st : Situation) (x : List ℕ) (d : Drawing) (allowed k : ℕ) (planned : Planned) →
    IsOption st x d allowed k planned → done_cost planned.verdict ≡ option_cost st x d allowed k
unfolding option_cost
cost_is st x d allowed k planned is = rw (is.verdict, is.move) refl

-- one option more
pub cheapest_more : (st : Situation) (x : List ℕ) (d : Drawing) (allowed n : ℕ)
    (best next : Planned) → 0 < n → IsOption st x d allowed
    (least_place n (option_cost st x d allowed)) best →
    IsOption st x d allowed n next →
    IsOption st x d allowed (least_place (n + 1) (option_cost st x d allowed))
    (cond (is_better (done_cost next.verdict) (done_cost best.verdict)) next best)
cheapest_more st x d allowed n best next some best_is next_is =
    let f : ℕ → Option ℕ = option_cost st x d allowed in
    let so_far : done_cost best.verdict ≡ least n f = cost_is _ _ _ _ _ _ best_is ∙ sym (least_at n f some) in
    let here : done_cost next.verdict ≡ f n = cost_is _ _ _ _ _ _ next_is in
    rw (so_far, here, least_place_more n f) (by_test (is_better (f n) (least n f)))
  where
    by_test : (better : Bool) →
        IsOption st x d allowed (cond better n (least_place n (option_cost st x d allowed)))
        (cond better next best)
    by_test true = next_is
    by_test false = best_is

-- the first place is where the search starts
one_place : (better : Bool) (n : ℕ) → cond better n n ≡ n
one_place true n = refl
one_place false n = refl

pub first_place : (f : ℕ → Option ℕ) → least_place 1 f ≡ 0
unfolding least_place
first_place f = one_place (is_better (f 0) (least 0 f)) 0

-- what is resolved, and judged on an assignment that equals a, over m machines
pub option_is : (i : Tables) (a0 a b : List Machine) (x : List ℕ) (d : Drawing) (allowed m k : ℕ) (planned : Planned) →
    m ≡ machine_count i → b ≡ a → planned.mv ≡ option_at a x m d k →
    planned.verdict ≡ judge (situation i a0 b) planned.mv.steps allowed →
    IsOption (situation i a0 a) x d allowed k planned
option_is i a0 a b x d allowed m k planned machines same move verdict = record {
  move = rw machines at move;
  verdict = rw same at verdict;
}
