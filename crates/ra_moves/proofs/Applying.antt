-- A move all at once is the move step by step, and the way back gives the assignment back.
use Rattle.std.proofs.Common.{◌≡◌, ◌≢◌, ℕ, zero, suc, ◌+◌, ◌<◌, ◌≤◌, List, length, set, sym, refl, ap, ◌∙◌, ⊎_elim, add-one, arith}
use Rattle.std.proofs.Math.ListN.{get_or-map}
use Rattle.std.proofs.lemmas.List.{ext_get_or, get_or-set_other, get_or-set_same, length-map, length-set}
use Rattle.std.proofs.lemmas.Bool.{cases_lt, cases_Bool, both_ways}
use Rattle.ra_base.specs.Sums.{is_named}
use Rattle.ra_base.specs.declared.ids.Machine.{Machine}
use Rattle.ra_base.proofs.Named.{is_named_at, is_named_from}
use Rattle.ra_model.specs.Assignments.{machine_at}
use Rattle.ra_moves.specs.declared.steps.Step.{Step}
use Rattle.ra_moves.specs.Steps.{step_at, process_in, from_in, to_in, StandsAt, Distinct}
use Rattle.ra_moves.specs.Replacing.{Applied, after_steps, applied, turned_step, turned}

-- one machine is replaced
machine_same : (a : List Machine) (p : ℕ) (m : Machine) → p < length a → machine_at (set a p m) p ≡ m.0
unfolding machine_at
machine_same a p m within = ap (λ n. n.0) (get_or-set_same a p m _ within)

machine_other : (a : List Machine) (p q : ℕ) (m : Machine) → q ≢ p → machine_at (set a p m) q ≡ machine_at a q
unfolding machine_at
machine_other a p q m apart = ap (λ n. n.0) (get_or-set_other a p q m _ apart)

-- assignments with the same machines are one
same_machines : (a b : List Machine) → length a ≡ length b →
    ((p : ℕ) → p < length a → machine_at a p ≡ machine_at b p) → a ≡ b
unfolding machine_at
same_machines a b same each = let as_machine : ℕ → Machine = λ n. record { 0 = n } in
    ext_get_or _ a b same (λ p within. ap as_machine (each p within))

-- the way back
length_turned : (steps : List Step) → length (turned steps) ≡ length steps
unfolding turned
length_turned steps = length-map steps turned_step

module _ (a : List Machine) (steps : List Step) where
  -- the first n steps
  pub after_none : after_steps a steps 0 ≡ a
  unfolding after_steps
  after_none = refl

  pub length_after : (n : ℕ) → length (after_steps a steps n) ≡ length a
  unfolding after_steps
  length_after zero = refl
  length_after (suc n) = length-set _ _ _ ∙ length_after n

  -- a process that isn't named stays
  pub after_stayed : (n p : ℕ) → ((j : ℕ) → j < n → process_in steps j ≢ p) →
      machine_at (after_steps a steps n) p ≡ machine_at a p
  unfolding after_steps
  after_stayed zero p apart = refl
  after_stayed (suc n) p apart =
      machine_other _ _ p _ (λ same. apart n (omega arith) (sym same))
      ∙ after_stayed n p (λ j before. apart j (omega arith))

  -- a process that is named once goes where its step leads
  pub after_moved : (n : ℕ) → n ≤ length steps → Distinct steps →
      ((j : ℕ) → j < length steps → process_in steps j < length a) → (j : ℕ) → j < n →
      machine_at (after_steps a steps n) (process_in steps j) ≡ to_in steps j
  unfolding after_steps to_in
  after_moved zero few distinct known j before = absurd (omega arith)
  after_moved (suc n) few distinct known j before = ⊎_elim
      (λ earlier. machine_other _ _ _ _
      (distinct.apart j n earlier (omega arith)) ∙ after_moved n (omega arith) distinct known j earlier)
      (λ not_earlier.
      let here : j ≡ n = omega arith in
      let within : process_in steps n < length (after_steps a steps n) =
      omega (arith, length_after n, known n (omega arith)) in
      rw here (machine_same _ (process_in steps n) (step_at steps n).to within))
      (cases_lt j n)

  -- all at once
  -- step by step is all at once, if no process is named twice
  pub applied_at_once : Distinct steps →
      ((j : ℕ) → j < length steps → process_in steps j < length a) → Applied steps a (applied a steps)
  unfolding applied
  applied_at_once distinct known = record {
    same_length = length_after _;
    moved = λ j within. after_moved _ (omega arith) distinct known j within;
    stayed = λ p apart. after_stayed _ p apart;
  }

  pub back_all : applied a (turned steps) ≡ after_steps a (turned steps) (length steps)
  unfolding applied
  back_all = rw (length_turned steps)

-- what the loops of `apply` and `undo` read and write at a step s
pub reaches : (place : List Step → ℕ → ℕ) (a b : List Machine) (steps others : List Step) (i : ℕ) (s : Step) →
    StandsAt place steps a → i < length steps → s ≡ step_at steps i → b ≡ after_steps a others i →
    s.process.0 < length b
unfolding process_in
reaches place a b steps others i s stands within is made =
    rw (is, made) (omega (arith, length_after a others i, stands.known i within))

-- there is one outcome
pub applied_once : (steps : List Step) (a b c : List Machine) → Applied steps a b → Applied steps a c → b ≡ c
applied_once steps a b c one other = same_machines b c (one.same_length ∙ sym other.same_length) (λ p within. ⊎_elim
    (λ named.
    let found = is_named_from (length steps) _ p named in
    ap (machine_at b) (sym found.2) ∙ (one.moved found.0 found.1) ∙ sym (other.moved found.0 found.1) ∙ ap
    (machine_at c) found.2)
    (λ unnamed.
    let apart = λ (j : ℕ) (h : j < length steps) (e : process_in steps j ≡ p).
    both_ways _ unnamed
    (is_named_at _ j (process_in steps) p h e) in
    one.stayed p apart ∙ sym (other.stayed p apart))
    (cases_Bool (is_named _ _ p)))

-- what going back means
pub record Back (steps : List Step) (old new : List Machine) : Type 0 where
  pub at_from : StandsAt from_in steps new
  pub was : old ≡ applied new steps
  pub gives_back : (before : List Machine) → StandsAt from_in steps before → old ≡ applied before steps → new ≡ before

module _ (steps : List Step) where
  module _ (j : ℕ) where
    step_turned : step_at (turned steps) j ≡ turned_step (step_at steps j)
    unfolding turned turned_step step_at
    step_turned = get_or-map turned_step steps j _

    process_turned : process_in (turned steps) j ≡ process_in steps j
    unfolding process_in turned_step
    process_turned = ap (λ s. s.process.0) (step_turned)

    to_turned : to_in (turned steps) j ≡ from_in steps j
    unfolding to_in from_in turned_step
    to_turned = ap (λ s. s.to.0) (step_turned)

  distinct_turned : Distinct steps → Distinct (turned steps)
  distinct_turned distinct = record {
    apart = λ i j before within. rw (process_turned i, process_turned j)
        (distinct.apart i j before (rw (length_turned steps) at within));
  }

  turned_back : (old : List Machine) → Distinct steps → StandsAt to_in steps old →
      Applied (turned steps) old (applied old (turned steps))
  turned_back old distinct stands = applied_at_once old (turned steps) (distinct_turned distinct)
      (λ j within. rw (process_turned j) (stands.known j (rw (length_turned steps) at within)))

  pub back : (old new : List Machine) → Distinct steps → StandsAt to_in steps old →
      new ≡ applied old (turned steps) → Back steps old new
  back old new distinct stands is =
      let done : Applied (turned steps) old new = rw is (turned_back old distinct stands) in
      let moved : (j : ℕ) → j < length steps → machine_at new _ ≡ from_in steps j =
      λ j within. ap (machine_at new) (sym (process_turned j)) ∙ done.moved j (rw (length_turned steps) within)
      ∙ to_turned j in
      let stayed : (p : ℕ) → ((j : ℕ) → j < length steps → process_in steps j ≢ p) →
      machine_at new p ≡ machine_at old p =
      λ p apart. done.stayed p
      (λ j within. rw (process_turned j) (apart j (rw (length_turned steps) at within))) in
      let known : (j : ℕ) → j < length steps → process_in steps j < length new =
      λ j within. omega (arith, done.same_length, stands.known j within) in
      record {
        at_from = record { known = known; at = moved };
        was = applied_once steps new old _ (record {
          same_length = sym done.same_length;
          moved = stands.at;
          stayed = λ p apart. sym (stayed p apart);
        }) (applied_at_once new steps distinct known);
        gives_back = λ before stood was.
            let forth : Applied steps before old = rw was (applied_at_once before steps distinct stood.known) in
            applied_once (turned steps) old new before done (record {
              same_length = sym forth.same_length;
              moved = λ j within. rw (process_turned j, to_turned j)
                  (stood.at j (rw (length_turned steps) at within));
              stayed = λ p apart.
                  sym (forth.stayed p
                  (λ j within same. apart j (rw (length_turned steps) within) (process_turned j ∙ same)));
            });
      }

module _ (a b : List Machine) (steps : List Step) (i : ℕ) (s : Step) (is : s ≡ step_at steps i) where
  pub applied_more : b ≡ after_steps a steps i → set b s.process.0 s.to ≡ after_steps a steps (i + 1)
  unfolding after_steps process_in
  applied_more made = rw (add-one, is, made) refl

  -- what the loop of `undo` makes, by number
  pub back_more : b ≡ after_steps a (turned steps) i → set b s.process.0 s.from ≡ after_steps a (turned steps) (i + 1)
  unfolding after_steps process_in turned_step
  back_more made = rw (add-one, process_turned steps i, step_turned steps i, is, made) refl
