-- A move of two assignments that are alike for it changes load, balance, process and machine cost by as much in both.
use Rattle.std.proofs.Common.{◌≡◌, ℕ, ◌+◌, ◌*◌, pos, ◌-ℤ◌, Bool, true, false, List, sym, ap, ◌∙◌, ⊎_elim, arith}
use Rattle.std.proofs.lemmas.Bool.{cases_Bool}
use Rattle.std.proofs.lemmas.Int.{ints}
use Rattle.std.proofs.Math.Nat.{mul-add}
use Rattle.ra_base.specs.Sums.{total}
use Rattle.ra_base.specs.declared.ids.Machine.{Machine}
use Rattle.ra_base.proofs.Sums.{total_balance}
use Rattle.ra_model.specs.declared.raw.Tables.{Tables}
use Rattle.ra_model.specs.Numbers.{machine_count, process_count, process_weight_of, machine_weight_of}
use Rattle.ra_model.specs.Limits.{WellFormed}
use Rattle.ra_model.specs.Assignments.{tally}
use Rattle.ra_model.specs.Usage.{use_of}
use Rattle.ra_model.specs.Costs.{load_cost, balance_cost, process_share, process_cost, way_share, machine_cost}
use Rattle.ra_model.specs.MachineCosts.{machine_load, machine_balance}
use Rattle.ra_model.specs.Situations.{situation}
use Rattle.ra_model.proofs.MachineLemmas.{load_by_machine, balance_by_machine, row_load_same, row_balance_same}
use Rattle.ra_moves.specs.declared.steps.Step.{Step}
use Rattle.ra_moves.specs.Replacing.{applied}
use Rattle.ra_moves.specs.Touched.{touches_machine}
use Rattle.ra_moves.specs.Moving.{IsMove}
use Rattle.ra_moves.specs.Alike.{SameOn, HeldAlike}
use Rattle.ra_moves.specs.Weighing.{local_cost, local_change}
use Rattle.ra_moves.proofs.StayLemmas.{tally_applied, use_same}
use Rattle.ra_moves.proofs.AlikeLemmas.{same_on_after, use_alike}

-- sums change by as much, if each term is kept or is the same in both
pub total_agrees : (n : ℕ) (test : ℕ → Bool) (old_one new_one old_other new_other : ℕ → ℕ) →
    ((k : ℕ) → test k ≡ false → new_one k ≡ old_one k) → ((k : ℕ) → test k ≡ false → new_other k ≡ old_other k) →
    ((k : ℕ) → test k ≡ true → old_one k ≡ old_other k) → ((k : ℕ) → test k ≡ true → new_one k ≡ new_other k) →
    total n new_one + total n old_other ≡ total n new_other + total n old_one
total_agrees n test old_one new_one old_other new_other one_kept other_kept old_same new_same =
    total_balance n new_one old_other new_other old_one (λ k within. ⊎_elim
    (λ yes. omega (arith, old_same k yes, new_same k yes))
    (λ no. omega (arith, one_kept k no, other_kept k no))
    (cases_Bool (test k)))

weighed : (w x u y v : ℕ) → x + u ≡ y + v → w * x + w * u ≡ w * y + w * v
weighed w x u y v same = sym (mul-add w x u) ∙ ap (λ t. w * t) same ∙ mul-add w y v

module _ (i : Tables) where
  module _ (a : List Machine) (steps : List Step) (m : ℕ) where
    -- the costs of one machine
    -- on a machine that is not an end they stay
    pub load_stays : IsMove i a steps →
        touches_machine steps m ≡ false → machine_load i (applied a steps) m ≡ machine_load i a m
    unfolding machine_load
    load_stays move none =
        row_load_same i m _ _ (λ r h. use_same i a steps m r move none)

    pub balance_stays : WellFormed i → IsMove i a steps →
        touches_machine steps m ≡ false → machine_balance i (applied a steps) m ≡ machine_balance i a m
    unfolding machine_balance
    balance_stays limits move none =
        row_balance_same i m _ _ limits (λ r h. use_same i a steps m r move none)

  -- if the machine holds the same processes, they are the same
  pub load_alike : (a b : List Machine) (m : ℕ) → SameOn a b m → machine_load i a m ≡ machine_load i b m
  unfolding machine_load
  load_alike a b m same = row_load_same i m _ _ (λ r h. use_alike i a b m r same)

  pub balance_alike : (a b : List Machine) (m : ℕ) → WellFormed i → SameOn a b m →
      machine_balance i a m ≡ machine_balance i b m
  unfolding machine_balance
  balance_alike a b m limits same =
      row_balance_same i m (use_of i a m) (use_of i b m) limits (λ r h. use_alike i a b m r same)

  module _ (a b : List Machine) (steps : List Step) where
    -- each part of the cost
    pub load_change : IsMove i a steps → IsMove i b steps → HeldAlike i steps a b →
        load_cost i (applied a steps) + load_cost i b ≡ load_cost i (applied b steps) + load_cost i a
    load_change one other alike =
        let agrees = total_agrees (machine_count i) (touches_machine steps) (machine_load i a)
        (machine_load i (applied a steps))
        (machine_load i b) (machine_load i (applied b steps))
        (λ m none. load_stays a steps m one none)
        (λ m none. load_stays b steps m other none)
        (λ m ends. load_alike a b m (alike.machines m ends))
        (λ m ends. load_alike (applied a steps) (applied b steps) m
        (same_on_after i a b steps m one other (alike.machines m ends))) in
        omega (
          arith,
          agrees,
          load_by_machine i a,
          load_by_machine i b,
          load_by_machine i (applied a steps),
          load_by_machine i (applied b steps),
        )

    pub balance_change : WellFormed i → IsMove i a steps → IsMove i b steps → HeldAlike i steps a b →
        balance_cost i (applied a steps) + balance_cost i b ≡ balance_cost i (applied b steps) + balance_cost i a
    balance_change limits one other alike =
        let agrees = total_agrees (machine_count i) (touches_machine steps) (machine_balance i a)
        (machine_balance i (applied a steps)) (machine_balance i b) (machine_balance i (applied b steps))
        (λ m none. balance_stays a steps m limits one none)
        (λ m none. balance_stays b steps m limits other none)
        (λ m ends. balance_alike a b m limits (alike.machines m ends))
        (λ m ends. balance_alike (applied a steps) (applied b steps) m limits
        (same_on_after i a b steps m one other (alike.machines m ends))) in
        omega (
          arith,
          agrees,
          balance_by_machine i a,
          balance_by_machine i b,
          balance_by_machine i (applied a steps),
          balance_by_machine i (applied b steps),
        )

    -- any sum over the processes
    pub tally_change : (f : ℕ → ℕ → ℕ) → IsMove i a steps →
        IsMove i b steps → tally (process_count i) f (applied a steps) + tally (process_count i) f b ≡
        tally (process_count i) f (applied b steps) + tally (process_count i) f a
    tally_change f one other = omega (arith, tally_applied i a steps f one, tally_applied i b steps f other)

  module _ (a0 a b : List Machine) (steps : List Step) where
    pub process_change : IsMove i a steps → IsMove i b steps →
        process_cost i a0 (applied a steps) + process_cost i a0 b ≡ process_cost i a0 (applied b steps)
        + process_cost i a0 a
    unfolding process_cost
    process_change one other =
        weighed (process_weight_of i) _ _ _ _ (tally_change a b steps (process_share i a0) one other)

    pub machine_change : IsMove i a steps → IsMove i b steps →
        machine_cost i a0 (applied a steps) + machine_cost i a0 b ≡ machine_cost i a0 (applied b steps)
        + machine_cost i a0 a
    unfolding machine_cost
    machine_change one other =
        weighed (machine_weight_of i) _ _ _ _ (tally_change a b steps (way_share i a0) one other)

    module _ (limits : WellFormed i) (one : IsMove i a steps) (other : IsMove i b steps)
        (alike : HeldAlike i steps a b) where
      -- all four together
      pub local_balance : local_cost (situation i a0 (applied a steps)) + local_cost (situation i a0 b) ≡ local_cost
          (situation i a0 (applied b steps)) + local_cost (situation i a0 a)
      unfolding local_cost
      local_balance =
          omega (
            arith,
            load_change a b steps one other alike,
            balance_change a b steps limits one other alike,
            process_change one other,
            machine_change one other,
          )

      pub change_same : local_change (situation i a0 a) steps ≡ local_change (situation i a0 b) steps
      unfolding local_change
      change_same = signed (local_cost _)
          (local_cost _)
          (local_cost _) (local_cost _)
          (local_balance)
        where
          signed : (x u y v : ℕ) → x + v ≡ y + u → (pos x -ℤ pos u) ≡ (pos y -ℤ pos v)
          signed x u y v same = omega (arith, ints)
