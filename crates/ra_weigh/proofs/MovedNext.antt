-- The moved count of a service step by step, and the list of the counts.
use Rattle.std.proofs.Common.{◌≡◌, ◌≢◌, ℕ, zero, suc, ◌+◌, ◌<◌, ◌≤◌, Bool, true, false, cond, eqb, not, List, [], ◌∷◌, ◌++◌, length, get_or, set, Option, Some, None, refl, sym, ap, ◌∙◌, ⊎_elim, add-one, arith, eq-eqb, get_or-set_same, get_or-set_other, length-append}
use Rattle.std.proofs.lemmas.Bool.{cases_lt, cases_eq}
use Rattle.std.proofs.lemmas.List.{get_or_append_left}
use Rattle.std.proofs.Math.Seq.{get_or-append_seam}
use Rattle.ra_base.specs.Sums.{one_if, is_named}
use Rattle.ra_base.specs.declared.costs.MovedCount.{MovedCount}
use Rattle.ra_base.specs.declared.ids.Machine.{Machine}
use Rattle.ra_base.specs.declared.ids.Service.{Service}
use Rattle.ra_base.proofs.Counts.{one_if_le}
use Rattle.ra_model.specs.declared.raw.Tables.{Tables}
use Rattle.ra_model.specs.Numbers.{service_of}
use Rattle.ra_model.specs.Limits.{WellFormed}
use Rattle.ra_model.specs.Assignments.{machine_at}
use Rattle.ra_model.specs.Services.{is_of, of_service, members_at, moved_of}
use Rattle.ra_model.specs.Situations.{Situation, situation, moved_at}
use Rattle.ra_model.proofs.BoundLemmas.{moved_within}
use Rattle.ra_cells.specs.Marks.{away}
use Rattle.ra_moves.specs.declared.steps.Step.{Step}
use Rattle.ra_moves.specs.Steps.{process_in, from_in, to_in}
use Rattle.ra_moves.specs.Replacing.{after_steps, applied}
use Rattle.ra_moves.specs.Touched.{service_in}
use Rattle.ra_moves.specs.Weighing.{moved_count, services_moved, count_at}
use Rattle.ra_moves.specs.Moving.{MayMove}
use Rattle.ra_moves.proofs.StayLemmas.{of_other}
use Rattle.ra_moves.proofs.MovedServices.{services_none, services_new, services_again, services_few, count_there, count_past}
use Rattle.ra_weigh.specs.CountLists.{AreCountsOf}
use Rattle.ra_weigh.proofs.MoveLemmas.{tally_next}

-- a process of the service is counted if it isn't at home
away_is : (b : Bool) → one_if (cond b false true) ≡ one_if (not b)
away_is true = refl
away_is false = refl

mine_is : (i : Tables) (a0 : List Machine) {s : ℕ} (p at : ℕ) → service_of i p ≡ s →
    of_service i s (λ q m. cond (eqb (machine_at a0 q) m) false true) p at ≡ away (machine_at a0 p) at
unfolding of_service is_of away
mine_is i a0 {s} p at is = rw (eq-eqb (service_of i p) s is) (away_is (eqb (machine_at a0 p) at))

pub away_few : (home at : ℕ) → away home at ≤ 1
unfolding away
away_few home at = one_if_le _

pub moved_few : (st : Situation) (s moved : ℕ) → WellFormed st.tables → moved ≡ moved_at st s →
    moved ≤ 50000
moved_few st s moved limits is = omega (arith, is, moved_within st.tables st.start st.here s, limits.few_processes)

-- the list of counts

nothing_at : (k : ℕ) → get_or {A = Option MovedCount} (None ∷ None ∷ None ∷ []) k None ≡ None
nothing_at zero = refl
nothing_at (suc zero) = refl
nothing_at (suc (suc zero)) = refl
nothing_at (suc (suc (suc k))) = refl

module _ (i : Tables) (steps : List Step) where
  pub filled_none : 0 ≡ length (services_moved i steps 0)
  filled_none = sym (ap length (services_none i steps))

  module _ (j s filled : ℕ) (is : s ≡ service_in i steps j) where
    pub filled_again : is_named j (service_in i steps) s ≡ true → filled ≡ length (services_moved i steps j) →
        filled ≡ length (services_moved i steps (j + 1))
    filled_again again before =
        rw (add-one) (before ∙ ap length (sym (services_again i steps j (rw is at again))))

    pub filled_more : is_named j (service_in i steps) s ≡ false → filled ≡ length (services_moved i steps j) →
        filled + 1 ≡ length (services_moved i steps (j + 1))
    filled_more new before =
        omega (
          arith,
          ap (λ k. length (services_moved i steps k)) (add-one j),
          ap length (services_new i steps j (rw is at new)),
          length-append (services_moved i steps j) (service_in i steps j ∷ []),
        )

  pub filled_few : (j filled : ℕ) → filled ≡ length (services_moved i steps j) → j < length steps → length steps ≤ 3 →
      filled < 3
  filled_few j filled is within few = omega (arith, services_few i steps j)

module _ (st : Situation) (steps : List Step) where
  -- a count as it is made
  pub count_made : (s : Service) (before after n : ℕ) → n ≡ length steps → before ≡ moved_at st s.0 →
      after ≡ moved_at (record st { here = after_steps st.here steps n }) s.0 →
      (let c : MovedCount = record { service = s; before = before; after = after } in c) ≡ moved_count st steps s.0
  unfolding moved_count applied
  count_made s before after n all is then = grind arith

  pub counts_none : AreCountsOf st steps 0 (None ∷ None ∷ None ∷ [])
  counts_none = grind (arith, nothing_at, count_past, services_none)

  module _ (xs : List ℕ) (s : ℕ) where
    -- the counts of a list with one service more
    pushed_before : (k : ℕ) → k < length xs → count_at st steps (xs ++ s ∷ []) k ≡ count_at st steps xs k
    pushed_before k before = grind (arith, count_there, length-append, get_or_append_left)

    pushed_here : count_at st steps (xs ++ s ∷ []) (length xs) ≡ Some (moved_count st steps s)
    pushed_here = grind (arith, count_there, length-append, get_or-append_seam)

    pushed_behind : (k : ℕ) → length xs < k → count_at st steps (xs ++ s ∷ []) k ≡ count_at st steps xs k
    pushed_behind k behind = grind (arith, count_past, length-append)

  module _ (j : ℕ) where
    module _ (s : ℕ) where
      -- a step of another service
      pub moved_kept : (moved : ℕ) → MayMove st steps → j < length steps → service_in st.tables steps j ≢ s →
          moved ≡ moved_at (record st { here = after_steps st.here steps j }) s →
          moved ≡ moved_at (situation st.tables st.start (after_steps st.here steps (j + 1))) s
      unfolding moved_of members_at service_in
      moved_kept moved move within apart is = grind (arith, tally_next, of_other)

      -- and one of this service
      pub moved_step : (home : ℕ) {from to : ℕ} → MayMove st steps → j < length steps →
          service_in st.tables steps j ≡ s → home ≡ machine_at st.start (process_in steps j) → from ≡ from_in steps j →
          to ≡ to_in steps j → moved_at (situation st.tables st.start (after_steps st.here steps (j + 1))) s + away
          home from ≡ moved_at (record st { here = after_steps st.here steps j }) s + away home to
      unfolding moved_of members_at service_in
      moved_step home move within mine home_is from_is to_is =
          rw (home_is, from_is, to_is) (omega (
            arith,
            tally_next st.tables st.here steps (of_service st.tables s
                (λ q m. cond (eqb (machine_at st.start q) m) false true)) j move within,
            mine_is st.tables st.start (process_in steps j) (from_in steps j) mine,
            mine_is st.tables st.start (process_in steps j) (to_in steps j) mine,
          ))

      pub counts_again : (counts : List (Option MovedCount)) → s ≡ service_in st.tables steps j →
          is_named j (service_in st.tables steps) s ≡ true → AreCountsOf st steps j counts →
          AreCountsOf st steps (j + 1) counts
      counts_again counts is again before = rw (add-one) (record {
        each = λ k few. before.each k few
            ∙ ap (λ xs. count_at st steps xs k) (sym (services_again st.tables steps j (rw is at again)));
      })

      pub counts_more : (filled : ℕ) (c : MovedCount) (counts : List (Option MovedCount)) →
          s ≡ service_in st.tables steps j → is_named j (service_in st.tables steps) s ≡ false →
          filled ≡ length (services_moved st.tables steps j) → filled < length counts → c ≡ moved_count st steps s →
          AreCountsOf st steps j counts → AreCountsOf st steps (j + 1) (set counts filled (Some c))
      counts_more filled c counts is new so_far room made before = rw add-one (record { each = each })
        where
          xs : List ℕ
          xs = services_moved st.tables steps j

          each : (k : ℕ) → k < 3 → get_or (set counts filled (Some c)) k None ≡ count_at st steps
              (services_moved st.tables steps (suc j)) k
          each k few = rw (services_new st.tables steps j (rw is at new)) (⊎_elim
              (λ (here : k ≡ filled). ap (λ l. get_or (set counts filled (Some c)) l None) here
              ∙ get_or-set_same counts filled (Some c) None room ∙ ap (λ x. Some x) made
              ∙ ap (λ t. Some (moved_count st steps t)) is
              ∙ sym (pushed_here xs (service_in st.tables steps j))
              ∙ ap (count_at st steps (xs ++ service_in st.tables steps j ∷ [])) (sym so_far ∙ sym here))
              (λ (apart : k ≢ filled). get_or-set_other counts filled k (Some c) None apart ∙ before.each k few ∙ ⊎_elim
              (λ (earlier : k < length xs). sym (pushed_before xs (service_in st.tables steps j) k earlier))
              (λ (later : length xs ≤ k). sym (pushed_behind xs (service_in st.tables steps j) k (omega arith)))
              (cases_lt k (length xs)))
              (cases_eq k filled))
