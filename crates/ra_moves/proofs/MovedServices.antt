-- The different services of a move, and their moved counts by place.
use Rattle.std.proofs.Common.{◌≡◌, ◌≢◌, ℕ, zero, suc, ◌<◌, ◌≤◌, true, false, List, [], ◌∷◌, ◌++◌, length, get_or, Some, None, refl, sym, ap, ◌∙◌, ⊎_elim, arith, length-append}
use Rattle.std.proofs.lemmas.Bool.{cases_Bool, cases_lt, both_ways}
use Rattle.std.proofs.lemmas.List.{get_or_append_left}
use Rattle.std.proofs.Math.Seq.{get_or-append_seam}
use Rattle.ra_base.specs.Sums.{is_named}
use Rattle.ra_base.proofs.Named.{is_named_none, is_named_at, is_named_from}
use Rattle.ra_model.specs.declared.raw.Tables.{Tables}
use Rattle.ra_model.specs.Situations.{Situation}
use Rattle.ra_moves.specs.declared.steps.Step.{Step}
use Rattle.ra_moves.specs.Touched.{service_in}
use Rattle.ra_moves.specs.Weighing.{moved_count, is_new_service, services_moved, count_at}

module _ (n : ℕ) (e : ℕ → ℕ) where
  -- a name is named later too, and one that is named only with the last name is that
  named_later : (m : ℕ) → is_named n e m ≡ true → is_named (suc n) e m ≡ true
  named_later m named =
      let found = is_named_from n e m named in is_named_at _ found.0 e m (omega (arith, found.1)) found.2

  named_last : (m : ℕ) → is_named (suc n) e m ≡ true → is_named n e m ≡ false → e n ≡ m
  named_last m named not_before =
      let found = is_named_from _ e m named in
      ⊎_elim
      (λ earlier. absurd (both_ways _ not_before (is_named_at n found.0 e m earlier found.2)))
      (λ later. let here : n ≡ found.0 = omega (arith, found.1) in ap e here ∙ found.2)
      (cases_lt found.0 n)

  named_pushed : (xs : List ℕ) (k : ℕ) → k < length (xs ++ e n ∷ []) → ((j : ℕ) → j < length xs →
      is_named n e (get_or xs j 0) ≡ true) → is_named (suc n) e (get_or (xs ++ e n ∷ []) k 0) ≡ true
  named_pushed xs k within earlier = ⊎_elim
      (λ before. ap (is_named (suc n) e) (get_or_append_left xs (e n ∷ []) 0 k before)
      ∙ named_later (get_or xs k 0) (earlier k before))
      (λ behind.
      let here : k ≡ length xs = omega (arith, length-append xs (e n ∷ [])) in
      ap (λ j. is_named (suc n) e (get_or (xs ++ e n ∷ []) j 0)) here
      ∙ ap (is_named (suc n) e) (get_or-append_seam xs (e n) [] 0) ∙ is_named_at (suc n) n e (e n) (omega arith) refl)
      (cases_lt k (length xs))

  apart_pushed : (xs : List ℕ) (j k : ℕ) → j < k → k < length (xs ++ e n ∷ []) → is_named n e (e n) ≡ false →
      ((j : ℕ) → j < length xs → is_named n e (get_or xs j 0) ≡ true) → ((j k : ℕ) → j < k → k < length xs →
      get_or xs j 0 ≢ get_or xs k 0) → get_or (xs ++ e n ∷ []) j 0 ≢ get_or (xs ++ e n ∷ []) k 0
  apart_pushed xs j k before within new earlier apart same = ⊎_elim
      (λ inside. apart j k before inside (sym (get_or_append_left xs (e n ∷ []) 0 j (omega arith))
      ∙ same ∙ get_or_append_left xs (e n ∷ []) 0 k inside))
      (λ behind.
      let here : k ≡ length xs = omega (arith, length-append xs (e n ∷ [])) in
      let last : get_or xs j 0 ≡ e n = sym (get_or_append_left xs (e n ∷ []) 0 j (omega arith)) ∙ same
      ∙ ap (λ l. get_or (xs ++ e n ∷ []) l 0) here ∙ get_or-append_seam xs (e n) [] 0 in
      both_ways _ (ap (is_named n e) last ∙ new) (earlier j (omega arith)))
      (cases_lt k (length xs))

-- and the service of each step is one of them
pub record IsPlaced (xs : List ℕ) (s : ℕ) : Type 0 where
  pub place : ℕ
  pub within : place < length xs
  pub here : get_or xs place 0 ≡ s

placed_before : (xs : List ℕ) (x s : ℕ) → IsPlaced xs s → IsPlaced (xs ++ x ∷ []) s
placed_before xs x s placed = record {
  place = placed.place;
  within = omega (arith, placed.within, length-append xs (x ∷ []));
  here = get_or_append_left xs (x ∷ []) 0 placed.place placed.within ∙ placed.here;
}

placed_last : (xs : List ℕ) (x s : ℕ) → x ≡ s → IsPlaced (xs ++ x ∷ []) s
placed_last xs x s same = record {
  place = length xs;
  within = omega (arith, length-append xs (x ∷ []));
  here = get_or-append_seam xs x [] 0 ∙ same;
}

module _ (i : Tables) (steps : List Step) where
  -- no step yet
  pub services_none : services_moved i steps 0 ≡ []
  unfolding services_moved
  services_none = refl

  -- one more step, whose service is new
  pub services_new : (n : ℕ) → is_named n (service_in i steps) (service_in i steps n) ≡
      false → services_moved i steps (suc n) ≡ services_moved i steps n ++ service_in i steps n ∷ []
  unfolding services_moved is_new_service
  services_new n new = rw new refl

  -- or isn't
  pub services_again : (n : ℕ) → is_named n (service_in i steps) (service_in i steps n) ≡
      true → services_moved i steps (suc n) ≡ services_moved i steps n
  unfolding services_moved is_new_service
  services_again n again = rw again refl

  -- there are no more than steps
  pub services_few : (n : ℕ) → length (services_moved i steps n) ≤ n
  services_few zero = omega (arith, ap length (services_none))
  services_few (suc n) = ⊎_elim
      (λ again.
      omega (arith, ap length (services_again n again), services_few n))
      (λ new.
      omega (
        arith,
        ap length (services_new n new),
        length-append (services_moved i steps n) (service_in i steps n ∷ []),
        services_few n,
      ))
      (cases_Bool (is_named n (service_in i steps) (service_in i steps n)))

  -- each is the service of one of the steps
  pub services_named : (n k : ℕ) → k < length (services_moved i steps n) →
      is_named n (service_in i steps) (get_or (services_moved i steps n) k 0) ≡ true
  services_named zero k within = absurd (omega (arith, ap length (services_none)))
  services_named (suc n) k within = ⊎_elim
      (λ again.
      let is = services_again n again in
      rw is (named_later n _ _
      (services_named n k (omega (arith, ap length is)))))
      (λ new. let is = services_new n new in
      rw is (named_pushed n _ _ k (omega (arith, ap length is))
      (services_named n)))
      (cases_Bool _)

  pub services_placed : (n s : ℕ) → is_named n (service_in i steps) s ≡ true → IsPlaced (services_moved i steps n) s
  services_placed zero s named = absurd (both_ways _ (is_named_none (service_in i steps) s) named)
  services_placed (suc n) s named = ⊎_elim
      (λ again.
      rw (services_again n again) (⊎_elim
      (λ before. services_placed n s before)
      (λ not_before.
      services_placed n s
      (ap (is_named n (service_in i steps)) (sym (named_last n (service_in i steps) s named not_before)) ∙ again))
      (cases_Bool (is_named n _ s))))
      (λ new. rw (services_new n new) (⊎_elim
      (λ before. placed_before (services_moved i steps n)
      (service_in i steps n) s (services_placed n s before))
      (λ not_before. placed_last (services_moved i steps n)
      (service_in i steps n) s (named_last n (service_in i steps) s named not_before))
      (cases_Bool (is_named n _ s))))
      (cases_Bool (is_named n _ _))

  -- no two are the same
  pub services_apart : (n j k : ℕ) → j < k → k < length (services_moved i steps n) →
      get_or (services_moved i steps n) j 0 ≢ get_or (services_moved i steps n) k 0
  services_apart zero j k before within = absurd (omega (arith, ap length (services_none)))
  services_apart (suc n) j k before within = ⊎_elim
      (λ again.
      let is = services_again n again in
      rw is (services_apart n j k before (omega (arith, ap length is))))
      (λ new. let is = services_new n new in
      rw is (apart_pushed n _ _ j k before
      (omega (arith, ap length is)) new (services_named n) (services_apart n)))
      (cases_Bool _)

module _ (st : Situation) (steps : List Step) where
  -- the counts by place
  pub count_there : (services : List ℕ) (k : ℕ) → k < length services →
      count_at st steps services k ≡ Some (moved_count st steps (get_or services k 0))
  unfolding count_at
  count_there [] k within = absurd (omega arith)
  count_there (s ∷ rest) zero within = refl
  count_there (s ∷ rest) (suc k) within = count_there rest k (omega arith)

  pub count_past : (services : List ℕ) (k : ℕ) → length services ≤ k → count_at st steps services k ≡ None
  unfolding count_at
  count_past [] k behind = refl
  count_past (s ∷ rest) zero behind = absurd (omega arith)
  count_past (s ∷ rest) (suc k) behind = count_past rest k (omega arith)
