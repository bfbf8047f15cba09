-- The version of a guard and the version of its number in the lock.
use Rattle.std.proofs.Common.{◌≡◌, ℕ, suc, ◌-◌, ◌<◌, ◌≤◌, true, false, List, length, map, slice_get, Option, option_map}
use Rattle.std.proofs.Common.{Some, None, ap, sym, ◌∙◌, ⊎_elim, arith}
use Rattle.std.proofs.lemmas.Bool.{cases_Bool, cases_lt, cond-true, cond-false}
use Rattle.std.proofs.lemmas.Option.{slice_get-map, slice_get_cases, get_or_from_slice_get}
use Rattle.ra_base.specs.declared.ids.Guard.{Guard}
use Rattle.ra_model.specs.declared.raw.Tables.{Tables}
use Rattle.ra_moves.specs.declared.steps.Step.{Step}
use Rattle.ra_guards.specs.Order.{IsKnown}
use Rattle.ra_guards.specs.Versions.{made_at, touches, stamp, version}
use Rattle.ra_turn.specs.Notes.{IsVersion}
use Rattle.ra_shared.specs.Numbers.{number_of_guard, touches_number}
use Rattle.ra_laws.specs.SharedLaws.{VersionsAgree}
use Rattle.ra_base.proofs.Greatest.{greatest_at, greatest_least}
use Rattle.ra_shared.proofs.Agree.{touches_agree}

-- what an entry of a history makes is at its place
made_there : {N : Type 0} (makes : N → Option (List Step)) (history : List N) (j : ℕ) (x : N) →
    slice_get history j ≡ Some x → made_at (map makes history) j ≡ makes x
unfolding made_at
made_there makes history j x e =
    get_or_from_slice_get (map makes history) j (makes x) None (slice_get-map makes history j ∙ ap (option_map makes) e)

stamp_touched : (i : Tables) (made : List (Option (List Step))) (g : Guard) (j : ℕ) →
    touches i (made_at made j) g ≡ true → stamp i made g j ≡ suc j
unfolding stamp
stamp_touched i made g j touched = cond-true _ (suc j) 0 touched

stamp_untouched : (i : Tables) (made : List (Option (List Step))) (g : Guard) (j : ℕ) →
    touches i (made_at made j) g ≡ false → stamp i made g j ≡ 0
unfolding stamp
stamp_untouched i made g j untouched = cond-false _ (suc j) 0 untouched

module _ {N : Type 0} (i : Tables) (makes : N → Option (List Step)) (history : List N) (g : Guard) (v : ℕ)
    (known : IsKnown i g) (is : IsVersion (λ x. touches_number i (makes x) (number_of_guard i g)) history v) where
  abbrev made : List (Option (List Step))
  made = map makes history

  -- the entry at a place touches the guard if it touches its number
  there : (j : ℕ) (x : N) → slice_get history j ≡ Some x → touches i (made_at made j) g ≡ touches_number i (makes x)
      (number_of_guard i g)
  there j x e = ap (λ (m : Option (List Step)). touches i m g) (made_there makes history j x e)
      ∙ sym (touches_agree i (makes x) g known)

  within_at : (j : ℕ) (x : N) → slice_get history j ≡ Some x → stamp i made g j ≤ v
  within_at j x e = ⊎_elim
      (λ (before : j < v). ⊎_elim
      (λ (touched : touches i (made_at made j) g ≡ true). omega (arith, stamp_touched i made g j touched))
      (λ (untouched : touches i (made_at made j) g ≡ false). omega (arith, stamp_untouched i made g j untouched))
      (cases_Bool (touches i (made_at made j) g)))
      (λ (after : v ≤ j). omega (arith, stamp_untouched i made g j (there j x e ∙ is.quiet j x after e)))
      (cases_lt j v)

  -- no stamp is above the version
  stamp_within : (j : ℕ) → j < length history → stamp i made g j ≤ v
  stamp_within j lt = ⊎_elim
      (λ h. within_at j h.0 h.2)
      (λ h. absurd (let n = h.0 in omega arith))
      (slice_get_cases history j).1

  reached : 0 < v → v ≤ version i made (length history) g
  unfolding version
  reached more =
      let last = is.last more in
      let touched : touches i (made_at made (v - 1)) g ≡ true = there (v - 1) last.0 last.1 ∙ last.2 in
      let most = greatest_at (length history) (v - 1) (stamp i made g) (let w = is.within in omega arith) in
      omega (arith, most, stamp_touched i made g (v - 1) touched)

  bounded : version i made (length history) g ≤ v
  unfolding version
  bounded = greatest_least (length history) v (stamp i made g) stamp_within

  one_version : v ≡ version i made (length history) g
  one_version = ⊎_elim
      (λ (more : 0 < v). omega (arith, reached more, bounded))
      (λ (none : v ≤ 0). omega (arith, bounded))
      (cases_lt 0 v)

pub versions_agree : {N : Type 0} → VersionsAgree N
versions_agree i makes history g v known is = one_version i makes history g v known is
