-- A table of versions: what is read, set and touched.
use Rattle.std.proofs.Common.{◌≡◌, ◌≢◌, ℕ, ◌+◌, ◌<◌, ◌≤◌, ◌⊎◌, List, [], ◌∷◌, ◌++◌, length, get_or, set, replicate}
use Rattle.std.proofs.Common.{take, All, Contains, sym, refl, ap, subst, ◌∙◌, inl, inr, ⊎_elim, arith}
use Rattle.std.proofs.lemmas.List.{get_or_read, get_or-replicate, get_or_past, get_or-set_same, get_or-set_other}
use Rattle.std.proofs.lemmas.List.{length-set, length-replicate, take_more, take_all}
use Rattle.std.proofs.lemmas.List.Elements.{Contains-push, Contains-push_cases, Contains-append_left, All-get_or}
use Rattle.std.proofs.lemmas.Bool.{cases_eq}
use Rattle.ra_base.specs.declared.ids.Guard.{Guard}
use Rattle.ra_base.specs.declared.ids.Guard.TheVariants as guard
use Rattle.ra_base.specs.declared.ids.Machine.{Machine}
use Rattle.ra_base.specs.declared.ids.Service.{Service}
use Rattle.ra_guards.specs.VersionTable.{VersionTable}
use Rattle.ra_guards.specs.Kept.{HasGuard, version_in, AreAtMost, AreZero, IsSet, IsTouched}
use Rattle.ra_guards.specs.Order.{guard_at}
use Rattle.ra_guards.proofs.OrderLemmas.{of_machine, of_service}

abbrev table : List ℕ → List ℕ → VersionTable
table machines services = record { machines = machines; services = services }

abbrev zeros_of : ℕ → List ℕ
zeros_of n = replicate n 0

zeros_length : (n : ℕ) → length (zeros_of n) ≡ n
zeros_length n = length-replicate n 0

zero_at : (n k : ℕ) → get_or (zeros_of n) k 0 ≡ 0
zero_at n k = grind (arith, get_or-replicate, get_or_past, zeros_length)

module _ (m n : ℕ) where
  zeros_at : (g : Guard) → version_in (table (zeros_of m) (zeros_of n)) g ≡ 0
  unfolding version_in
  zeros_at (guard.Machine k) = zero_at m k.0
  zeros_at (guard.Service k) = zero_at n k.0

  module _ (machines services : List ℕ) (e : machines ≡ zeros_of m) where
    pub zeros_at_most : services ≡ zeros_of n → AreAtMost 0 (table machines services)
    zeros_at_most f g = rw (e, f) (omega (arith, zeros_at))

    pub zeros : services ≡ zeros_of n → AreZero m n (table machines services)
    zeros all_services = rw (e, all_services) (record {
      count_machines = zeros_length m;
      count_services = zeros_length n;
      each = zeros_at;
    })

-- a guard that is set

other_machine : (v : VersionTable) (m : Machine) (x : ℕ) (g : Guard) → g ≢ guard.Machine m →
    version_in (table (set v.machines m.0 x) v.services) g ≡ version_in v g
unfolding version_in
other_machine v m x (guard.Machine n) apart =
    get_or-set_other v.machines m.0 n.0 x 0 (λ same. apart (ap (λ (k : ℕ). of_machine k) same))
other_machine v m x (guard.Service s) apart = refl

other_service : (v : VersionTable) (s : Service) (x : ℕ) (g : Guard) → g ≢ guard.Service s →
    version_in (table v.machines (set v.services s.0 x)) g ≡ version_in v g
unfolding version_in
other_service v s x (guard.Machine m) apart = refl
other_service v s x (guard.Service t) apart =
    get_or-set_other v.services s.0 t.0 x 0 (λ same. apart (ap (λ (k : ℕ). of_service k) same))

set_machine : (machines services : List ℕ) (m : Machine) (x : ℕ) → m.0 < length machines →
    IsSet (table machines services) (table (set machines m.0 x) services) (guard.Machine m) x
unfolding version_in
set_machine machines services m x there = record {
  machines = length-set machines m.0 x;
  services = refl;
  set = get_or-set_same machines m.0 x 0 there;
  kept = other_machine (table machines services) m x;
}

set_service : (machines services : List ℕ) (s : Service) (x : ℕ) → s.0 < length services →
    IsSet (table machines services) (table machines (set services s.0 x)) (guard.Service s) x
unfolding version_in
set_service machines services s x there = record {
  machines = refl;
  services = length-set services s.0 x;
  set = get_or-set_same services s.0 x 0 there;
  kept = other_service (table machines services) s x;
}

module _ (v : VersionTable) (machines : List ℕ) where
  module _ (services : List ℕ) (g : Guard) where
    -- a guard that the table has

    pub has_machine : (m : Machine) → table machines services ≡ v → HasGuard v g → g ≡ guard.Machine m →
        m.0 < length machines
    unfolding HasGuard
    has_machine m view has is = grind (arith, table)

    pub has_service : (s : Service) → table machines services ≡ v → HasGuard v g → g ≡ guard.Service s →
        s.0 < length services
    unfolding HasGuard
    has_service s view has is = grind (arith, table)

    pub machine_read : (m : Machine) (x : ℕ) → table machines services ≡ v → HasGuard v g → g ≡ guard.Machine m →
        x ≡ get_or machines m.0 x → x ≡ version_in v g
    unfolding version_in
    machine_read m x view has is read = grind (arith, get_or_read, has_machine)

    pub service_read : (s : Service) (x : ℕ) → table machines services ≡ v → HasGuard v g → g ≡ guard.Service s →
        x ≡ get_or services s.0 x → x ≡ version_in v g
    unfolding version_in
    service_read s x view has is read = grind (arith, get_or_read, has_service)

  module _ (services after : List ℕ) (g : Guard) where
    pub machine_set : (m : Machine) (x : ℕ) → table machines services ≡ v → HasGuard v g → g ≡ guard.Machine m →
        after ≡ set machines m.0 x → IsSet v (table after services) g x
    machine_set m x view has is written =
        rw (← view, is, written) (set_machine machines services m x (has_machine services g m view has is))

    pub service_set : (s : Service) (x : ℕ) → table machines services ≡ v → HasGuard v g → g ≡ guard.Service s →
        after ≡ set services s.0 x → IsSet v (table machines after) g x
    service_set s x view has is written =
        rw (← view, is, written) (set_service machines services s x (has_service services g s view has is))

-- the guards of a list, one after another

machine_number : (m n : Machine) → guard.Machine m ≡ guard.Machine n → m.0 ≡ n.0
machine_number m n same = grind arith

service_number : (s t : Service) → guard.Service s ≡ guard.Service t → s.0 ≡ t.0
service_number s t same = grind arith

-- two guards are one, or they aren't
same_guard : (g h : Guard) → (g ≡ h) ⊎ (g ≢ h)
same_guard (guard.Machine m) (guard.Machine n) =
    elim (cases_eq m.0 n.0) [
      | inl same ↦ inl (ap (λ (k : ℕ). of_machine k) same)
      | inr apart ↦ inr (λ same. apart (machine_number m n same))
    ]
same_guard (guard.Machine m) (guard.Service s) = inr (λ same. absurd (cc))
same_guard (guard.Service s) (guard.Machine m) = inr (λ same. absurd (cc))
same_guard (guard.Service s) (guard.Service t) =
    elim (cases_eq s.0 t.0) [
      | inl same ↦ inl (ap (λ (k : ℕ). of_service k) same)
      | inr apart ↦ inr (λ same. apart (service_number s t same))
    ]

pub none_above : (v : VersionTable) (newest n : ℕ) → AreAtMost newest v → newest ≤ n → AreAtMost n v
none_above v newest n most within g = omega (arith, most g, within)

pub touched_none : (v : VersionTable) (guards : List Guard) (x : ℕ) → IsTouched v v (take 0 guards) x
touched_none v guards x = record {
  machines = refl;
  services = refl;
  touched = λ g there. absurd (omega (arith, there.1));
  kept = λ g apart. refl;
}

module _ (a : VersionTable) where
  module _ (b : VersionTable) where
    -- no version is above n after a guard was set to at most n, if none was before
    pub still_at_most : (g : Guard) (x newest n : ℕ) → IsSet a b g x → AreAtMost newest a → newest ≤ n → x ≤ n →
        AreAtMost n b
    still_at_most g x newest n change most old new h = ⊎_elim
        (λ same. omega (arith, ap (version_in b) same, change.set, new))
        (λ other. omega (arith, change.kept h other, most h, old))
        (same_guard h g)

    still_has : (guards : List Guard) (x : ℕ) (g : Guard) → IsTouched a b guards x → HasGuard a g → HasGuard b g
    unfolding HasGuard
    still_has guards x (guard.Machine m) touched has = omega (arith, has, touched.machines)
    still_has guards x (guard.Service s) touched has = omega (arith, has, touched.services)

    touched_push : (c : VersionTable) (guards : List Guard) (g : Guard) (x : ℕ) → IsTouched a b guards x →
        IsSet b c g x → IsTouched a c (guards ++ g ∷ []) x
    touched_push c guards g x before set = record {
      machines = set.machines ∙ before.machines;
      services = set.services ∙ before.services;
      touched = λ h there. ⊎_elim
          (λ (same : g ≡ h). ap (version_in c) (sym same) ∙ set.set)
          (λ apart. elim (Contains-push_cases guards g h there) [
            | inl old ↦ set.kept h (λ is. apart (sym is)) ∙ before.touched h old
            | inr is ↦ absurd (apart is)
          ])
          (same_guard g h);
      kept = λ h apart.
          set.kept h (λ is. apart (subst (Contains (guards ++ g ∷ [])) (sym is) (Contains-push guards g)))
          ∙ before.kept h (λ there. apart (Contains-append_left guards _ h there));
    }

    pub touched_more : (c : VersionTable) (guards : List Guard) (k : ℕ) (g : Guard) (x : ℕ) →
        IsTouched a b (take k guards) x → k < length guards → g ≡ guard_at guards k → IsSet b c g x →
        IsTouched a c (take (k + 1) guards) x
    unfolding guard_at
    touched_more c guards k g x before within is set =
        let more = take_more guards k (of_machine 0) within in
        rw (more, ← is) (touched_push c (take k guards) g x before set)

  module _ (b : VersionTable) (guards : List Guard) (k x : ℕ) where
    pub touched_all : IsTouched a b (take k guards) x → k ≡ length guards → IsTouched a b guards x
    touched_all touched all =
        subst (λ (gs : List Guard). IsTouched a b gs x) (take_all k guards (omega arith)) touched

    -- each of them is there in the meantime
    pub touched_has : (g : Guard) → All (HasGuard a) guards → IsTouched a b (take k guards) x → k < length guards →
        g ≡ guard_at guards k → HasGuard b g
    unfolding guard_at
    touched_has g all touched within is =
        still_has b (take k guards) x g touched
        (rw is (All-get_or (HasGuard a) guards k (of_machine 0) within all))

pub ruleset touching = (touched_none, touched_all)
