-- A table keeps the versions of a history, entry after entry.
use Rattle.std.proofs.Common.{◌≡◌, ℕ, suc, ◌+◌, ◌<◌, ◌≤◌, true, false, cond, List, Option, Some, None, sym, ap, ◌∙◌}
use Rattle.std.proofs.Common.{⊎_elim, arith}
use Rattle.std.proofs.lemmas.Bool.{cases_Bool, both_ways}
use Rattle.ra_base.specs.declared.ids.Guard.{Guard}
use Rattle.ra_model.specs.declared.raw.Tables.{Tables}
use Rattle.ra_model.specs.Numbers.{machine_count, service_count}
use Rattle.ra_moves.specs.declared.steps.Step.{Step}
use Rattle.ra_guards.specs.Guards.{writes}
use Rattle.ra_guards.specs.Order.{AreWrites}
use Rattle.ra_guards.specs.Versions.{made_at, touches, stamp, version}
use Rattle.ra_guards.specs.VersionTable.{VersionTable}
use Rattle.ra_guards.specs.Kept.{AreZero, AreVersions, IsTouched}
use Rattle.ra_laws.specs.GuardLaws.{VersionsAreKept}
use Rattle.ra_base.proofs.Greatest.{greatest_none, greatest_above, greatest_kept, greatest_least, greatest_same}
use Rattle.ra_guards.proofs.TouchLemmas.{stamp_touched, stamp_untouched, stamp_few, touches_done}

module _ (i : Tables) (made : List (Option (List Step))) where
  -- a version after one more entry
  version_start : (g : Guard) → version i made 0 g ≡ 0
  unfolding version
  version_start g = greatest_none (stamp i made g)

  module _ (n : ℕ) where
    module _ (g : Guard) where
      version_few : version i made n g ≤ n
      unfolding version
      version_few = greatest_least n n (stamp i made g) (λ k within. omega (arith, stamp_few i made g k))

      version_touched : touches i (made_at made n) g ≡ true → version i made (n + 1) g ≡ n + 1
      unfolding version
      version_touched touched =
          let here = stamp_touched i made g n touched in
          greatest_above n (stamp i made g) (omega (arith, version_few)) ∙ omega arith

      version_kept : touches i (made_at made n) g ≡ false → version i made (n + 1) g ≡ version i made n g
      unfolding version
      version_kept untouched =
          greatest_kept n (stamp i made g) (omega (arith, stamp_untouched i made g n untouched))

      touches_none : made_at made n ≡ None →
          touches i (made_at made n) g ≡ false
      unfolding touches
      touches_none none = ap (λ (m : Option (List Step)). touches i m g) none

    done_versions : (steps : List Step) (before after : VersionTable) (guards : List Guard) → AreVersions i made n before → made_at made n ≡ Some steps →
        AreWrites i steps guards → IsTouched before after guards (n + 1) → AreVersions i made (n + 1) after
    done_versions steps before after guards versions done writing touched = record {
      sized = record {
        machines = touched.machines ∙ versions.sized.machines;
        services = touched.services ∙ versions.sized.services;
      };
      each = λ g known. ⊎_elim
          (λ (written : writes i steps g ≡ true). touched.touched g ((writing.exactly g).1 written)
          ∙ sym (version_touched g (touches_done i made g n steps done ∙ written)))
          (λ (unwritten : writes i steps g ≡ false).
          touched.kept g (λ there. both_ways (writes i steps g) unwritten ((writing.exactly g).0 there))
          ∙ versions.each g known ∙ sym (version_kept g (touches_done i made g n steps done ∙ unwritten)))
          (cases_Bool (writes i steps g));
    }

    refused_versions : (v : VersionTable) → AreVersions i made n v →
        made_at made n ≡ None → AreVersions i made (n + 1) v
    refused_versions v versions none = record {
      sized = versions.sized;
      each = λ g known. versions.each g known ∙ sym (version_kept g (touches_none g none));
    }

  version_front : (others : List (Option (List Step))) (n : ℕ) (g : Guard) →
      ((j : ℕ) → j < n → made_at made j ≡ made_at others j) → version i made n g ≡ version i others n g
  unfolding version stamp
  version_front others n g same =
      greatest_same n (stamp i made g) (stamp i others g)
      (λ j within. ap (λ (m : Option (List Step)). cond (touches i m g) (suc j) 0) (same j within))

  -- the table
  zero_versions : (v : VersionTable) →
      AreZero (machine_count i) (service_count i) v → AreVersions i made 0 v
  zero_versions v zeros = record {
    sized = record { machines = zeros.count_machines; services = zeros.count_services };
    each = λ g known. zeros.each g ∙ sym (version_start g);
  }

  front_versions : (others : List (Option (List Step))) (n : ℕ) (v : VersionTable) →
      ((j : ℕ) → j < n → made_at made j ≡ made_at others j) → AreVersions i made n v → AreVersions i others n v
  front_versions others n v same versions = record {
    sized = versions.sized;
    each = λ g known. versions.each g known ∙ version_front others n g same;
  }

pub versions_are_kept : VersionsAreKept
versions_are_kept = record {
  start = zero_versions;
  done = done_versions;
  refused = refused_versions;
  front = front_versions;
}
