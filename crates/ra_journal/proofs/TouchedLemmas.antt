-- Versions after the write guards of a move were touched.
use Rattle.std.proofs.Common.{◌≡◌, ℕ, ◌<◌, Bool, true, false, ◌||◌, List, length, get_or, Some, None, refl}
use Rattle.std.proofs.Common.{arith}
use Rattle.std.proofs.lemmas.List.Elements.{Contains-get_or}
use Rattle.ra_base.specs.declared.ids.Guard.{Guard}
use Rattle.ra_base.specs.declared.ids.Guard.TheVariants as guard
use Rattle.ra_base.specs.Sums.{is_named}
use Rattle.ra_base.proofs.Named.{is_named_from}
use Rattle.ra_model.specs.declared.raw.Tables.{Tables}
use Rattle.ra_model.specs.Limits.{WellFormed}
use Rattle.ra_model.specs.Numbers.{machine_count, service_count}
use Rattle.ra_moves.specs.declared.steps.Step.{Step}
use Rattle.ra_moves.specs.Steps.{process_in, from_in, to_in}
use Rattle.ra_moves.specs.Touched.{touches_machine, service_in, moves_service}
use Rattle.ra_guards.specs.Guards.{writes, AreWithin}
use Rattle.ra_guards.specs.Order.{AreWrites}
use Rattle.ra_guards.specs.VersionTable.{VersionTable}
use Rattle.ra_guards.specs.Kept.{HasGuard, IsTableOf, IsTouched}
use Rattle.ra_guards.specs.Versions.{touches}
use Rattle.ra_journal.specs.Recording.{AreTouchedVersions}

-- what is written is a guard of the instance
named_below : (n m : ℕ) (e : ℕ → ℕ) (x : ℕ) → is_named n e x ≡ true → ((k : ℕ) → k < n → e k < m) → x < m
named_below n m e x named below = grind (arith, is_named_from)

end_below : (left enters : Bool) (x m : ℕ) → (left ≡ true → x < m) → (enters ≡ true → x < m) → (left || enters) ≡ true →
    x < m
end_below true enters x m one other is = one refl
end_below false enters x m one other is = other is

module _ (i : Tables) (steps : List Step) where
  written_known : (v : VersionTable) (g : Guard) → WellFormed i → AreWithin i steps →
      IsTableOf i v → writes i steps g ≡ true → HasGuard v g
  unfolding writes HasGuard touches_machine moves_service service_in
  written_known v (guard.Machine m) limits within sized is =
      let below = end_below (is_named (length steps) (from_in steps) m.0) (is_named (length steps) (to_in steps) m.0) m.0
      (machine_count i)
      (λ named. named_below (length steps) (machine_count i) (from_in steps) m.0 named within.from)
      (λ named. named_below (length steps) (machine_count i) (to_in steps) m.0 named within.to) is in
      omega (arith, below, sized.machines)
  written_known v (guard.Service s) limits within sized is =
      let below = named_below (length steps) (service_count i) (service_in i steps) s.0 is
      (λ k there. limits.services (process_in steps k) (within.process k there)) in
      omega (arith, below, sized.services)

  pub writes_known : (v : VersionTable) (guards : List Guard) → WellFormed i →
      AreWithin i steps → IsTableOf i v → AreWrites i steps guards → (k : ℕ) (d : Guard) → k < length guards →
      HasGuard v (get_or guards k d)
  writes_known v guards limits within sized are k d there = grind (arith, written_known, Contains-get_or)

  pub touched : (before after : VersionTable) (guards : List Guard) (number : ℕ) →
      IsTableOf i before → AreWrites i steps guards → IsTouched before after guards number →
      AreTouchedVersions i (Some steps) number before after
  unfolding touches
  touched before after guards number sized are is = grind arith

pub touched_nothing : (i : Tables) (number : ℕ) (v : VersionTable) → IsTableOf i v →
    AreTouchedVersions i None number v v
unfolding touches
touched_nothing i number v sized = record { sized = sized; each = λ g. refl }
