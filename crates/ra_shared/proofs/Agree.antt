-- Guards and their numbers.
use Rattle.std.proofs.Common.{◌≡◌, ℕ, ◌+◌, ◌-◌, ◌<◌, ◌≤◌, List, Option, lt-ltb, le-ltb, ap, ◌∙◌, arith}
use Rattle.ra_base.specs.declared.ids.Guard.TheVariants as guard
use Rattle.ra_model.specs.declared.raw.Tables.{Tables}
use Rattle.ra_model.specs.Numbers.{machine_count}
use Rattle.ra_moves.specs.declared.steps.Step.{Step}
use Rattle.ra_guards.specs.Order.{IsKnown}
use Rattle.ra_guards.specs.Versions.{touches}
use Rattle.ra_shared.specs.Numbers.{guard_count, number_of_guard, touches_number}
use Rattle.ra_shared.specs.Laws.{TouchesAgree, NoneAbove}

-- a number below the machine count is a machine's
of_machine : (i : Tables) (made : Option (List Step)) (n : ℕ) → n < machine_count i →
    touches_number i made n ≡ touches i made (guard.Machine (record { 0 = n }))
unfolding touches_number
of_machine i made n lt = grind (arith, lt-ltb)

-- a number from there on and below the guard count is a service's
of_service : (i : Tables) (made : Option (List Step)) (n : ℕ) → machine_count i ≤ n → n < guard_count i →
    touches_number i made n ≡ touches i made (guard.Service (record { 0 = n - machine_count i }))
unfolding touches_number
of_service i made n le lt = grind (arith, le-ltb, lt-ltb)

pub none_above : NoneAbove
unfolding touches_number guard_count
none_above i made n le = grind (arith, le-ltb)

pub touches_agree : TouchesAgree
unfolding number_of_guard IsKnown guard_count
touches_agree i made (guard.Machine m) known = of_machine i made m.0 known
touches_agree i made (guard.Service s) known =
    let back : (machine_count i + s.0) - machine_count i ≡ s.0 = omega arith in
    of_service i made (machine_count i + s.0) (omega arith) (omega (arith, known))
    ∙ ap (λ n. touches i made (guard.Service (record { 0 = n }))) back
