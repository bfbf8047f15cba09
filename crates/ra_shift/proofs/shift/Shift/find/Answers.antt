-- The first test that fails gives the cause, and a shift that passes all of them breaks nothing.
use Rattle.std.proofs.Common.{◌≢◌, ◌∙◌, ◌<◌, ◌≤◌, Some, ap, ap₂, sym, arith}
use Rattle.std.proofs.lemmas.Bool.{both_ways}
use Rattle.ra_base.specs.declared.causes.Cause.TheVariants.{Conflict, Spread}
use Rattle.ra_model.specs.Numbers.{service_of, spread_of}
use Rattle.ra_model.specs.Services.{on_machine, locations_of}
use Rattle.ra_shift.specs.Conditions.{shifted}
use Rattle.ra_shift.specs.Finding.{IsFinding}
use Rattle.ra_shift.proofs.AllowLaws.{at_of, start_of, allowed, unbroken}
use Rattle.ra_shift.proofs.FindingLaws.{broken_same, broken_over, broken_between, broken_twice, broken_apart}
use Rattle.ra_shift.proofs.shift.Shift.find.Goals as goal

pub returns-then-to-self : goal.returns-then-to-self
unfolding IsFinding
returns-then-to-self c =
    let shift = c.args.self.now in
    broken_same shift.world.now shift.process.0 c.args.to.0
    (sym shift.from_is ∙ sym c.if-to-self.true)

pub returns-in-Some : goal.returns-in-Some
unfolding IsFinding
returns-in-Some c =
    let shift = c.args.self.now in
    let w = shift.world.now in
    let p = shift.process.0 in
    let to = c.args.to.0 in
    let start = start_of w p to (at_of w p to shift.sound shift.process_known c.requires)
    (λ same. c.if-to-self.false (sym same ∙ sym shift.from_is)) in
    let over = c.in-Some.ensures.some in
    broken_over w p to over.r start over.within over.before over.above ∙ ap Some (sym over.named)

pub returns-in-Some-over_between : goal.returns-in-Some-over_between
unfolding IsFinding
returns-in-Some-over_between c =
    let shift = c.args.self.now in
    let w = shift.world.now in
    let p = shift.process.0 in
    let to = c.args.to.0 in
    let start = start_of w p to (at_of w p to shift.sound shift.process_known c.requires)
    (λ same. c.if-to-self.false (sym same ∙ sym shift.from_is)) in
    let over = c.in-Some-over_between.ensures.some in
    broken_between w p to over.r start c.in_default.ensures.none over.away over.within over.transient
    over.before
    over.above ∙ ap Some (sym over.named)

pub returns-then-not-is_alone : goal.returns-then-not-is_alone
unfolding IsFinding
returns-then-not-is_alone c =
    let shift = c.args.self.now in
    let w = shift.world.now in
    let i = w.tables in
    let p = shift.process.0 in
    let to = c.args.to.0 in
    let start = start_of w p to (at_of w p to shift.sound shift.process_known c.requires)
    (λ same. c.if-to-self.false (sym same ∙ sym shift.from_is)) in
    let none : on_machine i w.here (service_of i p) to ≢ 0 =
    λ alone. both_ways c.is_alone.result c.if-not-is_alone.true (c.is_alone.ensures.1 alone) in
    let some : 0 < on_machine i w.here (service_of i p) to = omega (arith, none) in
    broken_twice w p to start c.in_default.ensures.none c.in_default-over_between.ensures.none some
    ∙ ap (λ s. Some (Conflict (record { 0 = s }) (record { 0 = to }))) (sym shift.service_is)

pub returns-then-not-keeps_spread : goal.returns-then-not-keeps_spread
unfolding IsFinding
returns-then-not-keeps_spread c =
    let shift = c.args.self.now in
    let w = shift.world.now in
    let i = w.tables in
    let p = shift.process.0 in
    let to = c.args.to.0 in
    let start = start_of w p to (at_of w p to shift.sound shift.process_known c.requires)
    (λ same. c.if-to-self.false (sym same ∙ sym shift.from_is)) in
    let enough : spread_of i (service_of i p) ≤ locations_of i (shifted w.here p to) (service_of i p) → ⊥ =
    λ many. both_ways c.keeps_spread.result c.if-not-keeps_spread.true (c.keeps_spread.ensures.1 many) in
    let few : c.locations_with.result < spread_of i (service_of i p) =
    omega (arith, c.locations_with.ensures, enough) in
    broken_apart w p to c.locations_with.result start c.in_default.ensures.none
    c.in_default-over_between.ensures.none (c.is_alone.ensures.0 c.if-not-is_alone.false) c.locations_with.ensures few
    ∙ ap₂ (λ s n. Some (Spread (record { 0 = s }) c.locations_with.result n)) (sym shift.service_is)
    (sym shift.wants_is)

pub returns-then-not-keeps_dependants : goal.returns-then-not-keeps_dependants
unfolding IsFinding
returns-then-not-keeps_dependants c =
    let shift = c.args.self.now in
    let w = shift.world.now in
    record {
      apart = λ same. c.if-to-self.false (sym same ∙ sym shift.from_is);
      room = c.in_default.ensures.none;
      between = c.in_default-over_between.ensures.none;
      alone = c.is_alone.ensures.0 c.if-not-is_alone.false;
      spread = c.keeps_spread.ensures.0 c.if-not-keeps_spread.false;
      broken = λ none. both_ways c.keeps_dependants.result c.if-not-keeps_dependants.true
          (c.keeps_dependants.ensures.1
          (allowed w shift.process.0 c.args.to.0
          (at_of w shift.process.0 c.args.to.0 shift.sound shift.process_known c.requires) none).leaves);
    }

pub returns-then-not-finds_needs : goal.returns-then-not-finds_needs
unfolding IsFinding
returns-then-not-finds_needs c =
    let shift = c.args.self.now in
    let w = shift.world.now in
    record {
      apart = λ same. c.if-to-self.false (sym same ∙ sym shift.from_is);
      room = c.in_default.ensures.none;
      between = c.in_default-over_between.ensures.none;
      alone = c.is_alone.ensures.0 c.if-not-is_alone.false;
      spread = c.keeps_spread.ensures.0 c.if-not-keeps_spread.false;
      broken = λ none. both_ways c.finds_needs.result c.if-not-finds_needs.true
          (c.finds_needs.ensures.1
          (allowed w shift.process.0 c.args.to.0
          (at_of w shift.process.0 c.args.to.0 shift.sound shift.process_known c.requires) none).needs);
    }

pub returns-then-not-is_admitted : goal.returns-then-not-is_admitted
unfolding IsFinding
returns-then-not-is_admitted c =
    let shift = c.args.self.now in
    let w = shift.world.now in
    record {
      apart = λ same. c.if-to-self.false (sym same ∙ sym shift.from_is);
      room = c.in_default.ensures.none;
      between = c.in_default-over_between.ensures.none;
      alone = c.is_alone.ensures.0 c.if-not-is_alone.false;
      spread = c.keeps_spread.ensures.0 c.if-not-keeps_spread.false;
      broken = λ none. both_ways c.is_admitted.result c.if-not-is_admitted.true
          (c.is_admitted.ensures.1
          (allowed w shift.process.0 c.args.to.0
          (at_of w shift.process.0 c.args.to.0 shift.sound shift.process_known c.requires) none).admitted);
    }

pub returns : goal.returns
unfolding IsFinding
returns c =
    let shift = c.args.self.now in
    let w = shift.world.now in
    unbroken w shift.process.0 c.args.to.0
    (at_of w shift.process.0 c.args.to.0 shift.sound shift.process_known c.requires)
    (record {
      apart = λ same. c.if-to-self.false (sym same ∙ sym shift.from_is);
      admitted = c.is_admitted.ensures.0 c.if-not-is_admitted.false;
      room = c.in_default.ensures.none;
      alone = c.is_alone.ensures.0 c.if-not-is_alone.false;
      between = c.in_default-over_between.ensures.none;
      spread = c.keeps_spread.ensures.0 c.if-not-keeps_spread.false;
      leaves = c.keeps_dependants.ensures.0 c.if-not-keeps_dependants.false;
      needs = c.finds_needs.ensures.0 c.if-not-finds_needs.false;
    })
