-- A test that fails is a condition that isn't met; and these are all conditions.
use Rattle.std.proofs.Common.{◌≡◌, ◌↔◌, ℕ, Bool, true, false, [], ◌∷◌, None, ◌∙◌, sym}
use Rattle.std.proofs.lemmas.Bool.{both_ways}
use Rattle.ra_model.specs.Situations.{Situation}
use Rattle.ra_moves.specs.Judging.{broken_by}
use Rattle.ra_moves.specs.Options.{leaving}
use Rattle.ra_shift.specs.Conditions.{Allows}
use Rattle.ra_shift.proofs.AllowLaws.{IsAt, at_of, allowed, unbroken, refused}
use Rattle.ra_shift.proofs.shift.Shift.fits.Goals as goal

-- a test of a condition that fails
unmet : (st : Situation) (p to : ℕ) {Condition : Type 0} (test : Bool) → IsAt st p to → test ≡ false →
    (test ≡ true) ↔ Condition → (Allows st p to → Condition) →
    (false ≡ true) ↔ (broken_by st (leaving st.here p to ∷ []) ≡ None)
unmet st p to test at fails (_, holds) condition =
    refused (λ none. both_ways test fails (holds (condition (allowed st p to at none))))

pub returns-then-to-self-clause-fits : goal.returns-then-to-self-clause-fits
returns-then-to-self-clause-fits c =
    let shift = c.args.self.now in
    let w = shift.world.now in
    refused (λ none.
    (allowed w shift.process.0 c.args.to.0
    (at_of w shift.process.0 c.args.to.0 shift.sound shift.process_known c.requires.machine)
    none).apart (sym shift.from_is ∙ sym c.if-to-self.true))

pub returns-then-not-finds_needs_or_lacks-clause-fits : goal.returns-then-not-finds_needs_or_lacks-clause-fits
returns-then-not-finds_needs_or_lacks-clause-fits c =
    let shift = c.args.self.now in
    unmet shift.world.now shift.process.0 c.args.to.0 c.finds_needs_or_lacks.result
    (at_of shift.world.now shift.process.0 c.args.to.0 shift.sound shift.process_known c.requires.machine)
    c.if-not-finds_needs_or_lacks.true c.finds_needs_or_lacks.ensures.finds (λ met. met.needs)

pub returns-then-not-keeps_dependants-clause-fits : goal.returns-then-not-keeps_dependants-clause-fits
returns-then-not-keeps_dependants-clause-fits c =
    let shift = c.args.self.now in
    unmet shift.world.now shift.process.0 c.args.to.0 c.keeps_dependants.result
    (at_of shift.world.now shift.process.0 c.args.to.0 shift.sound shift.process_known c.requires.machine)
    c.if-not-keeps_dependants.true c.keeps_dependants.ensures (λ met. met.leaves)

pub returns-then-not-has_room-clause-fits : goal.returns-then-not-has_room-clause-fits
returns-then-not-has_room-clause-fits c =
    let shift = c.args.self.now in
    unmet shift.world.now shift.process.0 c.args.to.0 c.has_room.result
    (at_of shift.world.now shift.process.0 c.args.to.0 shift.sound shift.process_known c.requires.machine)
    c.if-not-has_room.true c.has_room.ensures (λ met. met.room)

pub returns-then-not-is_alone-clause-fits : goal.returns-then-not-is_alone-clause-fits
returns-then-not-is_alone-clause-fits c =
    let shift = c.args.self.now in
    unmet shift.world.now shift.process.0 c.args.to.0 c.is_alone.result
    (at_of shift.world.now shift.process.0 c.args.to.0 shift.sound shift.process_known c.requires.machine)
    c.if-not-is_alone.true c.is_alone.ensures (λ met. met.alone)

pub returns-then-not-has_room_between-clause-fits : goal.returns-then-not-has_room_between-clause-fits
returns-then-not-has_room_between-clause-fits c =
    let shift = c.args.self.now in
    unmet shift.world.now shift.process.0 c.args.to.0 c.has_room_between.result
    (at_of shift.world.now shift.process.0 c.args.to.0 shift.sound shift.process_known c.requires.machine)
    c.if-not-has_room_between.true c.has_room_between.ensures (λ met. met.between)

pub returns-then-not-keeps_spread-clause-fits : goal.returns-then-not-keeps_spread-clause-fits
returns-then-not-keeps_spread-clause-fits c =
    let shift = c.args.self.now in
    unmet shift.world.now shift.process.0 c.args.to.0 c.keeps_spread.result
    (at_of shift.world.now shift.process.0 c.args.to.0 shift.sound shift.process_known c.requires.machine)
    c.if-not-keeps_spread.true c.keeps_spread.ensures (λ met. met.spread)

pub returns-clause-fits : goal.returns-clause-fits
returns-clause-fits c =
    let shift = c.args.self.now in
    let w = shift.world.now in
    let at = at_of w shift.process.0 c.args.to.0 shift.sound shift.process_known c.requires.machine in (
      λ test. unbroken w shift.process.0
          c.args.to.0 at
          (record {
            apart = λ same. c.if-to-self.false (sym same ∙ sym shift.from_is);
            admitted = c.is_admitted.ensures.0 test;
            room = c.has_room.ensures.0 c.if-not-has_room.false;
            alone = c.is_alone.ensures.0 c.if-not-is_alone.false;
            between = c.has_room_between.ensures.0 c.if-not-has_room_between.false;
            spread = c.keeps_spread.ensures.0 c.if-not-keeps_spread.false;
            leaves = c.keeps_dependants.ensures.0 c.if-not-keeps_dependants.false;
            needs = c.finds_needs_or_lacks.ensures.finds.0 c.if-not-finds_needs_or_lacks.false;
          }),
      λ none. c.is_admitted.ensures.1
          (allowed w shift.process.0 c.args.to.0
          at
          none).admitted,
    )
