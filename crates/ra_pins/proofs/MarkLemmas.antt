-- Marks of the machines on which flagged processes of a service start.
use Rattle.std.proofs.Common.{inl, inr, ◌≡◌, ℕ, suc, ◌+◌, ◌<◌, Bool, true, false, ◌&&◌, cond, eqb, ltb, List}
use Rattle.std.proofs.Common.{length}
use Rattle.std.proofs.Common.{get_or, set, refl, sym, ap, ◌∙◌, arith, length-set, get_or-set_same, get_or-set_other}
use Rattle.std.proofs.Common.{eq-eqb, ne_eqb}
use Rattle.std.proofs.lemmas.Bool.{cases_eq, cases_Bool, cond-true, cond-false, and_left, and_parts, both_ways}
use Rattle.std.proofs.lemmas.Bool.{eqb-true, false_from_ne_true}
use Rattle.std.proofs.lemmas.List.{get_or_read}
use Rattle.ra_base.specs.declared.ids.Machine.{Machine}
use Rattle.ra_base.specs.declared.ids.Process.{Process}
use Rattle.ra_base.proofs.Counts.{count_no}
use Rattle.ra_model.specs.declared.raw.Tables.{Tables}
use Rattle.ra_model.specs.Numbers.{machine_count, service_count, process_count}
use Rattle.ra_model.specs.Assignments.{IsAssignment, machine_at}
use Rattle.ra_model.specs.Services.{is_of}
use Rattle.ra_model.specs.Members.{AreMembers, members_of, member_at}
use Rattle.ra_model.proofs.MemberLemmas.{members_count, member_within}
use Rattle.ra_pins.specs.Pinned.{some_of, holds, flagged_starts_on}
use Rattle.ra_pins.specs.PinLists.{flag_at}
use Rattle.ra_pins.specs.Marks.{AreTouched, AreMarksOfFlagged, AreFlaggedMarked, is_seat, AreFlaggedAndSeated}
use Rattle.ra_pins.specs.Marks.{IsStampSet}
use Rattle.ra_pins.proofs.RoundLemmas.{some_yes, some_found, some_no, same_tests}

-- reads

pub flag_read : (flags : List Bool) (p : ℕ) (b : Bool) → p < length flags → b ≡ get_or flags p b → b ≡ flag_at flags p
unfolding flag_at
flag_read flags p b within read = get_or_read flags p b within read false

-- what a stamp leaves, process by process

some_none : (test : ℕ → Bool) → some_of 0 test ≡ false
some_none test = grind (arith, some_no)

some_same : (n : ℕ) (test : ℕ → Bool) → test n ≡ false → some_of (n + 1) test ≡ some_of n test
unfolding some_of
some_same n test fails = ap (ltb 0) (count_no n test fails)

pub set_none : (test : ℕ → ℕ → Bool) (stamp : ℕ) (marks : List ℕ) → IsStampSet test 0 stamp marks marks
set_none test stamp marks = record {
  one_each = refl;
  each = λ m h. sym (cond-false _ stamp (get_or marks m 0) (some_none (test m)));
}

module _ (test : ℕ → ℕ → Bool) (n stamp : ℕ) where
  pub set_free : (old new : List ℕ) → ((m : ℕ) → test m n ≡ false) → IsStampSet test n stamp old new →
      IsStampSet test (n + 1) stamp old new
  set_free old new fails is = record {
    one_each = is.one_each;
    each = λ m h. is.each m h ∙ ap (λ b. cond b stamp (get_or old m 0)) (sym (some_same n _ (fails m)));
  }

  pub set_more : (at : ℕ) (old new : List ℕ) → ((m : ℕ) → test m n ≡ eqb at m) → at < length old →
      IsStampSet test n stamp old new → IsStampSet test (n + 1) stamp old (set new at stamp)
  set_more at old new passes within is = record {
    one_each = length-set new at stamp ∙ is.one_each;
    each = λ m h. elim (cases_eq m at) [
      | inl here ↦ ap (λ k. get_or (set new at stamp) k 0) here
          ∙ get_or-set_same new at stamp 0 (omega (arith, is.one_each))
          ∙ sym (cond-true _ stamp (get_or old m 0)
          (some_yes (n + 1) n _ (omega arith) (passes m ∙ eq-eqb at m (sym here))))
      | inr apart ↦ get_or-set_other new at m stamp 0 apart ∙ is.each m h
          ∙ ap (λ b. cond b stamp (get_or old m 0))
          (sym (some_same n _ (passes m ∙ ne_eqb at m (λ e. apart (sym e)))))
    ];
  }

module _ (a0 : List Machine) (flags : List Bool) (processes : List Process) (m k p : ℕ) where
  pub seat_flagged : (at : ℕ) (b : Bool) → p ≡ member_at processes k → at ≡ machine_at a0 p → b ≡ flag_at flags p →
      b ≡ true → is_seat a0 flags processes m k ≡ eqb at m
  unfolding is_seat
  seat_flagged at b p_is at_is flag is_yes = rw (← p_is, ← at_is, ← flag, is_yes) refl

  pub seat_free : (b : Bool) → p ≡ member_at processes k → b ≡ flag_at flags p → b ≡ false →
      is_seat a0 flags processes m k ≡ false
  unfolding is_seat
  seat_free b p_is flag is_no = grind (arith, and_left)

module _ (i : Tables) (a0 : List Machine) (flags : List Bool) (members : List (List Process)) (s : ℕ) where
  -- the members of a service

  pub seated : (size : ℕ) → IsAssignment i a0 → AreMembers members i → s < service_count i →
      length flags ≡ process_count i → size ≡ machine_count i → AreFlaggedAndSeated a0 flags (members_of members s) size
  seated size fits are s_in flagged sized = record {
    flagged = λ k h. omega (arith, flagged, (member_within i s _ k (are.each s s_in) h).0);
    placed = λ k h. omega (arith, fits.one_each, (member_within i s _ k (are.each s s_in) h).0);
    within = λ k h.
        omega (
          arith,
          sized,
          fits.in_range (member_at (members_of members s) k)
              (member_within i s _ k (are.each s s_in) h).0,
        );
  }

  seats_taken : (m : ℕ) → AreMembers members i → s < service_count i →
      some_of (length (members_of members s)) (is_seat a0 flags (members_of members s) m) ≡
      flagged_starts_on i a0 (flag_at flags) s m
  unfolding some_of is_seat flagged_starts_on holds
  seats_taken m are s_in =
      ap (ltb 0) (members_count i s (members_of members s) (λ z. flag_at flags z && eqb (machine_at a0 z) m)
      (are.each s s_in))

  module _ (stamp : ℕ) (old new : List ℕ) (are : AreMembers members i) (s_in : s < service_count i)
      (stamped : stamp ≡ suc s) (marked : AreMarksOfFlagged i a0 flags old)
      (is : IsStampSet (is_seat a0 flags (members_of members s)) (length (members_of members s)) stamp old new) where
    -- a mark of the service that was stamped, and of another one
    pub marks_after : AreMarksOfFlagged i a0 flags new
    marks_after = record {
      one_each = is.one_each ∙ marked.one_each;
      each = λ m u h mark. elim
          (cases_Bool (some_of (length (members_of members s)) (is_seat a0 flags (members_of members s) m))) [
            | inl some ↦ let same : u ≡ s =
                omega (
                  arith,
                  mark,
                  stamped,
                  is.each m (omega (arith, marked.one_each)),
                  cond-true _ stamp (get_or old m 0) some,
                ) in
                ap (λ k. flagged_starts_on i a0 (flag_at flags) k m) same ∙ sym (seats_taken m are s_in)
                ∙ some
            | inr none ↦ marked.each m u h
                (omega (
                  arith,
                  mark,
                  is.each m (omega (arith, marked.one_each)),
                  cond-false _ stamp (get_or old m 0) none,
                ))
          ];
    }

    pub stamped_after : AreFlaggedMarked i a0 flags s new
    stamped_after =
        let after = marks_after in
        record {
          each = λ m h. same_tests _ _
              (λ e. after.each m s h (eqb-true _ _ e))
              (λ e. eq-eqb _ _ (is.each m (omega (arith, marked.one_each))
              ∙ cond-true _ stamp (get_or old m 0) (seats_taken m are s_in ∙ e)
              ∙ stamped));
        }

module _ (i : Tables) (a0 : List Machine) (flags : List Bool) where
  module _ (touched : List Bool) (s : ℕ) where
    -- a service that isn't touched has no flagged process
    none_taken : (m : ℕ) → AreTouched i flags touched → flag_at touched s ≡ false →
        flagged_starts_on i a0 (flag_at flags) s m ≡ false
    unfolding flagged_starts_on holds is_of
    none_taken m are free = grind (arith, false_from_ne_true, some_found, and_parts, eqb-true)

    pub stamped_free : (marks : List ℕ) (b : Bool) → AreTouched i flags touched → b ≡ flag_at touched s → b ≡ false →
        AreMarksOfFlagged i a0 flags marks → AreFlaggedMarked i a0 flags s marks
    stamped_free marks b are read free marked = record {
      each = λ m h. same_tests _ _
          (λ e. marked.each m s h (eqb-true _ _ e))
          (λ e. absurd (both_ways _ (none_taken m are (sym read ∙ free)) e));
    }
