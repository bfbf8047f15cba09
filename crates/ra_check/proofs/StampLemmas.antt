-- Marks: where processes are, what a stamp leaves, and marks that are clear.
use Rattle.std.proofs.Common.{◌≡◌, ℕ, ◌+◌, ◌<◌, ◌≤◌, ◌≢◌, true, false, Bool, eqb, ◌||◌, List, length, get_or, set, sym}
use Rattle.std.proofs.Common.{refl, ap, ◌∙◌, ⊎_elim, arith, length-set, get_or-set_other, get_or-set_same, eq-eqb}
use Rattle.std.proofs.Common.{ne_eqb}
use Rattle.std.proofs.lemmas.Bool.{cases_eq, or_right}
use Rattle.std.proofs.lemmas.List.{get_or_read}
use Rattle.ra_base.specs.Sums.{is_named}
use Rattle.ra_base.specs.declared.ids.Machine.{Machine}
use Rattle.ra_base.specs.declared.ids.Process.{Process}
use Rattle.ra_base.proofs.Named.{is_named_none, is_named_more}
use Rattle.ra_model.specs.declared.raw.Tables.{Tables}
use Rattle.ra_model.specs.Numbers.{machine_count, service_count}
use Rattle.ra_model.specs.Assignments.{IsAssignment}
use Rattle.ra_model.specs.Members.{member_at, members_of, AreMembers}
use Rattle.ra_model.specs.Places.{AreFirst}
use Rattle.ra_model.proofs.MemberLemmas.{member_within}
use Rattle.ra_model.proofs.PlaceLemmas.{place_le}
use Rattle.ra_model.proofs.TallyLemmas.{machine_at_read}
use Rattle.ra_check.specs.Stamps.{seat_of, site_of, AreSeated, ArePlacesBelow, AreMarksBelow, AreStamped}

-- a read of a mark
pub mark_read : (marks : List ℕ) (x v : ℕ) → x < length marks → v ≡ get_or marks x v → v ≡ get_or marks x 0
mark_read marks x v within read = get_or_read marks x v within read 0

-- a read of the machine of a process
pub seat_there : (processes : List Process) (k n : ℕ) → member_at processes k < n →
    (get_or processes k (record { 0 = 0 })).0 < n
unfolding member_at
seat_there processes k n within = within

pub seat_read : (a : List Machine) (processes : List Process) (k : ℕ) (m : Machine) → member_at processes k < length a →
    m ≡ get_or a (get_or processes k (record { 0 = 0 })).0 m → m.0 ≡ seat_of a processes k
unfolding seat_of member_at
seat_read a processes k m within read = machine_at_read a (get_or processes k (record { 0 = 0 })).0 m within read

pub ruleset reads = (mark_read, seat_there, seat_read)

-- the first n marks are clear
pub record AreClear (marks : List ℕ) (size n : ℕ) : Type 0 where
  pub one_each : length marks ≡ size
  pub each : (x : ℕ) → x < n → get_or marks x 0 ≡ 0

pub clear_none : (marks : List ℕ) (size : ℕ) → length marks ≡ size → AreClear marks size 0
clear_none marks size same = record { one_each = same; each = λ x within. absurd (omega arith) }

pub clear_more : (marks : List ℕ) (size n : ℕ) → AreClear marks size n → n < size →
    AreClear (set marks n 0) size (n + 1)
clear_more marks size n h within = record {
  one_each = length-set marks n 0 ∙ h.one_each;
  each = λ x below. ⊎_elim
      (λ (here : x ≡ n). rw here (get_or-set_same marks n 0 0 (omega (arith, h.one_each))))
      (λ (apart : x ≢ n). get_or-set_other marks n x 0 0 apart ∙ h.each x (omega arith))
      (cases_eq x n);
}

pub clear_all : (marks : List ℕ) (size : ℕ) → AreClear marks size size → AreMarksBelow marks size 1
clear_all marks size h = record { one_each = h.one_each; below = λ x within. omega (arith, h.each x within) }

pub ruleset clearing = (clear_none, clear_more, clear_all)

-- marks below a bound are below a greater one, and stay so when a lesser stamp is set
pub below_grows : (marks : List ℕ) (size b c : ℕ) → AreMarksBelow marks size b → b ≤ c → AreMarksBelow marks size c
below_grows marks size b c h few = record { one_each = h.one_each; below = λ x within. omega (arith, h.below x within) }

pub below_set : (marks : List ℕ) (size b x stamp : ℕ) → AreMarksBelow marks size b → stamp < b →
    AreMarksBelow (set marks x stamp) size b
below_set marks size b x stamp h less = record {
  one_each = length-set marks x stamp ∙ h.one_each;
  below = λ y within. ⊎_elim
      (λ (here : y ≡ x). rw here (omega (arith, get_or-set_same marks x stamp 0 (omega (arith, h.one_each)))))
      (λ (apart : y ≢ x). omega (arith, get_or-set_other marks x y stamp 0 apart, h.below y within))
      (cases_eq y x);
}

-- a fresh stamp is nowhere
pub stamped_none : (marks : List ℕ) (size stamp : ℕ) (e : ℕ → ℕ) → AreMarksBelow marks size stamp →
    AreStamped marks size stamp 0 e
stamped_none marks size stamp e h = record {
  exactly = λ x within. ne_eqb (get_or marks x 0) stamp (λ same. omega (arith, h.below x within))
      ∙ sym (is_named_none e x);
}

-- one place more
pub stamped_more : (marks : List ℕ) (size stamp n x : ℕ) (e : ℕ → ℕ) → AreStamped marks size stamp n e →
    length marks ≡ size → x < size → x ≡ e n → AreStamped (set marks x stamp) size stamp (n + 1) e
stamped_more marks size stamp n x e h one_each within is = record {
  exactly = λ y inside. ⊎_elim
      (λ (here : y ≡ x). eq-eqb (get_or (set marks x stamp) y 0) stamp
      (rw here (get_or-set_same marks x stamp 0 (omega arith)))
      ∙ sym (or_right (is_named n e y) (eqb (e n) y) (eq-eqb (e n) y (sym (here ∙ is))))
      ∙ sym (is_named_more n e y))
      (λ (apart : y ≢ x). ap (λ v. eqb v stamp) (get_or-set_other marks x y stamp 0 apart) ∙ h.exactly y inside
      ∙ no_more (is_named n e y) (eqb (e n) y) (ne_eqb (e n) y (λ same. apart (sym same ∙ sym is)))
      ∙ sym (is_named_more n e y))
      (cases_eq y x);
}
  where
    no_more : (s t : Bool) → t ≡ false → s ≡ (s || t)
    no_more true t none = refl
    no_more false t none = sym none

-- the processes of a service are on machines of the instance
pub seated : (i : Tables) (a : List Machine) (members : List (List Process)) (s size : ℕ) → IsAssignment i a →
    AreMembers members i → s < service_count i → size ≡ machine_count i → AreSeated a (members_of members s) size
unfolding seat_of
seated i a members s size assigned are within same = record {
  there = λ k below.
      omega (arith, assigned.one_each, (member_within i s (members_of members s) k (are.each s within) below).0);
  within = λ k below.
      omega (
        arith,
        assigned.in_range (member_at (members_of members s) k)
            (member_within i s (members_of members s) k (are.each s within) below).0,
      );
}

-- places are machines of the instance
pub placed : (label : ℕ → ℕ) (size : ℕ) (places : List Machine) → AreFirst label size places →
    ArePlacesBelow places size
placed label size places h = record {
  one_each = h.one_each;
  within = λ m within. omega (arith, place_le label size m places h within);
}

-- the place of the machine of a process
pub site_within : (places a : List Machine) (processes : List Process) (size k : ℕ) → AreSeated a processes size →
    ArePlacesBelow places size → k < length processes → site_of places a processes k < size
unfolding site_of
site_within places a processes size k seated placed below =
    placed.within (seat_of a processes k) (seated.within k below)
