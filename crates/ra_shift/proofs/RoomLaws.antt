-- Where one process goes to another machine: use and transient use of that machine and of the others.
use Rattle.std.proofs.Common.{◌≡◌, ◌≢◌, ℕ, ◌+◌, ◌<◌, ◌≤◌, IsTrue, List, eqb, refl, arith, eq-eqb}
use Rattle.std.proofs.lemmas.Bool.{cond-true, or_left, or_right, or_from}
use Rattle.std.proofs.Common.{◌↔◌, Bool, true, false, not, Option, Some, None, IfSome, IfNone, is_some}
use Rattle.ra_base.specs.declared.causes.Cause.{Cause}
use Rattle.ra_base.specs.declared.ids.Machine.{Machine}
use Rattle.ra_model.specs.declared.raw.Tables.{Tables}
use Rattle.ra_model.specs.Numbers.{resource_count, machine_count, process_count, transient_at, capacity_of, requirement_of}
use Rattle.ra_model.specs.Limits.{WellFormed, Small}
use Rattle.ra_model.specs.Assignments.{IsAssignment, machine_at}
use Rattle.ra_model.specs.Usage.{use_share, use_of, transient_share, transient_of}
use Rattle.ra_model.specs.Situations.{Situation, IsFeasible}
use Rattle.ra_model.proofs.TallyLemmas.{machine_at_set_same, machine_at_set_other, use_set, transient_set}
use Rattle.ra_model.proofs.TallyLemmas.{use_share_elsewhere}
use Rattle.ra_shift.specs.Conditions.{shifted, HasRoom, HasRoomBetween}
use Rattle.ra_shift.specs.Finding.{IsOver, IsOverBetween}

-- process p of an assignment that breaks nothing, and another machine
pub record IsStart (st : Situation) (p to : ℕ) : Type 0 where
  pub formed : WellFormed st.tables
  pub small : Small st.tables
  pub fits : IsAssignment st.tables st.here
  pub feasible : IsFeasible st
  pub known : p < process_count st.tables
  pub reach : to < machine_count st.tables
  pub apart : machine_at st.here p ≢ to

-- use
use_here : (i : Tables) (m r p at : ℕ) → at ≡ m → use_share i m r p at ≡ requirement_of i p r
unfolding use_share
use_here i m r p at same = cond-true (eqb at m) _ _ (eq-eqb at m same)

module _ (i : Tables) (a0 : List Machine) (m r p at : ℕ) where
  -- transient use
  between_here : at ≡ m →
      transient_share i a0 m r p at ≡ requirement_of i p r
  unfolding transient_share
  between_here same = grind (arith, or_right, eq-eqb)

  between_home : machine_at a0 p ≡ m →
      transient_share i a0 m r p at ≡ requirement_of i p r
  unfolding transient_share
  between_home home = grind (arith, or_left, eq-eqb)

  between_elsewhere : machine_at a0 p ≢ m → at ≢ m →
      transient_share i a0 m r p at ≡ 0
  unfolding transient_share
  between_elsewhere away apart = grind (arith, or_from)

module _ (st : Situation) (p to : ℕ) where
  -- where the processes are after the shift
  pub placed : IsStart st p to → machine_at (shifted st.here p to) p ≡ to
  placed h = grind (arith, machine_at_set_same)

  module _ (r : ℕ) where
    pub use_entered : IsStart st p to →
        use_of st.tables (shifted st.here p to) to r ≡ use_of st.tables st.here to r + requirement_of st.tables p r
    use_entered h = grind (arith, use_set, use_share_elsewhere, use_here)

    pub use_left : IsStart st p to →
        use_of st.tables (shifted st.here p to) (machine_at st.here p) r + requirement_of st.tables p r
        ≡ use_of st.tables st.here (machine_at st.here p) r
    use_left h = grind (arith, use_set, use_share_elsewhere, use_here)

    pub between_entered : IsStart st p to → machine_at st.start p ≢ to →
        transient_of st.tables st.start (shifted st.here p to) to r ≡ transient_of st.tables st.start st.here to r
        + requirement_of st.tables p r
    between_entered h away = grind (arith, transient_set, between_elsewhere, between_here)

    between_returned : IsStart st p to → machine_at st.start p ≡ to →
        transient_of st.tables st.start (shifted st.here p to) to r ≡ transient_of st.tables st.start st.here to r
    between_returned h home = grind (arith, transient_set, between_home)

  pub use_other : (m r : ℕ) → IsStart st p to → m ≢ to →
      use_of st.tables (shifted st.here p to) m r ≤ use_of st.tables st.here m r
  use_other m r h apart = grind (arith, use_set, use_share_elsewhere)

  between_less : (m r : ℕ) → to ≢ m →
      transient_share st.tables st.start m r p to ≤ transient_share st.tables st.start m r p (machine_at st.here p)
  between_less m r apart = grind (arith, between_home, between_elsewhere)

  pub between_other : (m r : ℕ) → IsStart st p to → m ≢ to →
      transient_of st.tables st.start (shifted st.here p to) m r ≤ transient_of st.tables st.start st.here m r
  between_other m r h apart = grind (arith, transient_set, between_less)

  -- what the constraints say of the machine that is entered
  pub room_from : IsStart st p to → IsFeasible (record st { here = shifted st.here p to }) →
      HasRoom st.tables st.here p to
  room_from h after = grind (arith, use_entered)

  pub between_from : IsStart st p to →
      IsFeasible (record st { here = shifted st.here p to }) → HasRoomBetween st p to
  between_from h after = grind (arith, between_entered)

  -- and that this is all
  pub capacity_after : IsStart st p to → HasRoom st.tables st.here p to →
      (m r : ℕ) → m < machine_count st.tables → r < resource_count st.tables →
      use_of st.tables (shifted st.here p to) m r ≤ capacity_of st.tables m r
  capacity_after h room m r m_in r_in = grind (arith, use_entered, use_other)

  entered_between : IsStart st p to → HasRoomBetween st p to →
      (r : ℕ) → r < resource_count st.tables → IsTrue (transient_at st.tables r) →
      transient_of st.tables st.start (shifted st.here p to) to r ≤
      capacity_of st.tables to r
  entered_between h room r r_in transient = grind (arith, between_returned, between_entered)

  pub transient_after : IsStart st p to → HasRoomBetween st p to →
      (m r : ℕ) → m < machine_count st.tables → r < resource_count st.tables → IsTrue (transient_at st.tables r) →
      transient_of st.tables st.start (shifted st.here p to) m r ≤ capacity_of st.tables m r
  transient_after h room m r m_in r_in transient = grind (arith, entered_between, between_other)

  -- a machine of which a resource is too much has no room
  pub not_over : (cause : Cause) → IsOver st p to cause → HasRoom st.tables st.here p to → ⊥
  not_over cause over room = omega (arith, over.above, room.each over.r over.within)

  pub not_over_between : (cause : Cause) → IsOverBetween st p to cause →
      HasRoomBetween st p to → ⊥
  not_over_between cause over room =
      omega (arith, over.above, room.each over.r over.within over.transient over.away)

pub others : (a : List Machine) (p to k : ℕ) → k ≢ p → machine_at (shifted a p to) k ≡ machine_at a k
others a p to k apart = machine_at_set_other a p (record { 0 = to }) k apart

-- a test that finds a cause, or none if there is room
pub room_decided : (cause : Option Cause) (none : Bool) {Room : Type 0} {Over : Cause → Type 0} → IfSome cause Over →
    IfNone cause Room → ((one : Cause) → Over one → Room → ⊥) → is_some cause ≡ not none → (none ≡ true) ↔ Room
room_decided (Some one) true over _ apart is = absurd (cc)
room_decided (Some one) false over _ apart is = (λ yes. absurd (cc), λ room. absurd (apart one over room))
room_decided None true _ room _ is = (λ _. room, λ _. refl)
room_decided None false _ room _ is = absurd (cc)
