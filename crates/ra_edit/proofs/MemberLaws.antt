-- What is kept of the members of the services, as processes come and go.
use Rattle.std.proofs.lemmas.Grind.{common_steps}
use Rattle.std.proofs.Common.{◌≡◌, ℕ, ◌+◌, ◌^◌, ◌<◌, ◌≤◌, Bool, true, eqb, ltb, ◌&&◌, List, slice_index}
use Rattle.std.proofs.Common.{refl, sym, ap, ap₂, ◌∙◌, arith, eq-eqb, ne_eqb}
use Rattle.ra_base.specs.Sums.{one_if, total}
use Rattle.ra_base.specs.declared.ids.Machine.{Machine}
use Rattle.ra_base.proofs.Counts.{count_same}
use Rattle.ra_base.proofs.Sums.{total_none, total_bound}
use Rattle.ra_model.specs.declared.raw.ProcessRow.{ProcessRow}
use Rattle.ra_model.specs.declared.raw.Tables.{Tables}
use Rattle.ra_model.specs.Numbers.{process_count, service_count, process_row, service_of, location_of}
use Rattle.ra_model.specs.Assignments.{machine_at, tally}
use Rattle.ra_model.specs.Services.{is_of, of_service, members_at, in_location, locations_of}
use Rattle.ra_model.proofs.TallyLemmas.{tally_more}
use Rattle.ra_edit.specs.declared.members.Members.{Members}
use Rattle.ra_edit.specs.declared.members.Spot.{Spot}
use Rattle.ra_edit.specs.declared.members.Spot.TheVariants.{OnMachine, InNeighbourhood, InLocation}
use Rattle.ra_edit.specs.Counts.{count_in}
use Rattle.ra_edit.specs.Locations.{AreNumbered}
use Rattle.ra_edit.specs.Drafts.{Drafted, with_process_rows, instance_of}
use Rattle.ra_edit.specs.Kinds.{HasOther}
use Rattle.ra_edit.specs.Members.{members_in, HasMembers, AreMembersOf, HasMember, AreSameIn, AreFewIn}
use Rattle.ra_edit.specs.OneMore.{OneMore}
use Rattle.ra_edit.specs.Spots.{is_there}
use Rattle.ra_edit.proofs.LocationLaws.{one_most, labels_few, labels_same, numbered_kept}
use Rattle.std.proofs.lemmas.Bool.{and_right}
use Rattle.ra_edit.proofs.ScanLaws.{location_told}
use Rattle.ra_edit.proofs.AddedLaws.{location_small}
use Rattle.ra_edit.proofs.ShareLaws.{members_more}
use Rattle.ra_edit.proofs.BrokenLaws.{renamed}

-- whether a process is at a spot is a question of its machine alone

there_same : (i : Tables) (spot : Spot) (p q at : ℕ) → is_there i spot p at ≡ is_there i spot q at
there_same i (OnMachine m) p q at = refl
there_same i (InNeighbourhood label) p q at = refl
there_same i (InLocation label) p q at = refl

there_as : {at other : ℕ} (i j : Tables) (spot : Spot) (p q : ℕ) → j ≡ i → at ≡ other →
    is_there i spot p at ≡ is_there j spot q other
there_as {other} i j spot p q origin same = cc (there_same i spot p q other)

-- one process after another is counted

pub members_none : {d : Drafted} {members : Members} → ((s x : ℕ) → count_in members.machines s x ≡ 0) →
    ((s x : ℕ) → count_in members.neighbourhoods s x ≡ 0) → ((s x : ℕ) → count_in members.locations.counts s x ≡ 0) →
    AreNumbered (service_count d.origin) members.locations → HasMembers d 0 members
unfolding tally
members_none {d} {members} machines near locations numbered = grind (arith, common_steps, total_none)

pub members_next : {d : Drafted} {p s m : ℕ} {old new : Members} → HasMembers d p old →
    s ≡ service_of (instance_of d) p → m ≡ machine_at d.current p → HasMember d.origin s m old new →
    AreNumbered (service_count d.origin) new.locations → HasMembers d (p + 1) new
unfolding of_service is_of
members_next {d} {p} has s_is m_is one numbered = grind (arith, common_steps, there_as, tally_more)

-- what is counted of a draft is what the definitions give

pub members_told : {d : Drafted} {members : Members} (s : ℕ) (spot : Spot) → AreMembersOf d members →
    members_in members s spot ≡ members_at (instance_of d) d.current s (is_there d.origin spot)
unfolding members_at process_count with_process_rows
members_told s spot has = has.each s spot

members_from : {d : Drafted} {members : Members} →
    ((s : ℕ) (spot : Spot) →
    members_in members s spot ≡ members_at (instance_of d) d.current s (is_there d.origin spot)) →
    AreNumbered (service_count d.origin) members.locations → AreMembersOf d members
unfolding members_at process_count with_process_rows
members_from each numbered = record { each = each; numbered = numbered }

pub locations_told : {d : Drafted} {members : Members} (s : ℕ) → s < service_count d.origin → AreMembersOf d members →
    slice_index members.locations.numbers.items s ≡ locations_of (instance_of d) d.current s
unfolding locations_of
locations_told {d} {members} s s_in has = has.numbered.each s s_in
    ∙ count_same (2 ^ 32) (λ x. ltb 0 (count_in members.locations.counts s x))
    (λ x. ltb 0 (in_location (instance_of d) d.current s x))
    (λ x within. ap (ltb 0) (location_told d d.current s x
    (members_told s (InLocation x) has)))

pub members_stay : {d : Drafted} {n : ℕ} {old new : Members} → HasMembers d n old → AreSameIn old new →
    HasMembers d n new
members_stay {old} {new} has same = record {
  each = λ s spot. same.each s spot ∙ has.each s spot;
  numbered = numbered_kept has.numbered same.numbers
      (labels_same old.locations.counts new.locations.counts (λ s x. same.each s (InLocation x)));
}

pub members_few : {d : Drafted} {n : ℕ} {old new : Members} → n ≤ 50000 → HasMembers d n old → AreSameIn old new →
    AreFewIn new
unfolding tally of_service is_of
members_few {d} {n} {new} few has same = record {
  each = λ s spot. omega (
    arith,
    few,
    has.each s spot,
    same.each s spot,
    total_bound n 1 (λ p. one_if (is_of (instance_of d) s p && is_there d.origin spot p (machine_at d.current p)))
        (λ p within. one_most (is_of (instance_of d) s p && is_there d.origin spot p (machine_at d.current p))),
  );
  locations = λ s. omega (
    arith,
    few,
    count_same (2 ^ 32) (λ x. ltb 0 (count_in new.locations.counts s x))
        (λ x. ltb 0 (total n (λ p. share s p x)))
        (λ x within. cc (same.each s (InLocation x), has.each s (InLocation x))),
    labels_few n (2 ^ 32) (share s) (λ p. location_of d.origin (machine_at d.current p))
        (λ p. location_small d.origin (machine_at d.current p))
        (λ p x apart. ap one_if (and_right _ _
        (ne_eqb (location_of d.origin (machine_at d.current p)) x (λ is. apart (sym is))))),
  );
}
  where
    share : ℕ → ℕ → ℕ → ℕ
    share s p x = one_if (eqb (service_of (instance_of d) p) s && eqb (location_of d.origin (machine_at d.current p)) x)

-- one process more

pub one_member : {d e : Drafted} {p : ℕ} (s : ℕ) (spot : Spot) → OneMore d e p →
    members_at (instance_of e) e.current s (is_there e.origin spot) ≡
    members_at (instance_of d) d.current s (is_there d.origin spot)
    + one_if (eqb (service_of (instance_of e) p) s && is_there e.origin spot 0 (machine_at e.current p))
one_member {d} {e} {p} s spot more =
    members_more s (is_there d.origin spot) (is_there e.origin spot) more
    (λ k q same. there_as d.origin e.origin spot k q more.origin
    same.here)
    ∙ ap (λ b. members_at (instance_of d) d.current s (is_there d.origin spot)
    + one_if (eqb (service_of (instance_of e) p) s && b)) (there_same e.origin spot p 0 (machine_at e.current p))

pub members_come : {d e : Drafted} {p s m : ℕ} {old new : Members} → AreMembersOf d old → OneMore d e p →
    service_of (instance_of e) p ≡ s → machine_at e.current p ≡ m → HasMember d.origin s m old new →
    AreNumbered (service_count d.origin) new.locations → AreMembersOf e new
members_come {d} {e} has more s_is m_is one numbered =
    members_from (λ t spot. cc (
      one.each t spot,
      members_told t spot has,
      there_as d.origin e.origin spot 0 0 more.origin (sym m_is),
      one_member t spot more,
    ))
    (rw (← more.origin) at numbered)

pub members_go : {d e : Drafted} {p s m : ℕ} {old new : Members} → AreMembersOf e old → OneMore d e p →
    s ≡ service_of (instance_of e) p → m ≡ machine_at e.current p → HasMember e.origin s m new old →
    AreNumbered (service_count e.origin) new.locations → AreMembersOf d new
members_go {e} {new} has more s_is m_is one numbered = members_from (λ t spot.
    let both = one.each t spot
    ∙ ap (λ b. members_in new t spot + one_if b)
    (ap₂ (λ x b. eqb x t && b) s_is (ap (is_there e.origin spot 0) m_is)) in
    omega (arith, both, members_told t spot has, one_member t spot more)) (rw more.origin at numbered)

-- the process itself is counted where it is
pub member_there : {d e : Drafted} {p s m : ℕ} {members : Members} (spot : Spot) → AreMembersOf e members →
    OneMore d e p → s ≡ service_of (instance_of e) p → m ≡ machine_at e.current p →
    is_there e.origin spot 0 m ≡ true → 0 < members_in members s spot
member_there {e} {p} {s} spot has more s_is m_is there = omega (
  arith,
  members_told s spot has,
  rw (
    eq-eqb (service_of (instance_of e) p) s (sym s_is),
    (ap (is_there e.origin spot 0) (sym m_is) ∙ there),
  ) at (one_member s spot more),
)

-- other requirements of a process

members_with : (s : ℕ) (test : ℕ → ℕ → Bool) (i : Tables) (rows : List ProcessRow) (t u : List ℕ)
    (a0 a : List Machine) →
    members_at (with_process_rows i rows t) a s test ≡ members_at (with_process_rows i rows u) a s test
unfolding with_process_rows members_at tally of_service is_of service_of process_row process_count
members_with s test i rows t u a0 a = refl

pub members_resized : {d e : Drafted} {p : ℕ} {members : Members} → AreMembersOf d members → HasOther d e p →
    AreMembersOf e members
members_resized {d} {e} has other =
    let origin : e.origin ≡ d.origin = other.after.origin ∙ sym other.before.origin in
    members_from (λ s spot. members_told s spot has
    ∙ renamed (λ i a0 a. members_at i a s (is_there d.origin spot)) d e
    (members_with s (is_there d.origin spot)) origin other.rows other.initial other.current
    ∙ ap (λ (i : Tables). members_at (instance_of e) e.current s (is_there i spot)) (sym origin))
    (rw (← origin) at has.numbered)
