-- Sums over all processes of a service, from a list of them.
use Rattle.std.proofs.Common.{ap, ⊎_elim, inl, inr, ◌≡◌, ℕ, ◌<◌, ◌≤◌, true, false, cond, eqb, List, length, sym, refl}
use Rattle.std.proofs.Common.{◌∙◌, arith}
use Rattle.std.proofs.lemmas.Bool.{cases_Bool, cases_lt, both_ways, lt-ltb}
use Rattle.ra_base.specs.Sums.{total, count, is_named, fresh}
use Rattle.ra_base.specs.declared.ids.Machine.{Machine}
use Rattle.ra_base.specs.declared.ids.Process.{Process}
use Rattle.ra_base.proofs.Sums.{total_same}
use Rattle.ra_base.proofs.Counts.{count_le}
use Rattle.ra_base.proofs.Named.{total_named, is_named_count}
use Rattle.ra_model.specs.declared.raw.Tables.{Tables}
use Rattle.ra_model.specs.Numbers.{machine_count, service_count}
use Rattle.ra_model.specs.Limits.{WellFormed}
use Rattle.ra_model.specs.Assignments.{IsAssignment, machine_at}
use Rattle.ra_model.specs.Services.{on_machine}
use Rattle.ra_model.specs.Broken.{near_of}
use Rattle.ra_model.specs.Members.{member_at, members_of, AreProcessesOf}
use Rattle.ra_model.proofs.MemberLemmas.{members_length, member_within, members_count, members_at_is}
use Rattle.ra_topology.specs.TopologyLists.{TopologyLists}
use Rattle.ra_topology.specs.Fits.{IsTopologyOf}
use Rattle.ra_repair.specs.Members.{seat_of, is_far}
use Rattle.ra_repair.specs.Penalty.{crowd_on, service_crowd, far_share, pair_far}

-- the list of a service's processes
pub members_listed : {i : Tables} {topology : TopologyLists} (s : ℕ) {list : List Process} → IsTopologyOf topology i →
    s < service_count i → list ≡ members_of topology.members s → AreProcessesOf i s list
members_listed s fits there is = rw is (fits.members.each s there)

pub members_few : {i : Tables} {s : ℕ} {list : List Process} → WellFormed i → AreProcessesOf i s list →
    length list ≤ 50000
members_few {i} {s} {list} limits are =
    omega (arith, members_length, count_le, limits.few_processes)

module _ (i : Tables) (a : List Machine) (s : ℕ) where
  module _ (k : ℕ) (list : List Process) where
    -- each has a machine
    pub seat_there : IsAssignment i a → AreProcessesOf i s list → k < length list → seat_of a list k < machine_count i
    unfolding seat_of
    seat_there fits are within = fits.in_range (member_at list k) (member_within i s list k are within).0

    -- those that are far
    pub pair_listed : (n : ℕ) → AreProcessesOf i s list → n ≡ length list →
        count n (is_far i a list s k) ≡ pair_far i a s k
    unfolding is_far pair_far far_share
    pair_listed n are all = rw all (members_count i s list (λ p. eqb (near_of i a s k p) 0) are)

  -- on a machine with none of them, none is too many
  none_crowd : (m : ℕ) (list : List Process) → AreProcessesOf i s list →
      is_named (length list) (seat_of a list) m ≡ false → crowd_on i a s m ≡ 0
  unfolding crowd_on on_machine seat_of
  none_crowd m list are none =
      let counted = count (length list) (λ k. eqb (machine_at a (member_at list k)) m) in
      let is = members_at_is i a s list (λ p at. eqb at m) are in
      elim (cases_lt 0 counted) [
        | inl some ↦ absurd
            (both_ways _ none (sym (is_named_count (length list) (λ k. machine_at a (member_at list k)) m)
            ∙ lt-ltb 0 counted some))
        | inr zeros ↦ omega arith
      ]

  pub crowd_listed : (n : ℕ) {list : List Process} → IsAssignment i a → AreProcessesOf i s list → n ≡ length list →
      total n (fresh (seat_of a list) (crowd_on i a s)) ≡ service_crowd i a s
  unfolding service_crowd
  crowd_listed n {list} fits are all = ap (λ k. total k (fresh (seat_of a list) (crowd_on i a s))) all
      ∙ total_named (machine_count i) (length list) (seat_of a list) (crowd_on i a s)
      (λ k within. seat_there k list fits are within)
      ∙ total_same (machine_count i) (λ m. cond (is_named (length list) (seat_of a list) m) (crowd_on i a s m) 0)
      (crowd_on i a s) (λ m h. ⊎_elim
      (λ (is : is_named (length list) (seat_of a list) m ≡ true). rw is refl)
      (λ (is : is_named (length list) (seat_of a list) m ≡ false). rw (is, none_crowd m list are is) refl)
      (cases_Bool (is_named (length list) (seat_of a list) m)))
