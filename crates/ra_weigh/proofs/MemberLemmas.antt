-- The processes of a service, as they are listed.
use Rattle.std.proofs.Common.{◌≡◌, ℕ, ◌<◌, List, length, sym}
use Rattle.ra_base.specs.Searches.{first}
use Rattle.ra_base.specs.declared.ids.Machine.{Machine}
use Rattle.ra_base.specs.declared.ids.Process.{Process}
use Rattle.ra_model.specs.declared.raw.Tables.{Tables}
use Rattle.ra_model.specs.Numbers.{service_count, process_count}
use Rattle.ra_model.specs.Members.{member_at, members_of, AreProcessesOf}
use Rattle.ra_model.specs.Broken.{pair_dependency, dependency_test, far_test}
use Rattle.ra_model.proofs.MemberLemmas.{member_within, members_first}
use Rattle.ra_topology.specs.TopologyLists.{TopologyLists}
use Rattle.ra_topology.specs.Fits.{IsTopologyOf}
use Rattle.ra_weigh.specs.Nearness.{far_member}

pub members_listed : {i : Tables} (topology : TopologyLists) (s : ℕ) {list : List Process} → IsTopologyOf topology i →
    s < service_count i → list ≡ members_of topology.members s → AreProcessesOf i s list
members_listed topology s fits there is = rw is (fits.members.each s there)

pub member_there : (i : Tables) (s k : ℕ) (list : List Process) → AreProcessesOf i s list → k < length list →
    member_at list k < process_count i
member_there i s k list are within = (member_within i s list k are within).0

-- the first of them that is far from what it needs
pub pair_listed : {i : Tables} (b : List Machine) {s : ℕ} (k : ℕ) {list : List Process} → AreProcessesOf i s list →
    pair_dependency i b s k ≡ first (length list) (far_member i b s k list)
unfolding far_member pair_dependency dependency_test
pair_listed {i} b {s} k {list} are = sym (members_first i s list (far_test i b s k) are)
