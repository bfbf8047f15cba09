-- What the counts of a draft say of the tests after an edit.
use Rattle.std.proofs.Common.{◌≡◌, ◌≢◌, ℕ, ◌+◌, ◌^◌, ◌<◌, ◌≤◌, Bool, true, false, eqb, ◌&&◌, refl, sym}
use Rattle.std.proofs.Common.{arith, eq-eqb, ne_eqb}
use Rattle.std.proofs.lemmas.Bool.{lt-ltb, le-ltb}
use Rattle.ra_base.specs.Sums.{one_if}
use Rattle.ra_model.specs.Numbers.{neighbourhood_of, location_of, service_of}
use Rattle.ra_model.specs.Assignments.{machine_at}
use Rattle.ra_model.specs.Services.{on_machine, in_neighbourhood, in_location, locations_of}
use Rattle.ra_edit.specs.Drafts.{Drafted, instance_of}
use Rattle.ra_edit.specs.Kinds.{HasCome, HasGone, IsLeft}
use Rattle.ra_edit.proofs.ShareLaws.{machine_more, neighbourhood_more, location_more, locations_more}

both_true : (b : Bool) → (b && true) ≡ b
both_true true = refl
both_true false = refl

-- a process has come to machine m

pub come_on : {d e : Drafted} {s m : ℕ} → HasCome d e s m → on_machine (instance_of e) e.current s m ≡
    on_machine (instance_of d) d.current s m + 1
come_on {e} {s} {m} come =
    rw (eq-eqb (service_of (instance_of e) _) s come.service, eq-eqb (machine_at e.current _) m come.here) at
    (machine_more s m come.more)

pub come_near : {d e : Drafted} {s m label : ℕ} (u : ℕ) → HasCome d e s m → label ≡ neighbourhood_of d.origin m →
    in_neighbourhood (instance_of e) e.current u label ≡ in_neighbourhood (instance_of d) d.current u label
    + one_if (eqb s u)
come_near {d} {s} {m} {label} u come label_is =
    let more = rw (come.service, come.here, eq-eqb (neighbourhood_of d.origin m) label (sym label_is)) at
    (neighbourhood_more u label come.more) in
    cc (both_true (eqb s u))

-- process p of service s has left machine `at`

pub gone_near : {d e : Drafted} {p s at label : ℕ} (u : ℕ) → HasGone d e p → s ≡ service_of (instance_of d) p →
    at ≡ machine_at d.current p → label ≡ neighbourhood_of d.origin at →
    in_neighbourhood (instance_of d) d.current u label ≡ in_neighbourhood (instance_of e) e.current u label
    + one_if (eqb s u)
gone_near {e} {s} {at} {label} u gone s_is at_is label_is =
    let label_e : neighbourhood_of e.origin at ≡ label = cc (gone.fewer.origin) in
    let more = rw (← s_is, ← at_is, eq-eqb (neighbourhood_of e.origin at) label label_e) at
    (neighbourhood_more u label gone.fewer) in
    cc (both_true (eqb s u))

pub gone_in : {d e : Drafted} {p s at x : ℕ} → HasGone d e p → s ≡ service_of (instance_of d) p →
    at ≡ machine_at d.current p → x ≡ location_of d.origin at → in_location (instance_of d) d.current s x ≡
    in_location (instance_of e) e.current s x + 1
gone_in {e} {s} {at} {x} gone s_is at_is x_is =
    let x_e : location_of e.origin at ≡ x = cc (gone.fewer.origin) in
    rw (← s_is, ← at_is, eq-eqb (location_of e.origin at) x x_e, eq-eqb s s refl) at (location_more s x gone.fewer)

-- the last one of its service in its location leaves one location less
pub gone_last : {d e : Drafted} {p s at x : ℕ} → HasGone d e p → s ≡ service_of (instance_of d) p →
    at ≡ machine_at d.current p → x ≡ location_of d.origin at → x < 2 ^ 32 → in_location (instance_of d) d.current s x ≡
    1 → locations_of (instance_of d) d.current s ≡ locations_of (instance_of e) e.current s + 1
gone_last {d} {e} {p} {s} {at} {x} gone s_is at_is x_is small one =
    let x_e : location_of e.origin (machine_at d.current p) ≡ x = cc (gone.fewer.origin) in
    let none : in_location (instance_of e) e.current s x ≤ 0 = omega (arith, gone_in gone s_is at_is x_is, one) in
    let all = rw (le-ltb 0 (in_location (instance_of e) e.current s x) none) at
    (locations_more gone.fewer (sym s_is) x_e small) in
    omega (arith, all)

pub gone_other : {d e : Drafted} {p s at x : ℕ} → HasGone d e p → s ≡ service_of (instance_of d) p →
    at ≡ machine_at d.current p → x ≡ location_of d.origin at → x < 2 ^ 32 → in_location (instance_of d) d.current s x ≢
    1 → locations_of (instance_of d) d.current s ≡ locations_of (instance_of e) e.current s
gone_other {d} {e} {p} {s} {at} {x} gone s_is at_is x_is small more =
    let x_e : location_of e.origin (machine_at d.current p) ≡ x = cc (gone.fewer.origin) in
    let some : 0 < in_location (instance_of e) e.current s x = omega (arith, gone_in gone s_is at_is x_is, more) in
    let all = rw (lt-ltb 0 (in_location (instance_of e) e.current s x) some) at
    (locations_more gone.fewer (sym s_is) x_e small) in
    omega (arith, all)

-- of its own service one more is near, and of each other one as many

pub come_near_mine : {d e : Drafted} {s m u label : ℕ} → HasCome d e s m → label ≡ neighbourhood_of d.origin m → u ≡ s →
    in_neighbourhood (instance_of e) e.current u label ≡ in_neighbourhood (instance_of d) d.current u label + 1
come_near_mine {s} {u} come label_is same = rw (eq-eqb s u (sym same)) at (come_near u come label_is)

pub come_near_other : {d e : Drafted} {s m label : ℕ} (u : ℕ) → HasCome d e s m → label ≡ neighbourhood_of d.origin m →
    u ≢ s → in_neighbourhood (instance_of e) e.current u label ≡ in_neighbourhood (instance_of d) d.current u label
come_near_other {e} {s} u come label_is apart =
    omega (arith, rw (ne_eqb s u (λ e. apart (sym e))) at (come_near u come label_is))

pub left_more : {d e : Drafted} {p s at label n : ℕ} → HasGone d e p → s ≡ service_of (instance_of d) p →
    at ≡ machine_at d.current p → label ≡ neighbourhood_of d.origin at →
    n ≡ in_neighbourhood (instance_of d) d.current s label → 1 < n →
    0 < in_neighbourhood (instance_of e) e.current s label
left_more {s} {at} gone s_is at_is label_is n_is more =
    let near = rw (eq-eqb s s refl) at (gone_near s gone s_is at_is label_is) in
    omega (arith, near, n_is, more)

pub gone_left : {d e : Drafted} {p s at label n : ℕ} → HasGone d e p → s ≡ service_of (instance_of d) p →
    at ≡ machine_at d.current p → label ≡ neighbourhood_of d.origin at →
    n ≡ in_neighbourhood (instance_of d) d.current s label → n ≤ 1 → IsLeft d e s label
gone_left {s} {at} gone s_is at_is label_is n_is few = record {
  origin = sym gone.fewer.origin;
  none = let near = rw (eq-eqb s s refl) at (gone_near s gone s_is at_is label_is) in
      omega (arith, near, n_is, few);
  others = λ u apart. let near = rw (ne_eqb s u (λ same. apart (sym same))) at
      (gone_near u gone s_is at_is label_is) in omega (arith, near);
}
