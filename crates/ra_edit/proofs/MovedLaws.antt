-- What an edit makes of the moved counts.
use Rattle.std.proofs.lemmas.Grind.{common_steps}
use Rattle.std.proofs.Common.{◌≡◌, ◌≢◌, ℕ, ◌+◌, ◌-◌, ◌*◌, ◌<◌, ◌≤◌, true, false, cond, eqb, ◌&&◌, List, Option}
use Rattle.std.proofs.Common.{Some, None, length, get_or, set, refl, sym, ap, ◌∙◌, ⊎_elim, arith, eq-eqb}
use Rattle.std.proofs.Common.{ne_eqb, length-set, get_or-set_same, get_or-set_other}
use Rattle.std.proofs.lemmas.Bool.{cases_eq}
use Rattle.ra_base.specs.Sums.{one_if}
use Rattle.ra_base.specs.declared.costs.MovedCount.{MovedCount}
use Rattle.ra_base.specs.declared.ids.Machine.{Machine}
use Rattle.ra_base.proofs.Greatest.{greatest_same}
use Rattle.ra_base.proofs.Sums.{total_bound}
use Rattle.ra_model.specs.declared.raw.ProcessRow.{ProcessRow}
use Rattle.ra_model.specs.declared.raw.Tables.{Tables}
use Rattle.ra_model.specs.Numbers.{process_count, process_row, service_of, service_count, service_weight_of}
use Rattle.ra_model.specs.Assignments.{machine_at, tally}
use Rattle.ra_model.specs.Costs.{service_cost}
use Rattle.ra_model.specs.Services.{members_at, moved_of, of_service, is_of}
use Rattle.ra_check.specs.Stands.{has_moved, HasMoved, AreBelow}
use Rattle.ra_check.proofs.MovedLaws.{counts_at_most_one}
use Rattle.ra_cells.specs.MovedCounts.{MovedCounts}
use Rattle.ra_cells.specs.Replaced.{counted_after, greatest_with}
use Rattle.ra_edit.specs.Drafts.{Drafted, with_process_rows, instance_of, draft_of}
use Rattle.ra_edit.specs.Kinds.{HasCome, HasGone, HasOther}
use Rattle.ra_edit.specs.Moved.{AreMovedOfDraft}
use Rattle.ra_edit.proofs.ShareLaws.{moved_more}
use Rattle.ra_edit.proofs.TestLaws.{service_weight_in, services_from}
use Rattle.ra_edit.proofs.BrokenLaws.{renamed}
use Rattle.ra_edit.proofs.VerdictLaws.{moved_same}

-- at first

-- of the first p processes at most p have moved
pub moved_under : {i : Tables} {a0 a : List Machine} {p limit : ℕ} {counts : List ℕ} → p < limit →
    HasMoved i a0 a p counts → AreBelow limit counts
unfolding tally
moved_under {i} {a0} {a} {p} few has = record {
  each = λ s. omega (
    arith,
    has.each s,
    total_bound p 1 (λ q. of_service i s (has_moved a0) q (machine_at a q))
        (λ q h. counts_at_most_one i a0 s q (machine_at a q)),
  );
}

pub moved_counted : {d : Drafted} {moved : MovedCounts} →
    HasMoved (instance_of d) d.initial d.current (length d.rows) moved.counts →
    length moved.counts ≡ service_count d.origin → AreMovedOfDraft d moved
unfolding moved_of members_at process_count with_process_rows
moved_counted has slots = record { one_each = slots; each = has.each }

-- a new draft has the processes of its instance
pub made_few : {d : Drafted} (i : Tables) (a0 a : List Machine) → d ≡ draft_of i a0 a → length d.rows ≤ process_count i
unfolding process_count
made_few i a0 a same = omega (arith, ap (λ (e : Drafted). length e.rows) same)

-- a process that has gone

gone_moved : {d e : Drafted} {p s : ℕ} (t : ℕ) → HasGone d e p → s ≡ service_of (instance_of d) p →
    moved_of (instance_of d) d.initial d.current t ≡ moved_of (instance_of e) e.initial e.current t
    + one_if (eqb s t && cond (eqb (machine_at d.initial p) (machine_at d.current p)) false true)
gone_moved t gone s_is = rw (← s_is) at (moved_more t gone.fewer)

-- one that had moved was counted for its service
pub gone_counted : {d e : Drafted} {p s : ℕ} → HasGone d e p → s ≡ service_of (instance_of d) p →
    eqb (machine_at d.initial p) (machine_at d.current p) ≡ false →
    moved_of (instance_of d) d.initial d.current s ≡ moved_of (instance_of e) e.initial e.current s + 1
gone_counted {s} gone s_is moved = rw (eq-eqb s s refl, moved) at (gone_moved s gone s_is)

gone_apart : {d e : Drafted} {p s : ℕ} (t : ℕ) → HasGone d e p → s ≡ service_of (instance_of d) p → t ≢ s →
    moved_of (instance_of d) d.initial d.current t ≡ moved_of (instance_of e) e.initial e.current t
gone_apart {s} t gone s_is apart = omega (arith, rw (ne_eqb s t (λ same. apart (sym same))) at (gone_moved t gone s_is))

-- so its service has one less
pub changed_one : {d e : Drafted} {p : ℕ} {moved : MovedCounts} (c : MovedCount) → AreMovedOfDraft d moved →
    HasGone d e p → c.service.0 ≡ service_of (instance_of d) p →
    eqb (machine_at d.initial p) (machine_at d.current p) ≡ false → c.before ≡ get_or moved.counts c.service.0 0 →
    c.after ≡ c.before - 1 → (t : ℕ) → counted_after (Some c) (λ s. get_or moved.counts s 0) t ≡
    moved_of (instance_of e) e.initial e.current t
unfolding counted_after
changed_one c are gone s_is apart before after t = ⊎_elim
    (λ (here : t ≡ c.service.0).
    rw (eq-eqb t c.service.0 here, here)
    (omega (arith, after, before, are.each c.service.0, gone_counted gone s_is apart)))
    (λ (other : t ≢ c.service.0).
    rw (ne_eqb t c.service.0 other) (are.each t ∙ gone_apart t gone s_is other))
    (cases_eq t c.service.0)

pub changed_none : {d e : Drafted} {p : ℕ} {moved : MovedCounts} → AreMovedOfDraft d moved → HasGone d e p →
    machine_at d.initial p ≡ machine_at d.current p → (t : ℕ) → counted_after None (λ s. get_or moved.counts s 0) t ≡
    moved_of (instance_of e) e.initial e.current t
unfolding counted_after
changed_none are gone stays t = are.each t ∙ (moved_same t gone.fewer stays)

-- counts that are changed in their list
replaced : (counts : List ℕ) (c : MovedCount) (s : ℕ) → c.service.0 < length counts →
    get_or (set counts c.service.0 c.after) s 0 ≡ counted_after (Some c) (λ k. get_or counts k 0) s
unfolding counted_after
replaced counts c s there = grind (arith, common_steps, eq-eqb, get_or-set_same, ne_eqb, get_or-set_other)

slots_gone : {d e : Drafted} {p : ℕ} {moved : MovedCounts} → AreMovedOfDraft d moved → HasGone d e p →
    length moved.counts ≡ service_count e.origin
slots_gone are gone = cc (are.one_each, gone.fewer.origin)

pub followed_one : {d e : Drafted} {p : ℕ} {moved new : MovedCounts} (c : MovedCount) → AreMovedOfDraft d moved →
    HasGone d e p → c.service.0 < length moved.counts → new.counts ≡ set moved.counts c.service.0 c.after →
    ((t : ℕ) → counted_after (Some c) (λ s. get_or moved.counts s 0) t ≡
    moved_of (instance_of e) e.initial e.current t) → AreMovedOfDraft e new
followed_one {moved} c are gone there made each = grind (arith, common_steps, length-set, slots_gone, replaced)

pub followed_none : {d e : Drafted} {p : ℕ} {moved : MovedCounts} → AreMovedOfDraft d moved → HasGone d e p →
    ((t : ℕ) → counted_after None (λ s. get_or moved.counts s 0) t ≡
    moved_of (instance_of e) e.initial e.current t) → AreMovedOfDraft e moved
unfolding counted_after
followed_none are gone each = record { one_each = slots_gone are gone; each = each }

-- the greatest count after the change is that of the definition
pub cost_without : (d e : Drafted) (p : ℕ) (moved : MovedCounts) (change : Option MovedCount) (weight most : ℕ) →
    AreMovedOfDraft d moved → HasGone d e p → ((t : ℕ) → counted_after change (λ s. get_or moved.counts s 0) t ≡
    moved_of (instance_of e) e.initial e.current t) → weight ≡ service_weight_of d.origin →
    most ≡ greatest_with moved.counts change None None → weight * most ≡
    service_cost (instance_of e) e.initial e.current
unfolding service_cost greatest_with counted_after
cost_without d e p moved change weight most are gone each heavy most_is =
    grind (arith, common_steps, greatest_same, slots_gone, services_from, service_weight_in)

-- a process that has come hasn't moved
pub followed_come : {d e : Drafted} {s m : ℕ} {moved : MovedCounts} → AreMovedOfDraft d moved → HasCome d e s m →
    AreMovedOfDraft e moved
followed_come are come = grind (arith, common_steps, moved_same)

-- one that requires something else is where it was
moved_with : (t : ℕ) (i : Tables) (rows : List ProcessRow) (u v : List ℕ) (a0 a : List Machine) →
    moved_of (with_process_rows i rows u) a0 a t ≡ moved_of (with_process_rows i rows v) a0 a t
unfolding with_process_rows moved_of members_at tally of_service is_of service_of process_row process_count
moved_with t i rows u v a0 a = refl

pub followed_other : {d e : Drafted} {p : ℕ} {moved : MovedCounts} → AreMovedOfDraft d moved → HasOther d e p →
    AreMovedOfDraft e moved
followed_other {d} {e} are other = grind (arith, common_steps, renamed, moved_with)
