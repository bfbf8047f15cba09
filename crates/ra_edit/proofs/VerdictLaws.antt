-- What is found after an edit is what the edited draft breaks, or what it costs.
use Rattle.std.proofs.lemmas.Grind.{common_steps}
use Rattle.std.proofs.Common.{◌≡◌, ℕ, ◌+◌, ◌-◌, ◌*◌, ◌^◌, ◌<◌, ◌≤◌, false, eqb, List, [], ◌∷◌}
use Rattle.std.proofs.Common.{◌++◌, length, None, refl, sym, ap, ◌∙◌, subst, arith, eq-eqb}
use Rattle.std.proofs.lemmas.Bool.{and_right}
use Rattle.std.proofs.lemmas.Nat.{mul-lt}
use Rattle.ra_base.specs.Sums.{one_if}
use Rattle.ra_base.proofs.Tables.{cell_is}
use Rattle.std.proofs.lemmas.List.{get_or-append-add}
use Rattle.ra_base.specs.declared.costs.Parts.{Parts}
use Rattle.std.proofs.Math.Seq.{get_or-append_seam}
use Rattle.ra_base.specs.declared.ids.Machine.{Machine}
use Rattle.ra_base.specs.declared.ids.Service.{Service}
use Rattle.ra_base.proofs.Greatest.{greatest_same}
use Rattle.ra_model.specs.declared.raw.ProcessRow.{ProcessRow}
use Rattle.ra_model.specs.declared.raw.Tables.{Tables}
use Rattle.ra_model.specs.Limits.{WellFormed, Small}
use Rattle.ra_model.specs.Numbers.{resource_count, machine_count, service_count, process_count, process_row}
use Rattle.ra_model.specs.Numbers.{neighbourhood_of, service_of, process_cost_of, way_cost_of, process_weight_of}
use Rattle.ra_model.specs.Numbers.{service_weight_of, machine_weight_of}
use Rattle.ra_model.specs.Assignments.{machine_at, tally}
use Rattle.ra_model.specs.Usage.{use_of}
use Rattle.ra_model.specs.Services.{is_of, of_service, members_at, moved_of}
use Rattle.ra_model.specs.Costs.{load_cost, balance_cost, process_share, process_cost, service_cost, way_share}
use Rattle.ra_model.specs.Costs.{machine_cost, objective, parts_of}
use Rattle.ra_model.specs.MachineCosts.{row_load, row_balance}
use Rattle.ra_model.proofs.BoundLemmas.{load_under, balance_under, process_under, service_under, machine_under}
use Rattle.ra_edit_read.specs.declared.edits.Edit.{Edit}
use Rattle.ra_edit_read.specs.declared.edits.Edit.TheVariants.{Add, Retire, Resize}
use Rattle.ra_edit_read.specs.EditLists.{FitsInstance}
use Rattle.ra_edit.specs.declared.costs.MachineCosts.{MachineCosts}
use Rattle.ra_edit.specs.Drafts.{Drafted, with_process_rows, instance_of}
use Rattle.ra_edit.specs.Editing.{process_of, put_row, added, retired, resized, edited}
use Rattle.ra_edit.specs.OneMore.{OneMore}
use Rattle.ra_edit.specs.Kinds.{HasCome, HasGone, HasOther, Asks, IsEdited}
use Rattle.ra_edit.specs.MachineCosts.{AreCostsOn}
use Rattle.ra_edit.specs.Touched.{added_breaks, retired_breaks, resized_breaks}
use Rattle.ra_edit.specs.Replies.{barred, broken_in}
use Rattle.ra_edit.specs.Keeping.{IsSoundDraft, IsKeptDraft}
use Rattle.ra_edit.proofs.ShareLaws.{load_more, balance_more, process_more, way_more, moved_more, load_term}
use Rattle.ra_edit.proofs.ShareLaws.{balance_term}
use Rattle.ra_edit.proofs.BrokenLaws.{services_with, with_both, renamed}
use Rattle.ra_edit.proofs.TestLaws.{service_weight_in}
use Rattle.ra_edit.proofs.AddedLaws.{added_law}
use Rattle.ra_edit.proofs.RetiredLaws.{retired_law}
use Rattle.ra_edit.proofs.ResizedLaws.{resized_law}
use Rattle.ra_edit.proofs.SoundLaws.{few_of, free_retire, free_resize}
use Rattle.ra_edit.proofs.OneMoreLaws.{more_joined, more_retired, requirement_read, put_cell_here, put_cell_other}

-- a process has come

service_read : (i : Tables) (rows : List ProcessRow) (requirements : List ℕ) (row : ProcessRow) →
    service_of (with_process_rows i (rows ++ row ∷ []) requirements) (length rows) ≡ row.service.0
unfolding with_process_rows service_of process_row
service_read i rows requirements row = ap (λ (x : ProcessRow). x.service.0) (get_or-append_seam rows row [] _)

machine_read : (a : List Machine) (n : ℕ) (m : Machine) → length a ≡ n → machine_at (a ++ m ∷ []) n ≡ m.0
unfolding machine_at
machine_read a n m size = ap (λ (x : Machine). x.0) (rw size at (get_or-append_seam a m [] (record { 0 = 0 })))

has_come : {d e : Drafted} (s : Service) (m : Machine) (c : ℕ) (requirements : List ℕ) → IsSoundDraft d →
    s.0 < service_count d.origin → m.0 < machine_count d.origin → e ≡ added d s m c requirements → HasCome d e s.0 m.0
unfolding added process_of
has_come {d} s m c requirements sound s_in m_in same =
    let few = few_of sound in
    subst (λ (f : Drafted). HasCome d f s.0 m.0) (sym same) (record {
      more = more_joined (process_of s c) requirements m m few;
      service = service_read d.origin d.rows (d.requirements ++ requirements) (process_of s c);
      home = machine_read d.initial (length d.rows) m few.initial;
      here = machine_read d.current (length d.rows) m few.current;
      service_in = s_in;
      machine_in = m_in;
    })

pub has_gone : {d : Drafted} (p : ℕ) → IsSoundDraft d → p < length d.rows → HasGone d (retired d p) p
has_gone {d} p sound within =
    let few = few_of sound in
    record { there = within; fewer = more_retired d.requirements few (λ q r q_in apart column. refl) within }

has_other : {d e : Drafted} (p : ℕ) (requirements : List ℕ) → IsSoundDraft d → p < length d.rows →
    length requirements ≡ resource_count d.origin → e ≡ resized d p requirements → HasOther d e p
unfolding resized
has_other {d} p requirements sound within width same =
    let few = few_of sound in
    subst (λ (f : Drafted). HasOther d f p) (sym same) (record {
      there = within;
      before = more_retired d.requirements few (λ q r q_in apart column. refl) within;
      after = more_retired (put_row (resource_count d.origin) d.requirements p requirements) few
          (λ q r q_in apart column. put_cell_other (resource_count d.origin) (length d.rows) p q r d.requirements
          requirements few.table within width apart column) within;
      rows = refl;
      initial = refl;
      current = refl;
    })

-- what it requires

come_asks : {d : Drafted} (s : Service) (m : Machine) (c : ℕ) (requirements : List ℕ) → IsSoundDraft d →
    length requirements ≡ resource_count d.origin → Asks (added d s m c requirements) (length d.rows) requirements
unfolding added
come_asks {d} s m c requirements sound width =
    grind (arith, common_steps, requirement_read, cell_is, few_of, get_or-append-add)

other_asks : {d : Drafted} (p : ℕ) (requirements : List ℕ) → IsSoundDraft d → p < length d.rows →
    length requirements ≡ resource_count d.origin → Asks (resized d p requirements) p requirements
unfolding resized
other_asks {d} p requirements sound within width =
    let w = resource_count d.origin in
    record {
      one_each = width;
      each = λ r column. sym (requirement_read d.origin d.rows (put_row w d.requirements p requirements) p r
          ∙ put_cell_here w (length d.rows) p r d.requirements requirements (few_of sound).table within width column);
    }

pub edited_is : {d e : Drafted} (edit : Edit) (requirements : List ℕ) → IsSoundDraft d →
    barred (length d.rows) edit ≡ None → FitsInstance d.origin edit → length requirements ≡ resource_count d.origin →
    e ≡ edited d edit requirements → IsEdited d edit requirements e
unfolding edited
edited_is {d} (Add s m c) requirements sound free fits width same = (
  has_come s m c requirements sound fits.0 fits.1 same,
  subst (λ (f : Drafted). Asks f (length d.rows) requirements) (sym same) (come_asks s m c requirements sound width),
)
edited_is {d} (Retire p) requirements sound free fits width same =
    rw same (has_gone p sound (free_retire (length d.rows) p free).0)
edited_is {d} (Resize p) requirements sound free fits width same = (
  has_other p requirements sound (free_resize (length d.rows) p free) width same,
  subst (λ (f : Drafted). Asks f p requirements) (sym same)
      (other_asks p requirements sound (free_resize (length d.rows) p free) width),
)

-- what is broken

pub come_broken : {d e : Drafted} {parts : Parts} {s m : ℕ} → IsKeptDraft d parts → HasCome d e s m →
    broken_in e ≡ added_breaks (instance_of e) e.initial e.current s m
unfolding broken_in
come_broken {d} {e} {s} {m} kept come = added_law d e (length d.rows) s m come.more kept.unbroken come.service come.home
    come.here come.service_in come.machine_in

pub service_at : {d : Drafted} {p s : ℕ} → IsSoundDraft d → p < length d.rows → s ≡ service_of (instance_of d) p →
    s < service_count d.origin
unfolding with_process_rows process_count service_count
service_at {p} sound within is = rw is (sound.well_formed.services p within)

pub gone_broken : {d e : Drafted} {parts : Parts} {p s : ℕ} (label : ℕ) → IsKeptDraft d parts → HasGone d e p →
    s ≡ service_of (instance_of d) p → label ≡ neighbourhood_of d.origin (machine_at d.current p) →
    broken_in e ≡ retired_breaks (instance_of e) e.current s label
unfolding broken_in
gone_broken {d} {e} {p} {s} label kept gone s_is label_is = grind (arith, common_steps, retired_law, service_at)

machines_less : (d : Drafted) (p : ℕ) → machine_count (retired d p).origin ≡ machine_count d.origin
unfolding retired
machines_less d p = refl

in_range : (d : Drafted) (a : List Machine) (p : ℕ) →
    ((q : ℕ) → q < process_count (instance_of d) → machine_at a q < machine_count (instance_of d)) → p < length d.rows →
    machine_at a p < machine_count d.origin
unfolding with_process_rows process_count machine_count
in_range d a p each within = each p within

pub other_broken : {d e : Drafted} {parts : Parts} {p home here : ℕ} → IsKeptDraft d parts → HasOther d e p →
    home ≡ machine_at d.initial p → here ≡ machine_at d.current p →
    broken_in e ≡ resized_breaks (instance_of e) e.initial e.current home here
unfolding broken_in
other_broken {d} {e} {p} {home} {here} kept other home_is here_is =
    grind (arith, common_steps, resized_law, in_range, machines_less)

-- what it costs

-- the parts with these five numbers
abbrev pub parts_with : ℕ → ℕ → ℕ → ℕ → ℕ → Parts
parts_with l b p s m =
    record { load = l; balance = b; process = p; service = s; machine = m; total = l + b + p + s + m }

parts_from : (e : Drafted) (l b p s m : ℕ) → l ≡ load_cost (instance_of e) e.current →
    b ≡ balance_cost (instance_of e) e.current → p ≡ process_cost (instance_of e) e.initial e.current →
    s ≡ service_cost (instance_of e) e.initial e.current → m ≡ machine_cost (instance_of e) e.initial e.current →
    parts_with l b p s m ≡ parts_of (instance_of e) e.initial e.current
unfolding parts_of objective
parts_from e l b p s m l_is b_is p_is s_is m_is = rw (l_is, b_is, p_is, s_is, m_is) refl

-- the parts of a draft
pub record HasParts (d : Drafted) (parts : Parts) : Type 0 where
  pub load : parts.load ≡ load_cost (instance_of d) d.current
  pub balance : parts.balance ≡ balance_cost (instance_of d) d.current
  pub process : parts.process ≡ process_cost (instance_of d) d.initial d.current
  pub service : parts.service ≡ service_cost (instance_of d) d.initial d.current
  pub machine : parts.machine ≡ machine_cost (instance_of d) d.initial d.current
  pub load_small : parts.load < 2 ^ 98
  pub balance_small : parts.balance < 2 ^ 113
  pub process_small : parts.process < 2 ^ 80
  pub service_small : parts.service < 2 ^ 48
  pub machine_small : parts.machine < 2 ^ 80

pub parts_told : {d : Drafted} {parts : Parts} → IsKeptDraft d parts → Small (instance_of d) → HasParts d parts
unfolding parts_of
parts_told {d} {parts} kept small =
    grind (arith, common_steps, load_under, balance_under, process_under, service_under, machine_under)

pub moved_same : {d e : Drafted} {p : ℕ} (s : ℕ) → OneMore d e p → machine_at e.initial p ≡ machine_at e.current p →
    moved_of (instance_of e) e.initial e.current s ≡ moved_of (instance_of d) d.initial d.current s
moved_same {e} {p} s more home = omega (
  arith,
  rw (eq-eqb (machine_at e.initial p) (machine_at e.current p) home) at (moved_more s more),
  ap one_if (and_right (eqb (service_of (instance_of e) p) s) false refl),
)

service_same : {d e : Drafted} {p : ℕ} → OneMore d e p → machine_at e.initial p ≡ machine_at e.current p →
    service_cost (instance_of e) e.initial e.current ≡ service_cost (instance_of d) d.initial d.current
unfolding service_cost
service_same {d} {e} more home =
    grind (arith, common_steps, greatest_same, moved_same, with_both, services_with, service_weight_in)

process_same : {d e : Drafted} {p : ℕ} → OneMore d e p → machine_at e.initial p ≡ machine_at e.current p →
    process_cost (instance_of e) e.initial e.current ≡ process_cost (instance_of d) d.initial d.current
process_same {d} {e} {p} more home =
    (rw (eq-eqb (machine_at e.current p) (machine_at e.initial p) (sym home)) at (process_more more))
    ∙ none (process_cost (instance_of d) d.initial d.current) (process_weight_of d.origin)
  where
    none : (a w : ℕ) → a + w * 0 ≡ a
    none a w = grind arith

-- a process has come: the numbers of the parts
pub come_parts : {d e : Drafted} {cost : Parts} {s m w : ℕ} {before after : MachineCosts} (l b : ℕ) →
    WellFormed d.origin →
    HasParts d cost → HasCome d e s m → AreCostsOn d m before → AreCostsOn e m after →
    l + before.load ≡ cost.load + after.load → b + before.balance ≡ cost.balance + after.balance →
    w ≡ machine_weight_of d.origin * way_cost_of d.origin m m →
    parts_with l b cost.process cost.service (cost.machine + w) ≡ parts_of (instance_of e) e.initial e.current
come_parts {d} {e} {cost} {m} {w} {after} l b well has come before_is after_is l_is b_is w_is =
    grind (arith, common_steps, way_more, parts_from, load_more, balance_more, process_same, service_same)

-- a process has gone: what it added to the process cost and to the machine cost
pub gone_process : {d e : Drafted} {p : ℕ} → HasGone d e p → process_cost (instance_of d) d.initial d.current ≡
    process_cost (instance_of e) e.initial e.current + process_weight_of d.origin * process_share (instance_of d)
    d.initial p (machine_at d.current p)
unfolding process_share
gone_process gone = cc (process_more gone.fewer, gone.fewer.origin)

pub gone_way : {d e : Drafted} {p : ℕ} → HasGone d e p → machine_cost (instance_of d) d.initial d.current ≡
    machine_cost (instance_of e) e.initial e.current + machine_weight_of d.origin * way_cost_of d.origin
    (machine_at d.initial p) (machine_at d.current p)
gone_way gone = cc (way_more gone.fewer, gone.fewer.origin)

-- the numbers of the parts
pub gone_parts : {d e : Drafted} {cost : Parts} {p m s : ℕ} {before after : MachineCosts} (l b q w : ℕ) →
    WellFormed d.origin → HasParts d cost → HasGone d e p → m ≡ machine_at d.current p → m < machine_count d.origin →
    AreCostsOn d m before → AreCostsOn e m after → l + before.load ≡ cost.load + after.load →
    b + before.balance ≡ cost.balance + after.balance → q ≡ cost.process - process_weight_of d.origin * process_share
    (instance_of d) d.initial p (machine_at d.current p) → s ≡ service_cost (instance_of e) e.initial e.current →
    w ≡ cost.machine - machine_weight_of d.origin * way_cost_of d.origin (machine_at d.initial p)
    (machine_at d.current p) → parts_with l b q s w ≡ parts_of (instance_of e) e.initial e.current
gone_parts {d} {e} {p} {m} {s} {before} l b q w well has gone here m_in before_is after_is l_is b_is q_is s_is w_is =
    grind (arith, common_steps, parts_from, load_more, balance_more, gone_process, gone_way)

-- a process requires something else

process_with : (i : Tables) (rows : List ProcessRow) (t u : List ℕ) (a0 a : List Machine) →
    process_cost (with_process_rows i rows t) a0 a ≡ process_cost (with_process_rows i rows u) a0 a
unfolding with_process_rows process_cost tally process_share process_cost_of process_row process_count process_weight_of
process_with i rows t u a0 a = refl

service_with : (i : Tables) (rows : List ProcessRow) (t u : List ℕ) (a0 a : List Machine) →
    service_cost (with_process_rows i rows t) a0 a ≡ service_cost (with_process_rows i rows u) a0 a
unfolding with_process_rows service_cost moved_of members_at tally of_service is_of service_of process_row process_count
    service_count service_weight_of
service_with i rows t u a0 a = refl

way_with : (i : Tables) (rows : List ProcessRow) (t u : List ℕ) (a0 a : List Machine) →
    machine_cost (with_process_rows i rows t) a0 a ≡ machine_cost (with_process_rows i rows u) a0 a
unfolding with_process_rows machine_cost tally way_share way_cost_of process_count machine_count machine_weight_of
way_with i rows t u a0 a = refl

pub other_parts : {d e : Drafted} {cost : Parts} {p m : ℕ} {before after : MachineCosts} (l b : ℕ) →
    WellFormed d.origin →
    m < machine_count d.origin → m ≡ machine_at d.current p → HasParts d cost → HasOther d e p → AreCostsOn d m before →
    AreCostsOn e m after → l + before.load ≡ cost.load + after.load →
    b + before.balance ≡ cost.balance + after.balance →
    parts_with l b cost.process cost.service cost.machine ≡ parts_of (instance_of e) e.initial e.current
other_parts {d} {e} {cost} {p} {m} l b well m_in here has other before_is after_is l_is b_is =
    let low = retired d p in
    let low_origin = other.before.origin in
    let origin : e.origin ≡ d.origin = other.after.origin ∙ sym low_origin in
    let here_d : machine_at d.current p ≡ m = sym here in
    let here_e : machine_at e.current p ≡ m = cc (other.current) in
    let low_in = rw low_origin at m_in in
    let low_well = subst WellFormed low_origin well in
    let at_low : (f : Drafted) → f.origin ≡ low.origin → row_load f.origin m (use_of (instance_of f) f.current m) ≡
    row_load low.origin m (use_of (instance_of f) f.current m) = λ f same. cc in
    let on_low : (f : Drafted) → f.origin ≡ low.origin → row_balance f.origin m (use_of (instance_of f) f.current m) ≡
    row_balance low.origin m (use_of (instance_of f) f.current m) = λ f same. cc in
    parts_from e l b cost.process cost.service cost.machine
    (omega (
      arith,
      l_is,
      has.load,
      before_is.load,
      after_is.load,
      at_low d low_origin,
      at_low e other.after.origin,
      load_more low d p m other.before here_d low_in,
      load_more low e p m other.after here_e low_in,
    ))
    (omega (
      arith,
      b_is,
      has.balance,
      before_is.balance,
      after_is.balance,
      on_low d low_origin,
      on_low e other.after.origin,
      balance_more low d p m low_well other.before here_d low_in,
      balance_more low e p m low_well other.after here_e low_in,
    ))
    (has.process ∙ renamed process_cost d e process_with origin other.rows other.initial other.current)
    (has.service ∙ renamed service_cost d e service_with origin other.rows other.initial other.current)
    (has.machine ∙ renamed machine_cost d e way_with origin other.rows other.initial other.current)

-- what a machine costs is counted

pub load_counted : {d : Drafted} {m : ℕ} {costs : MachineCosts} → m < machine_count d.origin → AreCostsOn d m costs →
    costs.load ≤ load_cost (instance_of d) d.current
load_counted {d} {m} within are = omega (arith, are.load, load_term d m within)

pub balance_counted : {d : Drafted} {m : ℕ} {costs : MachineCosts} → m < machine_count d.origin → AreCostsOn d m costs →
    costs.balance ≤ balance_cost (instance_of d) d.current
balance_counted {d} {m} within are = omega (arith, are.balance, balance_term d m within)

-- the machines of a process exist, and so does its service
pub here_at : {d : Drafted} {p m : ℕ} → IsSoundDraft d → p < length d.rows → m ≡ machine_at d.current p →
    m < machine_count d.origin
here_at {d} {p} sound within is = omega (arith, is, in_range d d.current p sound.current.in_range within)

pub home_at : {d : Drafted} {p m : ℕ} → IsSoundDraft d → p < length d.rows → m ≡ machine_at d.initial p →
    m < machine_count d.origin
home_at {d} {p} sound within is = omega (arith, is, in_range d d.initial p sound.initial.in_range within)

-- a product of two numbers of files
pub times_small : (x y : ℕ) → x < 2 ^ 32 → y < 2 ^ 32 → x * y < 2 ^ 64
times_small x y x_in y_in = mul-lt x y (2 ^ 32) (2 ^ 32) x_in y_in
