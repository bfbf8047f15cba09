-- A kept assignment becomes another, process by process.
use Rattle.std.proofs.Common.{◌≡◌, ℕ, ◌+◌, ◌*◌, ◌<◌, ◌≤◌, List, length, set, refl, ap, sym, subst, ◌∙◌, arith}
use Rattle.std.proofs.Common.{◌≢◌, mul-le-mul_right}
use Rattle.std.proofs.lemmas.Bool.Decides.{nat_tests}
use Rattle.ra_base.proofs.Sums.{total_none, total_more, total_bound}
use Rattle.ra_world.specs.Differing.{one_apart, differing}
use Rattle.std.proofs.Math.ListN.{length-set}
use Rattle.std.proofs.lemmas.List.{set-get_or}
use Rattle.ra_base.specs.declared.ids.Machine.{Machine}
use Rattle.ra_model.specs.declared.raw.Tables.{Tables}
use Rattle.ra_model.specs.Assignments.{machine_at}
use Rattle.ra_model.proofs.TallyLemmas.{same_machines, machine_at_set_same, machine_at_set_other}
use Rattle.ra_world.specs.declared.kept.Kept.{Kept}
use Rattle.ra_world.specs.Keeping.{Stand, Keeps}
use Rattle.ra_world.specs.Standing.{OnlyMoves}

-- the instance and the start by the names that the rows have for them
pub by_rows : (kept : Kept) (i : Tables) (a0 a : List Machine) → Stand kept i a0 a →
    Stand kept kept.rows.tables kept.rows.start a
by_rows kept i a0 a stand =
    let by_tables : Tables → Type 0 = λ j. Stand kept j a0 a in
    let by_start : List Machine → Type 0 = λ b. Stand kept kept.rows.tables b a in
    subst by_start (sym stand.start) (subst by_tables (sym stand.instance) stand)

pub moves_nothing : (kept : Kept) → Stand kept kept.rows.tables kept.rows.start kept.assignment.items →
    OnlyMoves kept kept
moves_nothing kept stand = record {
  stand = stand;
  loads = refl;
  balances = refl;
  filters = refl;
  parts = refl;
}

pub moves_on : (old mid new : Kept) → OnlyMoves old mid → OnlyMoves mid new → OnlyMoves old new
moves_on old mid new one more = record {
  stand = rw (one.stand.instance, one.stand.start) at more.stand;
  loads = more.loads ∙ one.loads;
  balances = more.balances ∙ one.balances;
  filters = more.filters ∙ one.filters;
  parts = more.parts ∙ one.parts;
}

-- the rows and the counters represent the new assignment, by other names for the instance, the start and itself
pub stands_on : (old new : Kept) (i : Tables) (a0 b : List Machine) → Stand old i a0 old.assignment.items →
    OnlyMoves old new → new.assignment.items ≡ b → Stand new i a0 b
stands_on old new i a0 b stand moves is =
    subst (Stand new i a0) is (rw (stand.instance, stand.start) at moves.stand)

-- a process is put on the machine on which it is
pub put_here : (a : List Machine) (p : ℕ) (to : Machine) → machine_at a p ≡ to.0 → set a p to ≡ a
unfolding machine_at
put_here a p to here =
    ap (set a p) (sym (ap (λ n. let m : Machine = record { 0 = n } in m) here)) ∙ set-get_or a p (record { 0 = 0 })

-- of an assignment that was `old`, the first n processes are on their machines in a list, and the others where they were
pub record AgreeTo (old a list : List Machine) (n : ℕ) : Type 0 where
  pub as_many : length a ≡ length list
  pub each : (p : ℕ) → p < n → machine_at a p ≡ machine_at list p
  pub others : (p : ℕ) → n ≤ p → machine_at a p ≡ machine_at old p

pub agree_on : (old a b list : List Machine) (n : ℕ) (to : Machine) → AgreeTo old a list n → n < length list →
    to.0 ≡ machine_at list n → b ≡ set a n to → AgreeTo old b list (n + 1)
agree_on old a b list n to so_far within is made =
    grind (arith, length-set, machine_at_set_same, machine_at_set_other)

pub agree_all : (old a list : List Machine) (n : ℕ) → length list ≤ n → AgreeTo old a list n → a ≡ list
agree_all old a list n all agree =
    same_machines a list agree.as_many (λ p within. agree.each p (omega (arith, agree.as_many)))

-- one for two different machines, and zero for one
pub apart_one : (m n : ℕ) → m ≢ n → one_apart m n ≡ 1
unfolding one_apart
apart_one m n apart = grind (arith, nat_tests)

pub apart_none : (m n : ℕ) → m ≡ n → one_apart m n ≡ 0
unfolding one_apart
apart_none m n same = grind (arith, nat_tests)

rows_more : (base n more width : ℕ) {now next : ℕ} → now ≡ base + n * width → next ≡ now + more * width →
    next ≡ base + (n + more) * width
rows_more base n more width so_far is = omega arith

module _ (old list : List Machine) where
  pub differing_none : differing 0 old list ≡ 0
  unfolding differing
  differing_none = total_none _

  differing_more : (n : ℕ) → differing (n + 1) old list ≡
      differing n old list + one_apart (machine_at old n) (machine_at list n)
  unfolding differing one_apart
  differing_more n = total_more n _

  -- one process more reads its row if it moves
  pub read_more : (base n width at to : ℕ) {now next : ℕ} → now ≡ base + differing n old list * width →
      at ≡ machine_at old n → to ≡ machine_at list n → next ≡ now + one_apart at to * width →
      next ≡ base + differing (n + 1) old list * width
  read_more base n width at to {now} so_far at_is to_is more =
      let same : one_apart at to ≡ one_apart (machine_at old n) (machine_at list n) =
      ap (λ x. one_apart x to) at_is ∙ ap (one_apart (machine_at old n)) to_is in
      rw (differing_more n) (rows_more base _ _ width so_far (more ∙ ap (λ x. now + x * width) same))

  differing_few : (n : ℕ) → differing n old list ≤ n * 1
  unfolding differing
  differing_few n = total_bound n 1 _ (λ p within. grind (arith, nat_tests))

  pub read_few : (base n width : ℕ) {now : ℕ} → now ≡ base + differing n old list * width → now ≤ base + n * width
  read_few base n width is =
      let few : differing n old list ≤ n = omega (arith, differing_few n) in
      omega (arith, mul-le-mul_right width few)

-- all that is kept, by the start that the rows name
pub keeps_by_rows : (kept : Kept) (i : Tables) (a0 : List Machine) → Keeps kept i a0 → Keeps kept i kept.rows.start
keeps_by_rows kept i a0 keeps = subst (Keeps kept i) (sym keeps.stand.start) keeps
