-- Tables by machine and resource: rows that are added cell by cell, and sums over the processes.
use Rattle.std.proofs.Common.{◌≡◌, ◌≢◌, ℕ, ◌+◌, ◌*◌, ◌^◌, ◌<◌, ◌≤◌, inl, inr, Bool, true, false, ◌&&◌, ◌||◌}
use Rattle.std.proofs.Common.{cond, eqb, ltb, List, length, replicate, set, refl, sym, ap, ◌∙◌, arith, le_refl}
use Rattle.std.proofs.Common.{length-set, eq-eqb, ne_eqb}
use Rattle.std.proofs.lemmas.Bool.{cases_eq, cases_lt, cases_Bool, cond-true, cond-false, cond_both, or_cases, or_left}
use Rattle.std.proofs.lemmas.Bool.{or_right, and_parts, and_from, lt-ltb, ltb-true}
use Rattle.std.proofs.lemmas.List.{length-replicate}
use Rattle.ra_base.specs.Tables.{cell}
use Rattle.ra_base.specs.declared.ids.Machine.{Machine}
use Rattle.ra_base.proofs.Sums.{total_change}
use Rattle.ra_base.proofs.Tables.{cell_write_same, cell_write_other, cell_zeros, place_within}
use Rattle.ra_model.specs.declared.raw.Tables.{Tables}
use Rattle.ra_model.specs.Limits.{WellFormed, Small}
use Rattle.ra_model.specs.Numbers.{resource_count, machine_count, process_count, transient_at, capacity_of}
use Rattle.ra_model.specs.Numbers.{requirement_of, closed_at, service_of}
use Rattle.ra_model.specs.Assignments.{machine_at, tally}
use Rattle.ra_model.specs.Usage.{use_share, use_of}
use Rattle.ra_model.proofs.TallyLemmas.{tally_none, tally_more, tally_same, tally_zero, tally_bound}
use Rattle.ra_model.proofs.TallyLemmas.{use_share_here, use_share_elsewhere}
use Rattle.ra_model.proofs.BoundLemmas.{use_under}
use Rattle.ra_pins.specs.Pinned.{some_of, flagged_share, flagged_use, lacks, lacks_between, flagged_starts_on, blocked}
use Rattle.ra_pins.specs.Loads.{takes, amount_in, row_share, AddsRow, IsBelow, IsTallyTable, kept_use, AreKept}
use Rattle.ra_pins.specs.Walks.{overfull}
use Rattle.ra_pins.specs.declared.tables.Columns.{Columns}
use Rattle.ra_pins.specs.declared.tables.Columns.TheVariants.{All, Transient, Others}
use Rattle.ra_pins.proofs.RoundLemmas.{some_yes, some_found, same_tests, flagged_share_yes, flagged_share_free}
use Rattle.ra_pins.proofs.RoundLemmas.{flagged_share_elsewhere}
use Rattle.ra_pins.proofs.StayLemmas.{flagged_below}

takes_transient : (t : Bool) → takes Transient t ≡ t
unfolding takes
takes_transient t = refl

takes_all : (t : Bool) → takes All t ≡ true
unfolding takes
takes_all t = refl

takes_plain : (t : Bool) → t ≡ false → takes Others t ≡ true
unfolding takes
takes_plain true e = sym e
takes_plain false e = refl

takes_no_transient : (t : Bool) → t ≡ true → takes Others t ≡ false
unfolding takes
takes_no_transient true e = refl
takes_no_transient false e = sym e

-- a row is added cell by cell: the first n columns have grown by the shares of process p, and no other cell has changed
pub record AddsPart (i : Tables) (columns : Columns) (p at n : ℕ) (old new : List ℕ) : Type 0 where
  pub done : (m r : ℕ) → r < resource_count i → r < n →
      cell (resource_count i) new m r ≡ cell (resource_count i) old m r + row_share i columns m r p at
  pub rest : (m r : ℕ) → r < resource_count i → n ≤ r →
      cell (resource_count i) new m r ≡ cell (resource_count i) old m r
  pub same_length : length new ≡ length old

-- sums over the processes

-- sums of small shares are small
pub record AreSmall (share : ℕ → ℕ → ℕ → ℕ → ℕ) : Type 0 where
  pub each : (m r p at : ℕ) → share m r p at ≤ 2 ^ 32

-- y flags process p besides
pub record OneMore (i : Tables) (x y : ℕ → Bool) (p : ℕ) : Type 0 where
  pub before : x p ≡ false
  pub now : y p ≡ true
  pub others : (z : ℕ) → z ≢ p → y z ≡ x z

or_assoc : (a b c : Bool) → ((a || b) || c) ≡ (a || (b || c))
or_assoc true b c = refl
or_assoc false b c = refl

module _ (i : Tables) where
  module _ (columns : Columns) (p r : ℕ) where
    -- amounts and shares

    amount_taken : takes columns (transient_at i r) ≡ true → amount_in i columns p r ≡ requirement_of i p r
    unfolding amount_in
    amount_taken e = cond-true _ _ _ e

    amount_left : takes columns (transient_at i r) ≡ false → amount_in i columns p r ≡ 0
    unfolding amount_in
    amount_left e = cond-false _ _ _ e

  module _ (columns : Columns) (m r p at : ℕ) where
    row_share_here : at ≡ m → row_share i columns m r p at ≡ amount_in i columns p r
    unfolding row_share
    row_share_here e = grind (arith, eq-eqb)

    row_share_elsewhere : at ≢ m → row_share i columns m r p at ≡ 0
    unfolding row_share
    row_share_elsewhere e = cond-false _ _ _ (ne_eqb at m e)

    row_share_nothing : takes columns (transient_at i r) ≡ false → row_share i columns m r p at ≡ 0
    row_share_nothing e = grind (arith, row_share_here, amount_left, row_share_elsewhere)

    row_share_use : takes columns (transient_at i r) ≡ true → row_share i columns m r p at ≡ use_share i m r p at
    row_share_use e = grind (arith, row_share_here, amount_taken, use_share_here, row_share_elsewhere, use_share_elsewhere)

  row_share_flagged : (columns : Columns) (x : ℕ → Bool) (m r p at : ℕ) → takes columns (transient_at i r) ≡ true →
      x p ≡ true → row_share i columns m r p at ≡ flagged_share i x m r p at
  row_share_flagged columns x m r p at e flag =
      grind (arith, row_share_here, amount_taken, flagged_share_yes, row_share_elsewhere, flagged_share_elsewhere)

  module _ (columns : Columns) (p at : ℕ) where
    pub part_none : (old : List ℕ) → AddsPart i columns p at 0 old old
    part_none old = record {
      done = λ m r w h. absurd (omega arith);
      rest = λ m r w h. refl;
      same_length = refl;
    }

    part_more : (n : ℕ) (old mid : List ℕ) → n < resource_count i → at * resource_count i + n < length mid →
        AddsPart i columns p at n old mid →
        AddsPart i columns p at (n + 1) old (set mid (at * resource_count i + n) (cell (resource_count i) mid at n +
        amount_in i columns p n))
    part_more n old mid column within part =
        let width = resource_count i in
        let value = cell width mid at n + amount_in i columns p n in
        let new = set mid _ value in
        let here : cell width new at n ≡ cell width old at n + row_share i columns at n p at =
        omega (
          arith,
          cell_write_same width mid at n value within,
          part.rest at n column (le_refl n),
          row_share_here columns at n p at refl,
        ) in
        let last = λ (m r : ℕ) (row : m ≡ at) (e : r ≡ n). let goal : cell width new m r ≡ cell width old m r
        + row_share i columns m r p at = rw (row, e) here in goal in
        record {
          done = λ m r w h. elim (cases_lt r n) [
            | inl before ↦ omega (
              arith,
              cell_write_other width mid at n value m r column w (inr (omega arith)),
              part.done m r w before,
            )
            | inr late ↦ elim (cases_eq m at) [
              | inl row ↦ last m r row (omega arith)
              | inr apart ↦ omega (
                arith,
                cell_write_other width mid at n value m r column w (inl apart),
                part.rest m r w late,
                row_share_elsewhere columns m r p at (λ d. apart (sym d)),
              )
            ]
          ];
          rest = λ m r w h. cell_write_other width mid at n value m r column w (inr (omega arith))
              ∙ part.rest m r w (omega arith);
          same_length = length-set mid (at * width + n) value ∙ part.same_length;
        }

    -- as a loop writes it: the width and the amount are what calls have given
    pub part_write : (n width amount : ℕ) (old mid new : List ℕ) → width ≡ resource_count i →
        amount ≡ amount_in i columns p n → n < resource_count i → at * resource_count i + n < length mid →
        new ≡ set mid (at * width + n) (cell width mid at n + amount) → AddsPart i columns p at n old mid →
        AddsPart i columns p at (n + 1) old new
    part_write n width amount old mid new wide read column within written part =
        let all : new ≡ set mid (at * resource_count i + n)
        (cell (resource_count i) mid at n + amount_in i columns p n) =
        rw (← wide, ← read) written in
        rw all (part_more n old mid column within part)

    pub part_all : (n : ℕ) (old new : List ℕ) → n ≡ resource_count i → AddsPart i columns p at n old new →
        AddsRow i columns p at old new
    part_all n old new all part = record {
      each = λ m r w. part.done m r w (omega arith);
      same_length = part.same_length;
    }

  -- a cell within the grid, and room in it
  pub grid_place : (width at n : ℕ) (table : List ℕ) → width ≡ resource_count i →
      length table ≡ machine_count i * resource_count i → at < machine_count i → n < resource_count i →
      at * width + n < length table
  grid_place width at n table wide all row column = grind (arith, place_within)

  module _ (columns : Columns) (p : ℕ) where
    pub part_place : (at n width : ℕ) (old mid : List ℕ) → width ≡ resource_count i →
        length old ≡ machine_count i * resource_count i → at < machine_count i → n < resource_count i →
        AddsPart i columns p at n old mid → at * width + n < length mid
    part_place at n width old mid wide all row column part = grind (arith, grid_place)

    amount_small : (r : ℕ) → Small i → amount_in i columns p r < 2 ^ 32
    amount_small r small = grind (arith, amount_taken, amount_left)

    pub part_fits : (at n width amount : ℕ) (old mid : List ℕ) → width ≡ resource_count i →
        amount ≡ amount_in i columns p n → n < resource_count i → Small i → IsBelow i (2 ^ 62) old →
        AddsPart i columns p at n old mid → cell width mid at n + amount < 2 ^ 64
    part_fits at n width amount old mid wide read column small below part = grind (arith, amount_small)

  pub tally_start : (share : ℕ → ℕ → ℕ → ℕ → ℕ) (a : List Machine) (table : List ℕ) →
      table ≡ replicate (machine_count i * resource_count i) 0 → IsTallyTable i 0 share a table
  tally_start share a table zeros = rw zeros (record {
    grid = length-replicate {A = ℕ} (machine_count i * resource_count i) 0;
    each = λ m r w. cell_zeros (resource_count i) (machine_count i * resource_count i) m r
        ∙ sym (tally_none (share m r) a);
  })

  -- one process more, with its row
  pub tally_row : (columns : Columns) (p at : ℕ) (a : List Machine) (old new : List ℕ) → at ≡ machine_at a p →
      IsTallyTable i p (row_share i columns) a old → AddsRow i columns p at old new →
      IsTallyTable i (p + 1) (row_share i columns) a new
  tally_row columns p at a old new is before adds = record {
    grid = adds.same_length ∙ before.grid;
    each = λ m r w. omega (
      arith,
      tally_more,
      before.each m r w,
      adds.each m r w,
      ap (row_share i columns m r p) is,
    );
  }

  module _ (x : ℕ → Bool) (p : ℕ) where
    pub tally_flagged : (at : ℕ) (a : List Machine) (old new : List ℕ) → at ≡ machine_at a p → x p ≡ true →
        IsTallyTable i p (flagged_share i x) a old → AddsRow i All p at old new →
        IsTallyTable i (p + 1) (flagged_share i x) a new
    tally_flagged at a old new is flag before adds = record {
      grid = adds.same_length ∙ before.grid;
      each = λ m r w. omega (
        arith,
        tally_more p (flagged_share i x m r) a,
        before.each m r w,
        adds.each m r w,
        ap (row_share i All m r p) is,
        row_share_flagged All x m r p (machine_at a p) (takes_all (transient_at i r))
            flag,
      );
    }

    pub tally_free : (a : List Machine) (table : List ℕ) → x p ≡ false → IsTallyTable i p (flagged_share i x) a table →
        IsTallyTable i (p + 1) (flagged_share i x) a table
    tally_free a table free before = record {
      grid = before.grid;
      each = λ m r w.
          omega (arith, tally_more, before.each m r w, flagged_share_free);
    }

  pub row_share_small : (columns : Columns) → Small i → AreSmall (row_share i columns)
  row_share_small columns small = record {
    each = λ m r p at. elim (cases_eq at m) [
      | inl here ↦ omega (arith, row_share_here, amount_small)
      | inr apart ↦ omega (arith, row_share_elsewhere)
    ];
  }

  pub flagged_share_small : (x : ℕ → Bool) → Small i → AreSmall (flagged_share i x)
  unfolding flagged_share
  flagged_share_small x small = record {
    each = λ m r p at. cond_both (x p && eqb at m) (requirement_of i p r) 0 (λ v. v ≤ 2 ^ 32)
        (λ e. omega (arith, small.requirements p r)) (λ e. omega arith);
  }

  pub tally_below : (n : ℕ) (share : ℕ → ℕ → ℕ → ℕ → ℕ) (a : List Machine) (table : List ℕ) → AreSmall share →
      n ≤ 50000 → IsTallyTable i n share a table → IsBelow i (2 ^ 62) table
  tally_below n share a table small few sums = record {
    each = λ m r w.
        omega (arith, sums.each m r w, tally_bound n (2 ^ 32) (share m r) a (λ p h. small.each m r p (machine_at a p)));
  }

  module _ (a0 : List Machine) (m r : ℕ) where
    between_sum : transient_at i r ≡ true → tally (process_count i) (row_share i Transient m r) a0 ≡ use_of i a0 m r
    unfolding use_of
    between_sum e = grind (arith, tally_same, row_share_use, takes_transient)

    between_nothing : transient_at i r ≡ false → tally (process_count i) (row_share i Transient m r) a0 ≡ 0
    between_nothing e = grind (arith, tally_zero, row_share_nothing, takes_transient)

  other_share : (x y : ℕ → Bool) (m r z at : ℕ) → y z ≡ x z → flagged_share i y m r z at ≡ flagged_share i x m r z at
  unfolding flagged_share
  other_share x y m r z at same = ap (λ b. cond (b && eqb at m) (requirement_of i z r) 0) same

flagged_one_more : (i : Tables) (a0 : List Machine) (x y : ℕ → Bool) (p m r : ℕ) → OneMore i x y p →
    p < process_count i → flagged_use i a0 y m r ≡ flagged_use i a0 x m r + flagged_share i y m r p (machine_at a0 p)
unfolding flagged_use tally
flagged_one_more i a0 x y p m r more h = omega (
  arith,
  total_change (process_count i) p (λ z. flagged_share i y m r z (machine_at a0 z))
      (λ z. flagged_share i x m r z (machine_at a0 z)) h
      (λ z z_in apart. other_share i x y m r z _ (more.others z apart)),
  flagged_share_free,
)

module _ (i : Tables) (kept : List ℕ) (p m r : ℕ) where
  -- what the table says of one resource

  overfull_yes : capacity_of i m r < cell (resource_count i) kept m r
      + requirement_of i p r → overfull i kept p m r ≡ true
  unfolding overfull
  overfull_yes e = lt-ltb _ _ e

  overfull_means : overfull i kept p m r ≡ true →
      capacity_of i m r < cell (resource_count i) kept m r + requirement_of i p r
  unfolding overfull
  overfull_means e = ltb-true _ _ e

module _ (i : Tables) (a0 : List Machine) where
  module _ (p m r : ℕ) where
    between_yes : transient_at i r ≡ true → capacity_of i m r < use_of i a0 m r + requirement_of i p r →
        lacks_between i a0 p m r ≡ true
    unfolding lacks_between
    between_yes t e = grind (arith, and_from, lt-ltb)

    between_means : lacks_between i a0 p m r ≡ true →
        (transient_at i r ≡ true) × (capacity_of i m r < use_of i a0 m r + requirement_of i p r)
    unfolding lacks_between
    between_means e =
        let parts = and_parts (transient_at i r) (ltb (capacity_of i m r) (use_of i a0 m r + requirement_of i p r)) e in
        (parts.0, ltb-true _ _ parts.1)

  module _ (x : ℕ → Bool) (m r : ℕ) where
    -- what is used at all times

    kept_transient : transient_at i r ≡ true → kept_use i a0 x m r ≡ use_of i a0 m r
    unfolding kept_use
    kept_transient e = cond-true _ _ _ e

    kept_plain : transient_at i r ≡ false → kept_use i a0 x m r ≡ flagged_use i a0 x m r
    unfolding kept_use
    kept_plain e = cond-false _ _ _ e

    none_flagged : ((z : ℕ) → z < process_count i → x z ≡ false) → flagged_use i a0 x m r ≡ 0
    unfolding flagged_use
    none_flagged none = grind (arith, tally_zero, flagged_share_free)

  module _ (x : ℕ → Bool) where
    -- if nothing is flagged
    pub kept_start : (table : List ℕ) → ((z : ℕ) → z < process_count i → x z ≡ false) →
        IsTallyTable i (process_count i) (row_share i Transient) a0 table → AreKept i a0 x table
    kept_start table none sums = record {
      grid = sums.grid;
      each = λ m r w. elim (cases_Bool (transient_at i r)) [
        | inl e ↦ sums.each m r w ∙ between_sum i a0 m r e ∙ sym (kept_transient x m r e)
        | inr e ↦ sums.each m r w ∙ between_nothing i a0 m r e
            ∙ sym (none_flagged x m r none) ∙ sym (kept_plain x m r e)
      ];
    }

    -- one process more is flagged, and its row is added
    pub kept_more : (y : ℕ → Bool) (p home : ℕ) (old new : List ℕ) → OneMore i x y p → p < process_count i →
        home ≡ machine_at a0 p → AreKept i a0 x old → AddsRow i Others p home old new → AreKept i a0 y new
    kept_more y p home old new more h is kept adds = record {
      grid = adds.same_length ∙ kept.grid;
      each = λ m r w. elim (cases_Bool (transient_at i r)) [
        | inl e ↦ omega (
          arith,
          adds.each m r w,
          kept.each m r w,
          row_share_nothing i Others m r p home (takes_no_transient _ e),
          kept_transient x m r e,
          kept_transient y m r e,
        )
        | inr e ↦ omega (
          arith,
          adds.each m r w,
          kept.each m r w,
          kept_plain x m r e,
          kept_plain y m r e,
          flagged_one_more i a0 x y p m r more h,
          row_share_flagged i Others y m r p home (takes_plain _ e) more.now,
          ap (flagged_share i y m r p) is,
        )
      ];
    }

    flagged_small : (m r : ℕ) → WellFormed i → Small i → flagged_use i a0 x m r < 2 ^ 62
    unfolding flagged_use
    flagged_small m r formed small =
        omega (
          arith,
          formed.few_processes,
          tally_bound (process_count i) (2 ^ 32) (flagged_share i x m r) a0
              (λ p h. (flagged_share_small i x small).each m r p (machine_at a0 p)),
        )

    pub kept_below : (kept : List ℕ) → WellFormed i → Small i → AreKept i a0 x kept → IsBelow i (2 ^ 62) kept
    kept_below kept formed small stands = record {
      each = λ m r w. elim (cases_Bool (transient_at i r)) [
        | inl e ↦ omega (arith, stands.each m r w, kept_transient, use_under)
        | inr e ↦ omega (arith, stands.each m r w, kept_plain, flagged_small)
      ];
    }

    -- the flagged processes use a part of the initial use
    flagged_part : (m r : ℕ) → flagged_use i a0 x m r ≤ use_of i a0 m r
    flagged_part m r = flagged_below i a0 a0 x m r (record { each = λ z h e. refl })

    lacks_yes : (p m r : ℕ) → capacity_of i m r < flagged_use i a0 x m r
        + requirement_of i p r → lacks i a0 x p m r ≡ true
    unfolding lacks
    lacks_yes p m r e = lt-ltb _ _ e

    lacks_means : (p m r : ℕ) → lacks i a0 x p m r ≡ true →
        capacity_of i m r < flagged_use i a0 x m r + requirement_of i p r
    unfolding lacks
    lacks_means p m r e = ltb-true _ _ e

    lack_there : (kept : List ℕ) (p m : ℕ) → AreKept i a0 x kept →
        some_of (resource_count i) (overfull i kept p m) ≡ true →
        (some_of (resource_count i) (lacks i a0 x p m) || some_of (resource_count i) (lacks_between i a0 p m)) ≡ true
    lack_there kept p m stands e =
        let found = some_found _ _ e in
        let r = found.0 in
        let over = overfull_means i kept p m r found.2 in
        elim (cases_Bool (transient_at i r)) [
          | inl t ↦ or_right _ _
              (some_yes (resource_count i) r _ found.1
              (between_yes p m r t (omega (arith, over, stands.each m r found.1, kept_transient x m r t))))
          | inr t ↦ or_left _ _ (some_yes (resource_count i) r _ found.1
              (lacks_yes p m r (omega (arith, over, stands.each m r found.1, kept_plain x m r t))))
        ]

    kept_most : (m r : ℕ) → flagged_use i a0 x m r ≤ kept_use i a0 x m r
    kept_most m r = grind (arith, kept_transient, flagged_part, kept_plain)

module _ (i : Tables) (a0 : List Machine) (x : ℕ → Bool) (kept : List ℕ) (p : ℕ) where
  module _ (m : ℕ) (stands : AreKept i a0 x kept) where
    lack_back : (some_of (resource_count i) (lacks i a0 x p m) || some_of (resource_count i) (lacks_between i a0 p m)) ≡
        true → some_of (resource_count i) (overfull i kept p m) ≡ true
    lack_back e = elim (or_cases (some_of (resource_count i) (lacks i a0 x p m))
        (some_of (resource_count i) (lacks_between i a0 p m)) e) [
          | inl plain ↦ let found = some_found _
              _ plain in
              some_yes _ found.0 _ found.1
              (overfull_yes i kept p m found.0
              (omega (
                arith,
                lacks_means i a0 x p m found.0 found.2,
                stands.each m found.0 found.1,
                kept_most i a0 x m found.0,
              )))
          | inr twice ↦ let found = some_found
              _
              _ twice in
              let means = between_means i a0 p m found.0 found.2 in
              some_yes _ found.0 _ found.1
              (overfull_yes i kept p m found.0
              (omega (arith, means.1, stands.each m found.0 found.1, kept_transient i a0 x m found.0 means.0)))
        ]

    -- a process is blocked if the machine is closed, the table has too little room, or the machine is taken
    pub blocked_is : blocked i a0 x p m ≡
        (closed_at i m ||
        (some_of (resource_count i) (overfull i kept p m) || flagged_starts_on i a0 x (service_of i p) m))
    unfolding blocked
    blocked_is = grind (arith, or_assoc, same_tests, lack_there, lack_back)

    pub blocked_shut : closed_at i m ≡ true → blocked i a0 x p m ≡ true
    blocked_shut e = blocked_is ∙ or_left _ _ e

    pub blocked_full : some_of (resource_count i) (overfull i kept p m) ≡ true → blocked i a0 x p m ≡ true
    blocked_full e = grind (arith, blocked_is, or_right, or_left)

  pub blocked_open : (m s : ℕ) → AreKept i a0 x kept → closed_at i m ≡ false →
      some_of (resource_count i) (overfull i kept p m) ≡ false → s ≡ service_of i p →
      blocked i a0 x p m ≡ flagged_starts_on i a0 x s m
  blocked_open m s stands open_is room is = grind (arith, blocked_is)
