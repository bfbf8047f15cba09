-- The services on which a service depends, each once.
use Rattle.std.proofs.Common.{inl, inr, ◌≡◌, ◌≢◌, ℕ, zero, suc, ◌+◌, ◌-◌, ◌<◌, ◌≤◌, true, false, eqb, ◌||◌, List, []}
use Rattle.std.proofs.Common.{◌∷◌, ◌++◌}
use Rattle.std.proofs.Common.{length, get_or, sym, refl, ap, ap₂, ◌∙◌, arith, length-append, length-drop}
use Rattle.std.proofs.Math.Seq.{drop-append_seam}
use Rattle.std.proofs.Math.Seq.{take-length}
use Rattle.std.proofs.lemmas.Bool.{cases_lt, both_ways}
use Rattle.std.proofs.lemmas.List.{get_or_append_left, get_or_push, take-append-le, drop-append-le}
use Rattle.std.specs.List.{slice_range}
use Rattle.ra_base.specs.Sums.{is_named}
use Rattle.ra_base.proofs.Named.{is_named_none, is_named_more, is_named_at}
use Rattle.ra_base.specs.declared.ids.Service.{Service}
use Rattle.ra_model.specs.declared.raw.Tables.{Tables}
use Rattle.ra_model.specs.Limits.{WellFormed}
use Rattle.ra_model.specs.Numbers.{service_count, need_of}
use Rattle.ra_model.specs.Parts.{parts_from, part_start}
use Rattle.ra_model.proofs.PartLemmas.{parts_length, part_at, part_start_next}
use Rattle.ra_topology.specs.Lists.{service_at, services_of, AreDistinct, AreDistinctNeedsOf}
use Rattle.ra_topology.specs.Fits.{AreDistinctNeeds}
use Rattle.ra_topology.specs.Places.{is_seen, AreCut}
use Rattle.ra_topology.proofs.NeedLemmas.{start_more}
use Rattle.ra_topology.proofs.CountLemmas.{seen_again}

-- one dependency after another

named_same : (n : ℕ) (e f : ℕ → ℕ) (v : ℕ) → ((j : ℕ) → j < n → e j ≡ f j) → is_named n e v ≡ is_named n f v
unfolding is_named
named_same zero e f v same = refl
named_same (suc n) e f v same =
    ap₂ (λ a b. a || eqb b v) (named_same n e f v (λ j below. same j (omega (arith, below)))) (same n (omega arith))

module _ (row : List Service) (x : Service) where
  at_pushed : service_at (row ++ x ∷ []) (length row) ≡ x.0
  unfolding service_at
  at_pushed = grind (arith, get_or_push)

  at_before : (j : ℕ) → j < length row → service_at (row ++ x ∷ []) j ≡ service_at row j
  unfolding service_at
  at_before j before = grind (arith, get_or_append_left)

  named_pushed : (v : ℕ) → is_named (length (row ++ x ∷ [])) (service_at (row ++ x ∷ [])) v ≡
      (is_named (length row) (service_at row) v || eqb x.0 v)
  named_pushed v = grind (arith, length-append, is_named_more, named_same, at_before, at_pushed)

  once_pushed : ((j l : ℕ) → j < l → l < length row → service_at row j ≢ service_at row l) →
      is_named (length row) (service_at row) x.0 ≡ false → (j l : ℕ) → j < l → l < length (row ++ x ∷ []) →
      service_at (row ++ x ∷ []) j ≢ service_at (row ++ x ∷ []) l
  once_pushed once new j l before within equal = elim (cases_lt l (length row)) [
    | inl inside ↦ once j l before inside (sym (at_before j (omega arith)) ∙ equal
        ∙ at_before l inside)
    | inr behind ↦ let last : l ≡ length row = omega (arith, length-append row (x ∷ []), within, behind) in
        both_ways (is_named (length row) (service_at row) x.0) new
        (is_named_at (length row) j _ x.0 (omega arith) (sym (at_before j (omega arith)) ∙ equal
        ∙ ap (service_at (row ++ x ∷ [])) last ∙ at_pushed))
  ]

-- one service after another

range_kept : (all row : List Service) (start end : ℕ) → start ≤ end → end ≤ length all →
    slice_range (all ++ row) start end ≡ slice_range all start end
range_kept all row start end ordered within = grind (arith, drop-append-le, take-append-le, length-drop)

range_new : (all row : List Service) → slice_range (all ++ row) (length all) (length (all ++ row)) ≡ row
range_new all row =
    let rest : length (all ++ row) - length all ≡ length row = omega (arith, length-append all row) in
    rw (drop-append_seam all row, rest) (take-length row)

part_kept : (ends : List ℕ) (e k : ℕ) → k ≤ length ends → part_start 0 (ends ++ e ∷ []) k ≡ part_start 0 ends k
unfolding part_start
part_kept ends e zero few = refl
part_kept ends e (suc k) few = get_or_append_left ends (e ∷ []) 0 k (omega (arith, few))

part_none : part_start 0 [] 0 ≡ 0
unfolding part_start
part_none = refl

module _ (i : Tables) where
  pub cut_none : AreCut i 0 [] []
  cut_none = record {
    size = omega arith;
    one_each = refl;
    ascend = record {
      ordered = λ k within. absurd (omega (arith, within));
      within = λ k within. absurd (omega (arith, within));
    };
    last = part_none;
    each = λ s within. absurd (omega (arith, within));
  }

  module _ (s : ℕ) where
    pub distinct_none : AreDistinct i s 0 []
    distinct_none = record {
      same = λ u. is_named_none _ u ∙ sym (is_named_none (need_of i s) u);
      once = λ j l before within. absurd (omega (arith, within));
      few = omega arith;
    }

    -- a service that no dependency named before
    pub distinct_new : (k u : ℕ) (row : List Service) → AreDistinct i s k row → u ≡ need_of i s k →
        is_seen i s k u ≡ false → AreDistinct i s (k + 1) (row ++ record { 0 = u } ∷ [])
    unfolding is_seen
    distinct_new k u row h is new = record {
      same = λ v. named_pushed row (record { 0 = u }) v ∙ ap₂ (λ a b. a || eqb b v) (h.same v) is
          ∙ sym (is_named_more k (need_of i s) v);
      once = once_pushed row (record { 0 = u }) h.once (h.same u ∙ new);
      few = omega (arith, length-append row (record { 0 = u } ∷ []), h.few);
    }

    named_again : (k v : ℕ) → is_seen i s k (need_of i s k) ≡ true →
        is_named (k + 1) (need_of i s) v ≡ is_named k (need_of i s) v
    unfolding is_seen
    named_again k v before = seen_again i s k v before

    -- and one that was named
    pub distinct_again : (k u : ℕ) (row : List Service) → AreDistinct i s k row → u ≡ need_of i s k →
        is_seen i s k u ≡ true → AreDistinct i s (k + 1) row
    distinct_again k u row h is before = record {
      same = λ v. h.same v ∙ sym (again v);
      once = h.once;
      few = omega (arith, h.few);
    }
      where
        again : (v : ℕ) → is_named (k + 1) (need_of i s) v ≡ is_named k (need_of i s) v
        again v = named_again k v (ap (is_seen i s k) (sym is) ∙ before)

    pub cut_more : (e : ℕ) (all row : List Service) (ends : List ℕ) → WellFormed i → s < service_count i →
        AreCut i s all ends → AreDistinctNeedsOf i s row → e ≡ length (all ++ row) →
        AreCut i (s + 1) (all ++ row) (ends ++ e ∷ [])
    cut_more e all row ends formed within h new is = record {
      size = omega (arith, length-append all row, h.size, new.few, start_more i s formed within);
      one_each = omega (arith, length-append ends (e ∷ []), h.one_each);
      ascend = record {
        ordered = λ k below. elim (cases_lt k s) [
          | inl before ↦ omega
              (arith, starts k (omega arith), earlier k before, h.ascend.ordered k (omega (arith, h.one_each)))
          | inr behind ↦ let last : k ≡ s = omega (arith, below, length-append ends (e ∷ []), h.one_each) in
              rw last (omega (arith, starts s (omega arith), h.last, latest, is, longer))
        ];
        within = λ k below. elim (cases_lt k s) [
          | inl before ↦ omega (arith, earlier k before, h.ascend.within k (omega (arith, h.one_each)), longer)
          | inr behind ↦ let last : k ≡ s = omega (arith, below, length-append ends (e ∷ []), h.one_each) in
              rw last (omega (arith, latest, is))
        ];
      };
      last =
          let back : s + 1 - 1 ≡ s = omega arith in
          part_start_next 0 _ _ (omega arith) ∙ ap (λ k. get_or (ends ++ e ∷ []) k 0) back ∙ latest
          ∙ is;
      each = λ t below. elim (cases_lt t s) [
        | inl before ↦ rw (
          starts t (omega arith),
          earlier t before,
          range_kept all row (part_start 0 ends t) (get_or ends t 0)
              (h.ascend.ordered t (omega (arith, h.one_each))) (h.ascend.within t (omega (arith, h.one_each))),
        )
            (h.each t before)
        | inr behind ↦ let last : t ≡ s = omega arith in
            rw last (rw (starts s (omega arith), latest, h.last, is, range_new all row) new)
      ];
    }
      where
        longer : length (all ++ row) ≡ length all + length row
        longer = length-append all row

        starts : (k : ℕ) → k ≤ s → part_start 0 (ends ++ e ∷ []) k ≡ part_start 0 ends k
        starts k few = part_kept ends e k (omega (arith, h.one_each))

        earlier : (k : ℕ) → k < s → get_or (ends ++ e ∷ []) k 0 ≡ get_or ends k 0
        earlier k before = get_or_append_left ends (e ∷ []) 0 k (omega (arith, h.one_each))

        latest : get_or (ends ++ e ∷ []) s 0 ≡ e
        latest = get_or_push ends e 0 s h.one_each

  -- all services
  pub distinct_are : (all : List Service) (ends : List ℕ) (n : ℕ) → n ≡ service_count i → AreCut i n all ends →
      AreDistinctNeeds (parts_from all 0 ends) i
  unfolding services_of
  distinct_are all ends n whole h = record {
    one_each = parts_length all 0 ends ∙ h.one_each ∙ whole;
    each = λ s within.
        rw (part_at all 0 ends s (omega (arith, h.one_each))) (h.each s (omega arith));
  }
