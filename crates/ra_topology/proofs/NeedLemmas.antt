-- The dependencies of all services, one after another.
use Rattle.std.proofs.Common.{inl, inr, ◌≡◌, ℕ, zero, suc, ◌+◌, ◌<◌, ◌≤◌, List, [], ◌∷◌, ◌++◌, length, get_or, sym}
use Rattle.std.proofs.Common.{refl, ap}
use Rattle.std.proofs.Common.{◌∙◌, add-one, arith, length-take, length-drop, length-append}
use Rattle.std.proofs.lemmas.Bool.{cases_lt}
use Rattle.std.proofs.lemmas.List.{get_or_read, get_or-take, get_or-drop, get_or_append_left, get_or-append_right}
use Rattle.std.proofs.lemmas.List.{get_or_push}
use Rattle.std.specs.List.{slice_range}
use Rattle.ra_base.specs.declared.ids.Service.{Service}
use Rattle.ra_model.specs.declared.raw.Tables.{Tables}
use Rattle.ra_model.specs.Limits.{WellFormed}
use Rattle.ra_model.specs.Numbers.{service_count, dependency_start, dependency_end, dependency_count, need_at, need_of}
use Rattle.ra_model.specs.Parts.{parts_from, part_start, AreEnds}
use Rattle.ra_model.proofs.PartLemmas.{parts_length, part_at}
use Rattle.ra_topology.specs.Lists.{service_at, services_of, AreNeedsOf}
use Rattle.ra_topology.specs.Fits.{AreNeeds}
use Rattle.ra_topology.specs.Places.{AreListed}

-- where the dependencies of a service start

pub start_none : (i : Tables) → dependency_start i 0 ≡ 0
unfolding dependency_start
start_none i = refl

module _ (all : List Service) (start size end : ℕ) where
  -- a part of a table of services

  pub range_length : end ≡ start + size → end ≤ length all → length (slice_range all start end) ≡ size
  range_length ends within = grind (arith, length-take, length-drop)

  pub range_at : (k : ℕ) → end ≡ start + size → k < size →
      service_at (slice_range all start end) k ≡ service_at all (start + k)
  unfolding service_at
  range_at k ends within = grind (arith, get_or-take, get_or-drop)

-- one service after another

pub listed_none : (i : Tables) → AreListed i 0 [] []
listed_none i = record {
  size = sym (start_none i);
  each = λ place within. absurd (omega arith);
  one_each = refl;
  end_each = λ s within. absurd (omega arith);
}

module _ (i : Tables) (s : ℕ) where
  start_is_end : dependency_start i (s + 1) ≡ dependency_end i s
  unfolding dependency_start
  start_is_end = rw add-one refl

  module _ (formed : WellFormed i) (within : s < service_count i) where
    pub count_is : dependency_start i s + dependency_count i s ≡
        dependency_end i s
    unfolding dependency_count
    count_is = omega (arith, formed.in_order s within)

    pub start_more : dependency_start i (s + 1) ≡ dependency_start i s + dependency_count i s
    start_more = omega (arith, start_is_end, count_is)

    pub start_few : dependency_start i s + dependency_count i s ≤ 100000
    start_few = omega (arith, count_is, formed.within s within, formed.few_dependencies)

    -- there is room for all
    pub room_left : dependency_start i s + dependency_count i s ≤ dependency_start i (service_count i)
    room_left = omega (arith, count_is, formed.within s within, formed.all_owned)

  -- a dependency, as it is read

  pub need_value : (k : ℕ) (needs : List Service) (x : Service) →
      ((j : ℕ) → j < dependency_count i s → (get_or needs j (record { 0 = 0 })).0 ≡ need_of i s j) →
      k < dependency_count i s → length needs ≡ dependency_count i s → x ≡ get_or needs k x → x.0 ≡ need_of i s k
  need_value k needs x each within long read = grind (arith, get_or_read)

  pub need_within : (k : ℕ) → WellFormed i → s < service_count i → k < dependency_count i s →
      need_of i s k < service_count i
  unfolding need_of
  need_within k formed there within = grind (arith, count_is)

  listed_at : (all needs : List Service) → length all ≡ dependency_start i s →
      ((place : ℕ) → place < length all → service_at all place ≡ need_at i place) →
      length needs ≡ dependency_count i s →
      ((k : ℕ) → k < dependency_count i s → (get_or needs k (record { 0 = 0 })).0 ≡ need_of i s k) → (place : ℕ) →
      place < length (all ++ needs) → service_at (all ++ needs) place ≡ need_at i place
  unfolding service_at need_of
  listed_at all needs size each long new place within =
      grind (arith, get_or_append_left, get_or-append_right, length-append)

  pub listed_more : (end : ℕ) (all needs : List Service) (ends : List ℕ) → WellFormed i → s < service_count i →
      AreListed i s all ends → length needs ≡ dependency_count i s →
      ((k : ℕ) → k < dependency_count i s → (get_or needs k (record { 0 = 0 })).0 ≡ need_of i s k) →
      end ≡ length (all ++ needs) → AreListed i (s + 1) (all ++ needs) (ends ++ end ∷ [])
  listed_more end all needs ends formed within h long new is = record {
    size = omega (arith, length-append all needs, h.size, long, start_more formed within);
    each = listed_at all needs h.size h.each long new;
    one_each = omega (arith, length-append ends (end ∷ []), h.one_each);
    end_each = λ t below. elim (cases_lt t s) [
      | inl before ↦ get_or_append_left ends (end ∷ []) 0 t (omega (arith, h.one_each)) ∙ h.end_each t before
      | inr after ↦ let same : t ≡ s = omega arith in
          rw same (omega (
            arith,
            get_or_push ends end 0 s h.one_each,
            is,
            length-append all needs,
            h.size,
            long,
            count_is formed within,
          ))
    ];
  }

  needs_of_part : (all : List Service) → WellFormed i → s < service_count i →
      length all ≡ dependency_start i (service_count i) →
      ((place : ℕ) → place < length all → service_at all place ≡ need_at i place) →
      AreNeedsOf i s (slice_range all (dependency_start i s) (dependency_end i s))
  unfolding need_of
  needs_of_part all formed within size each =
      let bounded : dependency_end i s ≤ length all = omega (arith, size, formed.all_owned, formed.within s within) in
      let ends : dependency_end i s ≡ dependency_start i s + dependency_count i s = sym (count_is formed within) in
      record {
        one_each = range_length all _ _ _ ends bounded;
        each = λ k below. range_at all _ _ _ k ends below
            ∙ each (dependency_start i s + k) (omega (arith, ends, bounded));
      }

pub ruleset counting = (start_none, start_more, start_few)

pub ruleset reading = (need_value, need_within)

module _ (i : Tables) (all : List Service) (ends : List ℕ) (n : ℕ) where
  -- all services

  start_of_part : (s : ℕ) → AreListed i n all ends → s < n → part_start 0 ends s ≡ dependency_start i s
  unfolding part_start dependency_start
  start_of_part zero h within = refl
  start_of_part (suc s) h within = h.end_each s (omega arith)

  module _ (formed : WellFormed i) (whole : n ≡ service_count i) (h : AreListed i n all ends) where
    pub needs_ascend : AreEnds ends (length all)
    needs_ascend = record {
      ordered = λ s within. omega (
        arith,
        h.one_each,
        start_of_part,
        h.end_each s (omega (arith, h.one_each)),
        formed.in_order s (omega (arith, h.one_each)),
      );
      within = λ s within. omega (
        arith,
        h.one_each,
        h.size,
        ap (dependency_start i) whole,
        formed.all_owned,
        h.end_each s (omega (arith, h.one_each)),
        formed.within s (omega (arith, h.one_each)),
      );
    }

    pub needs_are : AreNeeds (parts_from all 0 ends) i
    unfolding services_of
    needs_are = record {
      one_each = parts_length all 0 ends ∙ h.one_each ∙ whole;
      each = λ s within.
          let inside : s < n = omega arith in
          rw (part_at all 0 ends s (omega (arith, h.one_each)), start_of_part s h inside, h.end_each s inside)
          (needs_of_part i s all formed within (h.size ∙ ap (dependency_start i) whole) h.each);
    }
