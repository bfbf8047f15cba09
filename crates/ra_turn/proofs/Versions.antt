-- Versions of guards in a history and in its beginnings.
use Rattle.std.proofs.Common.{◌≡◌, ◌⊎◌, ℕ, zero, suc, ◌+◌, ◌-◌, ◌==◌, ◌≤◌, ◌<◌, Bool, true, false, cond, List, [], ◌∷◌}
use Rattle.std.proofs.Common.{◌++◌, length, slice_get, slice_index_or, filter, All, refl, ap, sym, ◌∙◌, inl, inr}
use Rattle.std.proofs.Common.{⊎_elim, eq-eqb, arith, length-append, Some}
use Rattle.std.proofs.lemmas.List.Elements.{filter-append}
use Rattle.std.proofs.lemmas.Bool.{cases_lt}
use Rattle.std.proofs.lemmas.Option.{slice_get-get_or, slice_get_within}
use mathlib.Core.List.{IsPrefix}
use Rattle.ra_turn.specs.Notes.{by, TouchedAt, QuietFrom, OnlyBy, IsVersion}

module _ {A : Type 0} where
  -- what is in a list is in a longer one, at the same place
  pub get_front : (xs ys : List A) (k : ℕ) (x : A) → slice_get xs k ≡ Some x → slice_get (xs ++ ys) k ≡ Some x
  get_front [] ys k x e = absurd cc
  get_front (y ∷ xs) ys zero x e = e
  get_front (y ∷ xs) ys (suc k) x e = get_front xs ys k x e

  -- what is in two lists joined is in the first or in the second
  pub get_cases : (xs ys : List A) (k : ℕ) (x : A) → slice_get (xs ++ ys) k ≡ Some x → (slice_get xs k ≡ Some x)
      ⊎ ((j : ℕ) × (k ≡ length xs + j) × (slice_get ys j ≡ Some x))
  get_cases [] ys k x e = inr (k, omega arith, e)
  get_cases (y ∷ xs) ys zero x e = inl e
  get_cases (y ∷ xs) ys (suc k) x e =
      ⊎_elim (inl) (λ h. inr (h.0, (omega arith), h.2)) (get_cases xs ys k x e)

  -- what is in a list with one element more
  pub get_last : (x y : A) (j : ℕ) → slice_get (x ∷ []) j ≡ Some y → (j ≡ 0) × (x ≡ y)
  get_last x y zero e = (refl, cc e)
  get_last x y (suc j) e = absurd (cc e)

  fewer : (b : Bool) (y : A) (ys : List A) → length (cond b (y ∷ ys) ys) ≡ 0 → length ys ≡ 0
  fewer true y ys h = absurd (omega arith)
  fewer false y ys h = h

  kept_some : (b : Bool) (y : A) (ys : List A) → b ≡ true → length (cond b (y ∷ ys) ys) ≡ 0 → ⊥
  kept_some true y ys e h = omega arith
  kept_some false y ys e h = cc e

  -- if no element of a list passes, none at a place of it does
  pub filter_none : (test : A → Bool) (xs : List A) (k : ℕ) (x : A) → length (filter test xs) ≡ 0 →
      slice_get xs k ≡ Some x → test x ≡ true → ⊥
  filter_none test [] k x none e pass = cc e
  filter_none test (y ∷ xs) zero x none e pass =
      kept_some (test y) y (filter test xs) (let same : y ≡ x = cc e in ap test same ∙ pass) none
  filter_none test (y ∷ xs) (suc k) x none e pass =
      filter_none test xs k x (fewer (test y) y (filter test xs) none) e pass

module _ {N : Type 0} (author : N → ℕ) where
  -- if what was seen has all notes of the number, the rest has none
  pub none_later : (number : ℕ) (xs rest mine : List N) → by author number xs ≡ mine →
      by author number (xs ++ rest) ≡ mine → length (by author number rest) ≡ 0
  none_later number xs rest mine seen all =
      let test : N → Bool = λ x. author x == number in
      let parts = sym (filter-append test xs rest) ∙ all in
      let a = ap length parts in let b = length-append (filter test xs) (filter test rest) in let c = ap length seen in
      omega arith

  -- if no note is by a number from `given` on, each author is below a bound that isn't below `given`
  pub all_below : (bound given : ℕ) (xs : List N) → given ≤ bound → ((n : ℕ) → given ≤ n → by author n xs ≡ []) →
      All (λ x. author x < bound) xs
  all_below bound given xs le none k d lt =
      let x = slice_index_or xs k d in
      ⊎_elim
      (λ h. h)
      (λ h. absurd (filter_none (λ y. author y == author x) xs k x (ap length (none (author x) (omega arith)))
      (slice_get-get_or xs k d lt) (eq-eqb (author x) (author x) refl)))
      (cases_lt (author x) bound)

module _ {N : Type 0} (touched : N → Bool) where
  -- a note that touches the guard does so in a longer history
  pub touched_longer : (xs ys : List N) (k : ℕ) → IsPrefix xs ys → TouchedAt touched xs k → TouchedAt touched ys k
  touched_longer xs ys k p t =
      (t.0, rw (← p.1) (get_front xs p.0 k t.0 t.1), t.2)

  untouched : (b : Bool) → (b ≡ true → ⊥) → b ≡ false
  untouched true h = absurd (h refl)
  untouched false h = refl

  module _ (author : N → ℕ) (number : ℕ) (xs : List N) where
    shorter_only : (ys : List N) (v : ℕ) → IsPrefix xs ys →
        OnlyBy touched author number ys v → OnlyBy touched author number xs v
    shorter_only ys v p only k x le e t =
        only k x le (rw (← p.1) (get_front xs p.0 k x e)) t

    quiet_only : (v : ℕ) → QuietFrom touched xs v → OnlyBy touched author number xs v
    quiet_only v quiet k x le e t = absurd (let f = quiet k x le e in cc (f, t))

    -- from its version on a guard is nobody's
    pub version_only : (v : ℕ) → IsVersion touched xs v → OnlyBy touched author number xs v
    version_only v is = quiet_only v is.quiet

    module _ (ys mine : List N) (v : ℕ) where
      -- If only the number's notes touch the guard from v on, and all of its notes are seen, the version in what was seen
      -- is that of the history
      pub version_whole : (w : ℕ) → IsPrefix xs ys → by author number xs ≡ mine → by author number ys ≡ mine →
          v ≤ length xs → OnlyBy touched author number ys v → IsVersion touched xs w → IsVersion touched ys w
      version_whole w p told all le only is =
          let rest = p.0 in
          let test : N → Bool = λ x. author x == number in
          let parts = sym (filter-append test xs rest)
          ∙ (ap (filter test) p.1 ∙ all) in
          let none : length (filter test rest) ≡ 0 =
          (let a = ap length parts in let b = length-append (filter test xs) (filter test rest) in
          let c = ap length told in omega arith) in
          let longer : length ys ≡ length xs + length rest = ap length (sym p.1) ∙ length-append xs rest in
          record {
            within = (let h = is.within in omega arith);
            last = λ more. touched_longer xs ys (w - 1) p (is.last more);
            quiet = λ k x ge e. ⊎_elim
                (λ h. is.quiet k x ge h)
                (λ h. untouched (touched x)
                (λ t. filter_none test rest h.0 x none h.2
                (eq-eqb (author x) number (only k x (let n = h.1 in omega arith) e t))))
                (get_cases xs rest k x (rw p.1 e));
          }

      -- A version past what was seen, whose note is there, is the version if from there on only the number's notes touch
      -- the guard and all of its notes were seen
      pub version_past : IsPrefix xs ys → by author number xs ≡ mine → by author number ys ≡ mine → length xs < v →
          TouchedAt touched ys (v - 1) → OnlyBy touched author number ys v → IsVersion touched ys v
      version_past p seen all past last only =
          let rest = p.0 in
          let none =
          none_later author number xs rest mine seen (ap (by author number) p.1 ∙ all) in
          let below = slice_get_within ys _ last.0 last.1 in
          record {
            within = omega arith;
            last = λ more. last;
            quiet = λ k x ge e. ⊎_elim
                (λ h. absurd (let lt = slice_get_within xs k x h in omega arith))
                (λ h. untouched (touched x)
                (λ t. filter_none (λ y. author y == number) rest h.0 x none h.2
                (eq-eqb _ number (only k x ge e t))))
                (get_cases xs rest k x (rw p.1 e));
          }

    -- one note more, which is by the number if it touches the guard
    pub only_more : (n : N) (v : ℕ) → (touched n ≡ true → author n ≡ number) →
        OnlyBy touched author number xs v → OnlyBy touched author number (xs ++ n ∷ []) v
    only_more n v its only k x ge e t = ⊎_elim (λ h. only k x ge h t)
        (λ h. (let same : n ≡ x = (get_last n x h.0 h.2).1 in ap author (sym same) ∙ its (ap touched same ∙ t)))
        (get_cases xs _ k x e)

  pub only_shorter : (author : N → ℕ) (number : ℕ) (xs ys : List N) (v : ℕ) → IsPrefix xs ys →
      OnlyBy touched author number ys v → OnlyBy touched author number xs v
  only_shorter = shorter_only

  -- a version within what was seen is that of what was seen
  pub version_seen : (xs ys : List N) (v : ℕ) → IsPrefix xs ys → v ≤ length xs → IsVersion touched ys v →
      IsVersion touched xs v
  version_seen xs ys v p le is = record {
    within = le;
    last = λ more. (let t = is.last more in ⊎_elim
        (λ h. (t.0, h, t.2))
        (λ h. absurd (omega arith))
        (get_cases xs p.0 _ t.0 (rw p.1 t.1)));
    quiet = λ k x ge e. is.quiet k x ge (rw (← p.1) (get_front xs p.0 k x e));
  }

  -- a note that doesn't touch the guard leaves its version
  pub version_kept : (xs : List N) (n : N) (v : ℕ) → touched n ≡ false → IsVersion touched xs v →
      IsVersion touched (xs ++ n ∷ []) v
  version_kept xs n v away is = record {
    within = (omega (arith, length-append xs (n ∷ [])));
    last = λ more. touched_longer xs (xs ++ n ∷ []) (v - 1) (n ∷ [], refl) (is.last more);
    quiet = λ k x ge e. ⊎_elim (λ h. is.quiet k x ge h) (λ h. ap touched (sym (get_last n x h.0 h.2).1) ∙ away)
        (get_cases xs (n ∷ []) k x e);
  }

  not_above : (xs : List N) (v w : ℕ) → IsVersion touched xs v → IsVersion touched xs w → v < w → ⊥
  not_above xs v w is is' lt =
      let last = is'.last (omega arith) in let f = is.quiet _ last.0 (omega arith) last.1 in cc (f, last.2)

  -- a guard has one version
  pub version_one : (xs : List N) (v w : ℕ) → IsVersion touched xs v → IsVersion touched xs w → v ≡ w
  version_one xs v w is is' = ⊎_elim
      (λ lt. absurd (not_above xs v w is is' lt))
      (λ le. ⊎_elim (λ lt. absurd (not_above xs w v is' is lt)) (λ le'. omega arith) (cases_lt w v))
      (cases_lt v w)
