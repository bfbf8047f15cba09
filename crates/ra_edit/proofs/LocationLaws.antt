-- At how many labels a service is counted, as processes come and go.
use Rattle.std.proofs.lemmas.Grind.{common_steps}
use Rattle.std.proofs.Common.{◌≡◌, ◌≢◌, ℕ, zero, suc, ◌+◌, ◌^◌, ◌<◌, ◌≤◌, Bool, true, false, ltb}
use Rattle.std.proofs.Common.{set, refl, sym, ap, ⊎_elim, arith, eq-eqb, ne_eqb}
use Rattle.std.proofs.Common.{get_or-set_same, get_or-set_other, length-set, replicate}
use Rattle.std.proofs.lemmas.Bool.{cases_eq, lt-ltb, le-ltb}
use Rattle.std.proofs.lemmas.List.{length-replicate, get_or-replicate}
use Rattle.ra_base.specs.Sums.{one_if, total, count}
use Rattle.ra_base.proofs.Sums.{total_none, total_suc}
use Rattle.ra_base.proofs.Counts.{count_zero, count_same, count_change}
use Rattle.ra_edit.specs.declared.counts.Counts.{Counts}
use Rattle.ra_edit.specs.declared.locations.Locations.{Locations}
use Rattle.ra_edit.specs.Counts.{count_in, HasOneAt}
use Rattle.ra_edit.specs.Locations.{labels_in, AreNumbered}

-- one process more of service s at label x

count_here : (low high : Counts) (s x : ℕ) → HasOneAt s x low high → count_in high s x ≡ count_in low s x + 1
count_here low high s x one = rw (eq-eqb s s refl, eq-eqb x x refl) at (one s x)

count_away : (low high : Counts) (s x y : ℕ) → HasOneAt s x low high → y ≢ x → count_in high s y ≡ count_in low s y
count_away low high s x y one apart =
    let h = rw (eq-eqb s s refl, ne_eqb x y (λ same. apart (sym same))) at (one s y) in omega (arith, h)

labels_change : (low high : Counts) (s x : ℕ) → x < 2 ^ 32 → HasOneAt s x low high →
    labels_in high s + one_if (ltb 0 (count_in low s x)) ≡ labels_in low s + 1
labels_change low high s x small one =
    let changed = count_change (2 ^ 32) x (λ y. ltb 0 (count_in high s y)) (λ y. ltb 0 (count_in low s y)) small
    (λ y within apart. ap (ltb 0) (count_away low high s x y one apart)) in
    omega (arith, changed, ap one_if (lt-ltb 0 (count_in high s x) (omega (arith, count_here low high s x one))))

pub labels_first : (low high : Counts) (s x : ℕ) → x < 2 ^ 32 → HasOneAt s x low high → count_in low s x ≡ 0 →
    labels_in high s ≡ labels_in low s + 1
labels_first low high s x small one none =
    omega (arith, labels_change low high s x small one, ap one_if (le-ltb 0 (count_in low s x) (omega (arith, none))))

pub labels_other : (low high : Counts) (s x t : ℕ) → HasOneAt s x low high → t ≢ s →
    labels_in high t ≡ labels_in low t
labels_other low high s x t one apart =
    count_same (2 ^ 32) (λ y. ltb 0 (count_in high t y)) (λ y. ltb 0 (count_in low t y))
    (λ y within. ap (ltb 0) (omega (arith, rw (ne_eqb s t (λ same. apart (sym same))) at (one t y))))

pub labels_still : (low high : Counts) (s x : ℕ) → x < 2 ^ 32 → HasOneAt s x low high → 0 < count_in low s x → (t : ℕ) →
    labels_in high t ≡ labels_in low t
labels_still low high s x small one some t = ⊎_elim
    (λ (here : t ≡ s). rw here (omega (
      arith,
      labels_change low high s x small one,
      ap one_if (lt-ltb 0 (count_in low s x) some),
    )))
    (λ (apart : t ≢ s). labels_other low high s x t one apart)
    (cases_eq t s)

pub labels_same : (old new : Counts) → ((s x : ℕ) → count_in new s x ≡ count_in old s x) → (s : ℕ) →
    labels_in new s ≡ labels_in old s
labels_same old new same s = count_same (2 ^ 32) (λ y. ltb 0 (count_in new s y)) (λ y. ltb 0 (count_in old s y))
    (λ y within. ap (ltb 0) (same s y))

pub one_most : (b : Bool) → one_if b ≤ 1
one_most true = omega arith
one_most false = omega arith

-- of n processes, which are at one label each, at most n labels have one
pub labels_few : (n size : ℕ) (f : ℕ → ℕ → ℕ) (at : ℕ → ℕ) → ((p : ℕ) → at p < size) →
    ((p x : ℕ) → x ≢ at p → f p x ≡ 0) → count size (λ x. ltb 0 (total n (λ p. f p x))) ≤ n
labels_few zero size f at within none =
    omega (arith, count_zero size (λ x. ltb 0 (total 0 (λ p. f p x))) (λ x x_in. ap (ltb 0) (total_none (λ p. f p x))))
labels_few (suc n) size f at within none =
    let changed = count_change size (at n) (λ x. ltb 0 (total (suc n) (λ p. f p x))) (λ x. ltb 0 (total n (λ p. f p x)))
    (within n)
    (λ x x_in apart. ap (ltb 0) (omega (arith, total_suc n (λ p. f p x), none n x apart))) in
    omega (arith, changed, labels_few n size f at within none, one_most (ltb 0 (total (suc n) (λ p. f p (at n)))))

-- the numbers kept

pub numbered_none : {services : ℕ} {locations : Locations} → locations.numbers.items ≡ replicate services 0 →
    ((s x : ℕ) → count_in locations.counts s x ≡ 0) → AreNumbered services locations
numbered_none {services} {locations} zeros counts =
    grind (arith, common_steps, length-replicate, get_or-replicate, count_zero)

pub numbered_kept : {services : ℕ} {old new : Locations} → AreNumbered services old →
    new.numbers.items ≡ old.numbers.items → ((t : ℕ) → labels_in new.counts t ≡ labels_in old.counts t) →
    AreNumbered services new
numbered_kept has same labels = record { one_each = cc (has.one_each); each = λ t t_in. cc (has.each t t_in, labels t) }

pub numbered_written : {services : ℕ} {old new : Locations} (s value : ℕ) → AreNumbered services old → s < services →
    new.numbers.items ≡ set old.numbers.items s value → value ≡ labels_in new.counts s →
    ((t : ℕ) → t ≢ s → labels_in new.counts t ≡ labels_in old.counts t) → AreNumbered services new
numbered_written {old} s value has s_in written value_is others =
    grind (arith, common_steps, length-set, get_or-set_same, get_or-set_other)
