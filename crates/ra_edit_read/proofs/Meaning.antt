-- What a file of edits is, beside what is refused.
use Rattle.std.proofs.Common.{◌≡◌, ℕ, zero, suc, ◌+◌, ◌-◌, ◌<◌, ◌≤◌, ◌⊎◌, List, length, get_or, Option, Some, None}
use Rattle.std.proofs.Common.{refl, sym, subst, inl, inr, ⊎_elim, arith, add-zero, add-suc, le_refl}
use Rattle.std.specs.Prelude.{slice_get, nat_lt}
use Rattle.std.proofs.lemmas.Bool.{cond-false, le-ltb, cases_lt, cases_eq}
use Rattle.std.proofs.lemmas.Option.{slice_get_within, slice_get-get_or}
use Rattle.ra_base.specs.Searches.{or_else, first}
use Rattle.ra_base.proofs.Searches.{both_none, left_none, right_none, first_none_at}
use Rattle.ra_token.specs.declared.answers.Token.{Token}
use Rattle.ra_token.specs.declared.answers.TokenFault.{TokenFault}
use Rattle.ra_token.specs.TokenList.{tokens}
use Rattle.ra_token.specs.Faults.{first_fault}
use Rattle.ra_model.specs.declared.raw.Tables.{Tables}
use Rattle.ra_model.specs.Numbers.{resource_count, machine_count, service_count}
use Rattle.ra_edit_read.specs.declared.faults.EditsFault.TheVariants.{Range}
use Rattle.ra_edit_read.specs.EditLists.{FitsInstance}
use Rattle.ra_edit_read.specs.EditTexts.{token_value_at, numbers_behind, kind_place, edit_from, IsEdit, IsEditsFile}
use Rattle.ra_edit_read.specs.EditTexts.{none_left_in_edit, any_test, below_test, any_at, below_at, any_from}
use Rattle.ra_edit_read.specs.EditTexts.{added_test, resized_test, numbers_test, kind_test, found_test, edit_test}
use Rattle.ra_edit_read.proofs.NumberLaws.{worth_of, any_within, any_from_there, below_inside}
use Rattle.ra_edit_read.proofs.EditLaws.{kind_sound, kind_wrong, kind_behind}

-- kinds come one after another
pub kinds_ascend : (R : ℕ) (bytes : List ℕ) (k d : ℕ) → kind_place R bytes k ≤ kind_place R bytes (k + d)
unfolding kind_place
kinds_ascend R bytes k zero = rw add-zero (le_refl (kind_place R bytes k))
kinds_ascend R bytes k (suc d) = rw add-suc (omega (arith, kinds_ascend R bytes k d))

-- a number that was tested is there
any_told : (fault : Option TokenFault) (k : ℕ) (found : Option Token) → any_test fault k found ≡ None → (t : Token)
    × (found ≡ Some t)
unfolding any_test
any_told fault k None none = absurd (let e : Some (none_left_in_edit fault k) ≡ None = none in cc)
any_told fault k (Some t) none = (t, refl)

any_there : (bytes : List ℕ) (k n : ℕ) → any_at bytes k n ≡ None → n < length (tokens bytes)
unfolding any_at
any_there bytes k n none = let found = any_told (first_fault bytes) k (slice_get (tokens bytes) n) none in
    slice_get_within (tokens bytes) n found.0 found.1

below_told : (fault : Option TokenFault) (k count : ℕ) (found : Option Token) → below_test fault k count found ≡ None →
    (t : Token) × (found ≡ Some t) × (t.value < count)
unfolding below_test
below_told fault k count None none = absurd (let e : Some (none_left_in_edit fault k) ≡ None = none in cc)
below_told fault k count (Some t) none = ⊎_elim
    (λ (inside : t.value < count). (t, refl, inside))
    (λ (outside : count ≤ t.value).
    absurd (let e = cond-false (nat_lt t.value count) None (Some (Range t.at t.value 0 (count - 1)))
    (le-ltb t.value count outside) in cc))
    (cases_lt t.value count)

below_there : (bytes : List ℕ) (k count n : ℕ) → below_at bytes k count n ≡ None → token_value_at bytes n < count
unfolding below_at
below_there bytes k count n none =
    let found = below_told (first_fault bytes) k count (slice_get (tokens bytes) n) none in
    omega (arith, worth_of bytes n found.0 found.1, found.2)

-- and one that is there passes
below_passes : (bytes : List ℕ) (k count n : ℕ) → n < length (tokens bytes) → token_value_at bytes n < count →
    below_at bytes k count n ≡ None
below_passes bytes k count n within inside =
    let none : Token = record { value = 0; at = 0 } in
    let found = slice_get-get_or (tokens bytes) n none within in
    below_inside bytes k count n (get_or (tokens bytes) n none) found
    (omega (arith, worth_of bytes n (get_or (tokens bytes) n none) found, inside))

-- the numbers after a kind are there, and an added process fits
pub record HasNumbers (bytes : List ℕ) (i : Tables) (kind n : ℕ) : Type 0 where
  pub fits : FitsInstance i (edit_from (resource_count i) bytes kind n)
  pub within : n + numbers_behind (resource_count i) kind ≤ length (tokens bytes)

added_has : (bytes : List ℕ) (i : Tables) (k n : ℕ) → added_test bytes i k n ≡ None → HasNumbers bytes i 1 n
unfolding added_test edit_from numbers_behind
added_has bytes i k n none =
    let behind = right_none (below_at bytes k (service_count i) n) _ none in
    record {
      fits = (
        below_there bytes k (service_count i) n (left_none (below_at bytes k
            (service_count i) n) _ none),
        below_there bytes k (machine_count i) (n + 1) (left_none (below_at bytes k
            (machine_count i) (n + 1)) _ behind),
      );
      within = omega (
        arith,
        any_there bytes k (n + 2 + resource_count i) (right_none (any_from bytes k (n + 2)
            (resource_count i)) _ (right_none (below_at bytes k (machine_count i) (n + 1)) _ behind)),
      );
    }

has_added : (bytes : List ℕ) (i : Tables) (k n : ℕ) → HasNumbers bytes i 1 n → added_test bytes i k n ≡ None
unfolding added_test edit_from numbers_behind
has_added bytes i k n has =
    let within = has.within in
    both_none _ _ (below_passes bytes k (service_count i) n (omega arith) has.fits.0)
    (both_none _ _ (below_passes bytes k (machine_count i) (n + 1) (omega arith) has.fits.1)
    (both_none _ _ (any_from_there bytes k (n + 2) (resource_count i) (omega arith))
    (any_within bytes k (n + 2 + resource_count i) (omega arith))))

-- all of some numbers are there
any_all : (bytes : List ℕ) (k n R : ℕ) → n ≤ length (tokens bytes) → any_from bytes k n R ≡ None →
    n + R ≤ length (tokens bytes)
unfolding any_from
any_all bytes k n zero within none = omega arith
any_all bytes k n (suc R) within none =
    let last = any_there bytes k (n + R) (first_none_at R (suc R) (λ j. any_at bytes k (n + j)) (omega arith) none) in
    omega arith

resized_has : (bytes : List ℕ) (i : Tables) (k n : ℕ) → resized_test bytes i k n ≡ None → HasNumbers bytes i 3 n
unfolding resized_test edit_from numbers_behind
resized_has bytes i k n none =
    let all = any_all bytes k (n + 1) (resource_count i) (omega (arith, any_there bytes k n (left_none _ _ none)))
    (right_none (any_at bytes k n) _ none) in
    record { fits = tt; within = omega (arith, all) }

has_resized : (bytes : List ℕ) (i : Tables) (k n : ℕ) → HasNumbers bytes i 3 n → resized_test bytes i k n ≡ None
unfolding resized_test edit_from numbers_behind
has_resized bytes i k n has =
    let within = has.within in
    both_none _ _ (any_within bytes k n (omega arith)) (any_from_there bytes k (n + 1) (resource_count i) (omega arith))

retired_has : (bytes : List ℕ) (i : Tables) (k n : ℕ) → any_at bytes k n ≡ None → HasNumbers bytes i 2 n
unfolding edit_from numbers_behind
retired_has bytes i k n none = record { fits = tt; within = omega (arith, any_there bytes k n none) }

has_retired : (bytes : List ℕ) (i : Tables) (k n : ℕ) → HasNumbers bytes i 2 n → any_at bytes k n ≡ None
unfolding edit_from numbers_behind
has_retired bytes i k n has =
    let within = has.within in any_within bytes k n (omega arith)

-- a kind is 1, 2 or 3
three : (P : ℕ → Type 0) (kind : ℕ) → 1 ≤ kind → kind ≤ 3 → P 1 → P 2 → P 3 → P kind
three P kind least most one two other = ⊎_elim
    (λ (e : kind ≡ 1). subst P (sym e) one)
    (λ first. ⊎_elim
    (λ (e : kind ≡ 2). subst P (sym e) two)
    (λ second. subst P {x = 3} {y = kind} (omega (arith, first, second)) other)
    (cases_eq kind 2))
    (cases_eq kind 1)

numbers_has : (bytes : List ℕ) (i : Tables) (k kind n : ℕ) → 1 ≤ kind → kind ≤ 3 →
    numbers_test bytes i k kind n ≡ None → HasNumbers bytes i kind n
unfolding numbers_test
numbers_has bytes i k kind n least most = three (λ x. numbers_test bytes i k x n ≡ None → HasNumbers bytes i x n) kind
    least most (added_has bytes i k n) (retired_has bytes i k n) (resized_has bytes i k n)

has_numbers : {bytes : List ℕ} {i : Tables} {kind n : ℕ} (k : ℕ) → 1 ≤ kind → kind ≤ 3 → HasNumbers bytes i kind n →
    numbers_test bytes i k kind n ≡ None
unfolding numbers_test
has_numbers {bytes} {i} {kind} {n} k least most = three (λ x. HasNumbers bytes i x n →
    numbers_test bytes i k x n ≡ None) kind
    least most (has_added bytes i k n) (has_retired bytes i k n) (has_resized bytes i k n)

-- a kind that was tested
pub record IsKind (k kind : ℕ) : Type 0 where
  pub few : k < 100000
  pub least : 1 ≤ kind
  pub most : kind ≤ 3

kind_told : (k : ℕ) (t : Token) → kind_test k t ≡ None → IsKind k t.value
kind_told k t none = ⊎_elim
    (λ (few : k < 100000). ⊎_elim
    (λ (some : 0 < t.value). ⊎_elim
    (λ (low : t.value < 4). record { few = few; least = omega arith; most = omega arith })
    (λ (high : 4 ≤ t.value). absurd (let e = kind_wrong k t few (λ a b. omega arith) in cc))
    (cases_lt t.value 4))
    (λ (zeroed : t.value ≤ 0). absurd (let e = kind_wrong k t few (λ a b. omega arith) in cc))
    (cases_lt 0 t.value))
    (λ (many : 100000 ≤ k). absurd (let e = kind_behind k t many in cc))
    (cases_lt k 100000)

-- edit k is there, and what is after it
pub record HasEditAt (bytes : List ℕ) (i : Tables) (k : ℕ) : Type 0 where
  pub few : k < 100000
  pub is : IsEdit bytes i k
  pub within : kind_place (resource_count i) bytes (suc k) ≤ length (tokens bytes)

found_told : (bytes : List ℕ) (i : Tables) (k n : ℕ) (t : Token) → slice_get (tokens bytes) n ≡ Some t →
    found_test bytes i k n (slice_get (tokens bytes) n) ≡ None → IsKind k t.value × HasNumbers bytes i t.value (suc n)
unfolding found_test
found_told bytes i k n t found none =
    let tested : or_else (kind_test k t) (numbers_test bytes i k t.value (suc n)) ≡ None = rw found at none in
    let kind = kind_told k t (left_none _ _ tested) in
    (kind, numbers_has bytes i k t.value (suc n) kind.least kind.most (right_none (kind_test k t) _ tested))

edit_told : (bytes : List ℕ) (i : Tables) (k : ℕ) → kind_place (resource_count i) bytes k < length (tokens bytes) →
    edit_test bytes i k ≡ None → HasEditAt bytes i k
unfolding edit_test kind_place
edit_told bytes i k within none =
    let n = kind_place (resource_count i) bytes k in
    let start : Token = record { value = 0; at = 0 } in
    let t = get_or (tokens bytes) n start in
    let found = slice_get-get_or (tokens bytes) n start within in
    let told = found_told bytes i k n t found none in
    let worth : t.value ≡ token_value_at bytes n = sym (worth_of bytes n t found) in
    let has = rw worth at told.1 in
    record {
      few = told.0.few;
      is = record {
        least = omega (arith, worth, told.0.least);
        most = omega (arith, worth, told.0.most);
        fits = has.fits;
      };
      within = omega (arith, has.within);
    }

edit_passes : (bytes : List ℕ) (i : Tables) (k : ℕ) → HasEditAt bytes i k → edit_test bytes i k ≡ None
unfolding edit_test found_test kind_place
edit_passes bytes i k has =
    let n = kind_place (resource_count i) bytes k in
    let start : Token = record { value = 0; at = 0 } in
    let t = get_or (tokens bytes) n start in
    let end =
    has.within in
    let found = slice_get-get_or (tokens bytes) n start (omega arith) in
    let worth = worth_of bytes n t found in
    let behind =
    subst (λ kind. HasNumbers bytes i kind (suc n)) worth (record { fits = has.is.fits; within = omega arith }) in
    rw found (both_none _ _
    (kind_sound k t has.few (omega (arith, worth, has.is.least)) (omega (arith, worth, has.is.most)))
    (has_numbers k (omega (arith, worth, has.is.least))
    (omega (arith, worth, has.is.most)) behind))

-- a kind comes before those after it
kind_before : (R : ℕ) (bytes : List ℕ) (k c : ℕ) → k < c → kind_place R bytes k < kind_place R bytes c
    × (kind_place R bytes (suc k) ≤ kind_place R bytes c)
unfolding kind_place
kind_before R bytes k c below =
    let e : suc k + (c - suc k) ≡ c = omega arith in
    let ascend : kind_place R bytes k + suc (numbers_behind R (token_value_at bytes (kind_place R bytes k))) ≤
    kind_place R bytes c =
    subst (λ n. kind_place R bytes (suc k) ≤ kind_place R bytes n) e (kinds_ascend R bytes (suc k) (c - suc k)) in
    (omega arith, ascend)

-- edits that pass, up to the last token
pub file_at : (bytes : List ℕ) (i : Tables) (c : ℕ) → c ≤ 100000 → kind_place (resource_count i) bytes c ≡
    length (tokens bytes) → first c (edit_test bytes i) ≡ None → first_fault bytes ≡ None → IsEditsFile bytes i c
file_at bytes i c few all sound none = record {
  sound = none;
  few = few;
  each = λ k below.
      (edit_told bytes i k (omega (arith, all, (kind_before (resource_count i) bytes k c below).0))
      (first_none_at k c (edit_test bytes i) below sound)).is;
  all = all;
}

-- each edit of a file passes
pub each_passes : {bytes : List ℕ} {i : Tables} {c : ℕ} → IsEditsFile bytes i c → (k : ℕ) → k < c →
    edit_test bytes i k ≡ None
each_passes {bytes} {i} {c} file k below = edit_passes bytes i k (record {
  few = omega (arith, file.few);
  is = file.each k below;
  within = omega (arith, file.all, (kind_before (resource_count i) bytes k c below).1);
})

-- if no edit is refused, the tokens end with an edit
start_place : (R : ℕ) (bytes : List ℕ) → kind_place R bytes 0 ≡ 0
unfolding kind_place
start_place R bytes = refl

ends : (bytes : List ℕ) (i : Tables) → first 100001 (edit_test bytes i) ≡ None → (k : ℕ) → k ≤ 100000 →
    ((c : ℕ) × (c ≤ k) × (kind_place (resource_count i) bytes c ≡ length (tokens bytes)))
    ⊎ (kind_place (resource_count i) bytes k < length (tokens bytes))
ends bytes i sound zero few = elim (cases_lt (kind_place (resource_count i) bytes 0) (length (tokens bytes))) [
  | inl within ↦ inr within
  | inr past ↦ inl (
    0,
    omega arith,
    omega (
      arith,
      past,
      start_place
          (resource_count i) bytes,
    ),
  )
]
ends bytes i sound (suc k) few = ⊎_elim
    (λ ended. inl (ended.0, omega (arith, ended.1), ended.2))
    (λ (within : kind_place (resource_count i) bytes k < length (tokens bytes)).
    elim (cases_lt (kind_place (resource_count i) bytes (suc k)) (length (tokens bytes))) [
      | inl more ↦ inr more
      | inr past ↦ inl (
        suc k,
        omega arith,
        omega (
          arith,
          past,
          (edit_told bytes i k within (first_none_at k 100001
              (edit_test bytes i) (omega arith) sound)).within,
        ),
      )
    ])
    (ends bytes i sound k (omega arith))

pub count_of : (bytes : List ℕ) (i : Tables) → first 100001 (edit_test bytes i) ≡ None → (c : ℕ) × (c ≤ 100000)
    × (kind_place (resource_count i) bytes c ≡ length (tokens bytes))
count_of bytes i sound = ⊎_elim
    (λ ended. ended)
    (λ (within : kind_place (resource_count i) bytes 100000 < length (tokens bytes)).
    absurd (omega (
      arith,
      (edit_told bytes i 100000 within
          (first_none_at 100000 100001 (edit_test bytes i) (omega arith) sound)).few,
    )))
    (ends bytes i sound 100000 (omega arith))
