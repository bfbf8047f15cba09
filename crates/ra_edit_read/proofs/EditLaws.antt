-- What is wrong with one edit, and what it is, from what is known of its numbers.
use Rattle.std.proofs.Common.{◌≡◌, ◌≢◌, ℕ, suc, ◌+◌, ◌<◌, ◌≤◌, false, List, ◌++◌, Option, Some, None, refl, sym, ap}
use Rattle.std.proofs.Common.{◌∙◌, subst, ◌⊎◌, ⊎_elim, arith, ne_eqb, add-one}
use Rattle.std.specs.Prelude.{slice_get, nat_lt, ◌&&◌, replicate}
use Rattle.std.proofs.lemmas.Bool.{lt-ltb, le-ltb}
use Rattle.std.proofs.lemmas.Bool.Decides.{nat_tests}
use Rattle.ra_base.specs.Searches.{or_else}
use Rattle.ra_base.proofs.Searches.{both_none, or_else_none, or_else_some}
use Rattle.ra_token.specs.declared.answers.Token.{Token}
use Rattle.ra_token.specs.TokenList.{tokens, tokens_before}
use Rattle.ra_model.specs.declared.raw.Tables.{Tables}
use Rattle.ra_model.specs.Numbers.{resource_count, machine_count, service_count}
use Rattle.ra_edit_read.specs.declared.edits.Edit.{Edit}
use Rattle.ra_edit_read.specs.declared.edits.Edit.TheVariants.{Add, Retire, Resize}
use Rattle.ra_edit_read.specs.declared.faults.EditsFault.{EditsFault}
use Rattle.ra_edit_read.specs.declared.faults.EditsFault.TheVariants.{Range, TooMany}
use Rattle.ra_edit_read.specs.EditTexts.{token_value_at, numbers_behind, edit_from, requirements_from, any_at, below_at}
use Rattle.ra_edit_read.specs.EditTexts.{any_from, added_test, resized_test, numbers_test, kind_test, found_test}
use Rattle.ra_edit_read.specs.Answers.{EditsSays}
use Rattle.ra_edit_read.specs.Reading.{TakesNumber, TakesValues, TakesEdit, HasEdit}
use Rattle.ra_edit_read.proofs.NumberLaws.{says_same, takes_value, takes_any, takes_below, takes_values_any, worth_of}

-- a number that is zero or above 3 is not a kind
pub no_kind : (n : ℕ) → (n ≡ 0) ⊎ ((n ≡ 0 → ⊥) × (3 < n)) → 0 < n → n < 4 → ⊥
no_kind n out some few = ⊎_elim (λ (none : n ≡ 0). omega arith) (λ (h : (n ≡ 0 → ⊥) × (3 < n)). omega (arith, h.1)) out

-- a search goes on after what is sound
pub then_says : {a : Option EditsFault} (b : Option EditsFault) (fault : EditsFault) → a ≡ None → EditsSays b fault →
    EditsSays (or_else a b) fault
then_says {a} b fault sound says =
    says_same b (or_else a b) fault (λ (e : b ≡ Some fault). rw sound (or_else_none b ∙ e)) says

-- and stops at what is not
pub stop_says : (a b : Option EditsFault) (fault : EditsFault) → EditsSays a fault → EditsSays (or_else a b) fault
stop_says a b fault says = says_same a (or_else a b) fault (λ (e : a ≡ Some fault). rw e (or_else_some fault b)) says

-- the service and the machine of an added process were taken, and then its requirements
pub record TakesTwo (bytes : List ℕ) (s m x z : ℕ) : Type 0 where
  pub middle : ℕ
  pub one : TakesNumber bytes x middle s
  pub two : TakesNumber bytes middle z m

pub record TakesThree (bytes : List ℕ) (R s m : ℕ) (old new : List ℕ) (x u : ℕ) : Type 0 where
  pub middle : ℕ
  pub two : TakesTwo bytes s m x middle
  pub three : TakesValues bytes middle u R old new

-- an added process

third_place : {bytes : List ℕ} {x y z s m : ℕ} → TakesNumber bytes x y s → TakesNumber bytes y z m →
    tokens_before bytes z ≡ tokens_before bytes x + 2
third_place one two = omega (arith, one.next, two.next)

pub at_machine : (bytes : List ℕ) (i : Tables) (k S M x y s : ℕ) (fault : EditsFault) → S ≡ service_count i →
    M ≡ machine_count i → TakesNumber bytes x y s → s < S →
    EditsSays (below_at bytes k M (tokens_before bytes y)) fault →
    EditsSays (added_test bytes i k (tokens_before bytes x)) fault
unfolding added_test
at_machine bytes i k S M x y s fault same_s same_m one s_in says =
    then_says _ fault (takes_below k (service_count i) one (omega (arith, same_s, s_in)))
    (stop_says _ _ fault (rw (same_m, one.next) at says))

pub at_requirements : {bytes : List ℕ} {R x z s m : ℕ} (i : Tables) (k : ℕ) (fault : EditsFault) →
    R ≡ resource_count i → s < service_count i → m < machine_count i → TakesTwo bytes s m x z →
    EditsSays (any_from bytes k (tokens_before bytes z) R) fault →
    EditsSays (added_test bytes i k (tokens_before bytes x)) fault
unfolding added_test
at_requirements i k fault same s_in m_in h says =
    then_says _ fault (takes_below k (service_count i) h.one s_in)
    (then_says _ fault (rw h.one.next at (takes_below k (machine_count i) h.two m_in))
    (stop_says _ _ fault (rw (same, third_place h.one h.two) at says)))

pub at_cost : {bytes : List ℕ} {R x u s m : ℕ} {old new : List ℕ} (i : Tables) (k : ℕ) (fault : EditsFault) →
    R ≡ resource_count i → s < service_count i → m < machine_count i → TakesThree bytes R s m old new x u →
    EditsSays (any_at bytes k (tokens_before bytes u)) fault →
    EditsSays (added_test bytes i k (tokens_before bytes x)) fault
unfolding added_test
at_cost i k fault same s_in m_in h says =
    let one = h.two.one in
    let three = rw same at h.three in
    let third = third_place one h.two.two in
    then_says _ fault (takes_below k (service_count i) one s_in)
    (then_says _ fault (rw one.next at (takes_below k (machine_count i) h.two.two m_in))
    (then_says _ fault (rw third at (takes_values_any k three))
    (rw (three.next ∙ ap (λ n. n + resource_count i) third) at says)))

pub at_added : {bytes : List ℕ} {i : Tables} {k R x u v s m c : ℕ} {old new : List ℕ} → R ≡ resource_count i →
    s < service_count i → m < machine_count i → TakesThree bytes R s m old new x u → TakesNumber bytes u v c →
    TakesEdit bytes i k 1 x v old new (Add (record { 0 = s }) (record { 0 = m }) c)
unfolding numbers_test edit_from requirements_from numbers_behind added_test
at_added {i} {k} same s_in m_in h four =
    let one = h.two.one in
    let two = h.two.two in
    let three = rw same at h.three in
    let third = third_place one two in
    let fourth = three.next ∙ ap (λ n. n + resource_count i) third in
    record {
      sound =
          both_none _ _ (takes_below k (service_count i) one s_in)
          (both_none _ _ (rw one.next at (takes_below k (machine_count i) two m_in))
          (both_none _ _ (rw third at (takes_values_any k three)) (rw fourth at (takes_any k four))));
      edit_is = rw (takes_value one, rw one.next at (takes_value two), rw fourth at (takes_value four)) refl;
      rows = cc (three.values);
      next = omega (arith, four.next, three.next, third);
    }

-- a retired one

pub takes_retired : {bytes : List ℕ} {i : Tables} {k x y p : ℕ} {old new : List ℕ} → TakesNumber bytes x y p →
    new ≡ old ++ replicate (resource_count i) 0 → TakesEdit bytes i k 2 x y old new (Retire p)
unfolding numbers_test edit_from requirements_from numbers_behind
takes_retired {k} one zeros = record {
  sound = takes_any k one;
  edit_is = cc (takes_value one);
  rows = zeros;
  next = one.next;
}

-- a resized one

pub resized_requirements : {bytes : List ℕ} {x y p : ℕ} (i : Tables) (k : ℕ) (fault : EditsFault) →
    TakesNumber bytes x y p →
    EditsSays (any_from bytes k (tokens_before bytes y) (resource_count i)) fault →
    EditsSays (resized_test bytes i k (tokens_before bytes x)) fault
unfolding resized_test
resized_requirements i k fault one says =
    then_says _ fault (takes_any k one)
    (rw one.next at says)

resized_sound : {bytes : List ℕ} {x y z p : ℕ} {old new : List ℕ} (i : Tables) (k : ℕ) → TakesNumber bytes x y p →
    TakesValues bytes y z (resource_count i) old new → resized_test bytes i k (tokens_before bytes x) ≡ None
unfolding resized_test
resized_sound i k one two =
    both_none _ _ (takes_any k one)
    (rw one.next at (takes_values_any k two))

pub takes_resized : {bytes : List ℕ} {i : Tables} {k x y z p : ℕ} {old new : List ℕ} → TakesNumber bytes x y p →
    TakesValues bytes y z (resource_count i) old new → TakesEdit bytes i k 3 x z old new (Resize p)
unfolding numbers_test edit_from requirements_from numbers_behind
takes_resized {i} {k} one two = record {
  sound = resized_sound i k one two;
  edit_is = cc (takes_value one);
  rows = cc (two.values, one.next);
  next = omega (arith, two.next, one.next);
}

-- by its kind

pub test_resized : (bytes : List ℕ) (i : Tables) (k kind n : ℕ) (fault : EditsFault) → kind ≢ 1 → kind ≢ 2 →
    EditsSays (resized_test bytes i k n) fault → EditsSays (numbers_test bytes i k kind n) fault
unfolding numbers_test
test_resized bytes i k kind n fault not_one not_two says =
    rw (ne_eqb kind 1 not_one, ne_eqb kind 2 not_two) says

pub takes_other : {bytes : List ℕ} {i : Tables} {k kind x y : ℕ} {old new : List ℕ} {edit : Edit} → kind ≢ 1 →
    kind ≢ 2 → TakesEdit bytes i k 3 x y old new edit → TakesEdit bytes i k kind x y old new edit
unfolding numbers_test edit_from requirements_from numbers_behind
takes_other {kind} not_one not_two h =
    let one = ne_eqb kind 1 not_one in
    let two = ne_eqb kind 2 not_two in
    record {
      sound = rw (one, two) h.sound;
      edit_is = rw (one, two) h.edit_is;
      rows = rw (one, two) h.rows;
      next = rw (one, two) h.next;
    }

-- with its kind

pub kind_sound : (k : ℕ) (t : Token) → k < 100000 → 0 < t.value → t.value < 4 → kind_test k t ≡ None
unfolding kind_test
kind_sound k t few some kind = rw (lt-ltb k 100000 few, lt-ltb 0 t.value some, lt-ltb t.value 4 kind) refl

pub kind_wrong : (k : ℕ) (t : Token) → k < 100000 → (0 < t.value → t.value < 4 → ⊥) →
    kind_test k t ≡ Some (Range t.at t.value 1 3)
unfolding kind_test
kind_wrong k t few wrong = rw (lt-ltb k 100000 few, no_kind t.value wrong) refl
  where
    no_kind : (n : ℕ) → (0 < n → n < 4 → ⊥) → (nat_lt 0 n && nat_lt n 4) ≡ false
    no_kind n wrong = grind (arith, nat_tests)

pub kind_behind : (k : ℕ) (t : Token) → 100000 ≤ k → kind_test k t ≡ Some (TooMany t.at)
unfolding kind_test
kind_behind k t many = rw (le-ltb k 100000 many) refl

pub has_edit : {bytes : List ℕ} {i : Tables} {k x y z : ℕ} {old new : List ℕ} {edit : Edit} (t : Token) →
    slice_get (tokens bytes) (tokens_before bytes x) ≡ Some t → tokens_before bytes y ≡ tokens_before bytes x + 1 →
    k < 100000 → 0 < t.value → t.value < 4 → TakesEdit bytes i k t.value y z old new edit →
    HasEdit bytes i k x z old new edit
unfolding found_test
has_edit {bytes} {i} {k} {x} {y} {z} {old} {new} {edit} t found next few some kind takes =
    let behind : tokens_before bytes y ≡ suc (tokens_before bytes x) = next ∙ add-one (tokens_before bytes x) in
    let worth : t.value ≡ token_value_at bytes (tokens_before bytes x) =
    sym (worth_of bytes (tokens_before bytes x) t found) in
    record {
      sound = rw found
          (both_none _ _ (kind_sound k t few some kind)
          (rw behind at takes.sound));
      edit_is = subst (λ v. edit ≡ edit_from (resource_count i) bytes v (suc (tokens_before bytes x))) worth
          (rw behind at takes.edit_is);
      rows = subst (λ v. new ≡ old ++ requirements_from (resource_count i) bytes v (suc (tokens_before bytes x))) worth
          (rw behind at takes.rows);
      next = subst (λ v. tokens_before bytes z ≡ tokens_before bytes x + suc (numbers_behind (resource_count i) v))
          worth (omega (arith, takes.next, next));
    }
