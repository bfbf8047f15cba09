-- All edits of a file, from what is known of each.
use Rattle.std.proofs.Common.{◌≡◌, ℕ, suc, ◌+◌, ◌-◌, ◌*◌, ◌<◌, ◌≤◌, ◌↔◌, List, [], ◌∷◌, ◌++◌, length, Option, Some}
use Rattle.std.proofs.Common.{None, Ok, Err, refl, sym, ap, ◌∙◌, subst, inl, inr, ⊎_elim, arith, add-one, length-append}
use Rattle.std.specs.Prelude.{slice_get}
use Rattle.std.proofs.lemmas.Bool.{cases_lt}
use Rattle.std.proofs.lemmas.Option.{slice_get_past}
use Rattle.std.proofs.lemmas.List.{get_or_append_left}
use Rattle.std.proofs.Math.Seq.{get_or-append_seam}
use Rattle.ra_base.specs.Searches.{or_else, first}
use Rattle.ra_base.proofs.Searches.{first_none, first_more_none, first_none_at, first_none_from, first_found}
use Rattle.ra_base.proofs.Searches.{first_skip, both_none, left_none, right_none, or_else_none, or_else_some}
use Rattle.ra_token.specs.declared.answers.Token.{Token}
use Rattle.ra_token.specs.declared.answers.TokenFault.{TokenFault}
use Rattle.ra_token.specs.declared.answers.TokenFault.TheVariants as told
use Rattle.ra_token.specs.TokenList.{tokens, tokens_before, IsAnswer, GaveAll}
use Rattle.ra_token.specs.Faults.{first_fault}
use Rattle.ra_model.specs.declared.raw.Tables.{Tables}
use Rattle.ra_model.specs.Numbers.{resource_count}
use Rattle.ra_token.specs.Moments.{HasNext, HasFault}
use Rattle.ra_edit_read.specs.declared.edits.Edit.{Edit}
use Rattle.ra_edit_read.specs.declared.edits.Edit.TheVariants.{Retire}
use Rattle.ra_edit_read.specs.declared.faults.EditsFault.{EditsFault}
use Rattle.ra_edit_read.specs.declared.faults.EditsFault.TheVariants.{Range, TooMany}
use Rattle.ra_edit_read.specs.EditLists.{AllFit, FitsInstance}
use Rattle.ra_edit_read.specs.EditTexts.{token_value_at, kind_place, requirements_from, edits_to, requirements_to}
use Rattle.ra_edit_read.specs.EditTexts.{edits_fault, numbers_test, found_test, edit_test, edits_file_fault}
use Rattle.ra_edit_read.specs.EditTexts.{edits_refusal, IsEditsFile}
use Rattle.ra_edit_read.specs.Answers.{EditsSays, IsEditsRefusal}
use Rattle.ra_edit_read.specs.Reading.{HasEdit, HasTakenEdits, EditStop, AreAllEdits}
use Rattle.ra_edit_read.proofs.NumberLaws.{says_same, says_fault}
use Rattle.ra_edit_read.proofs.Meaning.{kinds_ascend, file_at, each_passes, count_of}
use Rattle.ra_edit_read.proofs.EditLaws.{kind_wrong, kind_behind, then_says, kind_sound}

-- what is wrong with edit k at its kind
test_here : {n : ℕ} (bytes : List ℕ) (i : Tables) (k : ℕ) → n ≡ kind_place (resource_count i) bytes k →
    edit_test bytes i k ≡ found_test bytes i k n (slice_get (tokens bytes) n)
unfolding edit_test
test_here bytes i k due = rw due refl

refused : (bytes : List ℕ) (i : Tables) (k : ℕ) (fault : EditsFault) → k < 100001 → first k (edit_test bytes i) ≡ None →
    edit_test bytes i k ≡ Some fault → edits_refusal bytes i ≡ Some fault
unfolding edits_refusal
refused bytes i k fault few sound here =
    rw (first_found k 100001 (edit_test bytes i) fault few sound here) (or_else_some fault _)

-- a wrong edit is the refusal
stop_at : (bytes : List ℕ) (i : Tables) (k x : ℕ) (fault : EditsFault) → k < 100001 →
    EditsSays (found_test bytes i k (tokens_before bytes x) (slice_get (tokens bytes) (tokens_before bytes x))) fault →
    EditStop bytes i k x fault
stop_at bytes i k x fault few says due sound =
    says_same _ (edits_refusal bytes i) fault
    (λ (e : found_test bytes i k (tokens_before bytes x) (slice_get (tokens bytes) (tokens_before bytes x)) ≡
    Some fault). refused bytes i k fault few sound (test_here bytes i k due ∙ e)) says

pub stop_kind : {bytes : List ℕ} {x y : ℕ} (i : Tables) (k : ℕ) (t : Token) → HasNext bytes x y (Some t) → k < 100000 →
    (0 < t.value → t.value < 4 → ⊥) → EditStop bytes i k x (Range t.at t.value 1 3)
unfolding found_test
stop_kind {bytes} {x} i k t h few wrong = stop_at bytes i k x (Range t.at t.value 1 3) (omega arith)
    (rw (h.answer, (kind_wrong k t few wrong)) (or_else_some (Range t.at t.value 1 3) _))

pub stop_many : {bytes : List ℕ} {x y : ℕ} (i : Tables) (t : Token) → HasNext bytes x y (Some t) →
    EditStop bytes i 100000 x (TooMany t.at)
unfolding found_test
stop_many {bytes} {x} i t h = stop_at bytes i 100000 x (TooMany t.at) (omega arith)
    (rw (h.answer, (kind_behind 100000 t (omega arith))) (or_else_some (TooMany t.at) _))

pub stop_behind : {bytes : List ℕ} {x y : ℕ} (i : Tables) (k : ℕ) (t : Token) (fault : EditsFault) →
    HasNext bytes x y (Some t) → k < 100000 → 0 < t.value → t.value < 4 →
    EditsSays (numbers_test bytes i k t.value (tokens_before bytes y)) fault → EditStop bytes i k x fault
unfolding found_test
stop_behind {bytes} {x} {y} i k t fault h few some kind says =
    stop_at bytes i k x fault (omega arith) (let behind : tokens_before bytes y ≡ suc (tokens_before bytes x) =
    h.one_more ∙ add-one (tokens_before bytes x) in
    rw h.answer (then_says _ fault (kind_sound k t few some kind)
    (rw behind at says)))

-- after the last token there is no edit
none_past : (bytes : List ℕ) (i : Tables) (k j : ℕ) → kind_place (resource_count i) bytes k ≡ length (tokens bytes) →
    k ≤ j → edit_test bytes i j ≡ None
unfolding edit_test found_test
none_past bytes i k j all after =
    let e : k + (j - k) ≡ j = omega arith in
    let past : length (tokens bytes) ≤ kind_place (resource_count i) bytes j =
    omega (
      arith,
      all,
      subst (λ n. kind_place (resource_count i) bytes k ≤ kind_place (resource_count i) bytes n) e
          (kinds_ascend (resource_count i) bytes k (j - k)),
    ) in
    rw (slice_get_past (tokens bytes) (kind_place (resource_count i) bytes j) past) refl

pub all_sound : (bytes : List ℕ) (i : Tables) (k : ℕ) → k < 100001 → kind_place (resource_count i) bytes k ≡
    length (tokens bytes) → first k (edit_test bytes i) ≡ None → first 100001 (edit_test bytes i) ≡ None
all_sound bytes i k few all sound =
    first_skip k 100001 (edit_test bytes i) (omega arith) (λ j after h. none_past bytes i k j all after) ∙ sound

-- a fault of the file instead of the kind of edit k
file_refused : (bytes : List ℕ) (i : Tables) (k n : ℕ) (fault : TokenFault) → k < 100001 →
    n ≡ kind_place (resource_count i) bytes k → first k (edit_test bytes i) ≡ None → IsAnswer bytes n (Err fault) →
    EditsSays (edits_refusal bytes i) (edits_fault fault)
unfolding edits_refusal edits_file_fault
file_refused bytes i k n fault few due sound answer = says_fault (edits_refusal bytes i) fault (⊎_elim
    (λ (e : fault ≡ told.ReadFault). inl e)
    (λ (h : GaveAll bytes n × (first_fault bytes ≡ Some fault)).
    inr (rw (all_sound bytes i k few (sym due ∙ h.0) sound, h.1) (or_else_none (Some (edits_fault fault)))))
    answer)

pub stop_file : {bytes : List ℕ} {x : ℕ} {fault : EditsFault} (i : Tables) (k : ℕ) →
    HasFault edits_fault bytes x fault →
    k < 100001 → EditStop bytes i k x fault
stop_file {bytes} {x} i k h few due sound =
    rw (← h.same) at (file_refused bytes i k (tokens_before bytes x) h.token_fault few due sound h.answer)

-- the first edits

pub has_none : {bytes : List ℕ} {i : Tables} {place : ℕ} {edits : List Edit} {requirements : List ℕ} →
    tokens_before bytes place ≡ 0 → edits ≡ [] → requirements ≡ [] → HasTakenEdits bytes i place 0 edits requirements
unfolding kind_place edits_to requirements_to
has_none {bytes} {i} start no_edits no_requirements = record {
  given = start;
  sound = first_none (edit_test bytes i);
  edits_are = no_edits;
  requirements_are = no_requirements;
}

pub has_more : {bytes : List ℕ} {i : Tables} {x y k : ℕ} {edits after : List Edit} {old new : List ℕ} {edit : Edit} →
    HasTakenEdits bytes i x k edits old → HasEdit bytes i k x y old new edit → after ≡ edits ++ edit ∷ [] →
    HasTakenEdits bytes i y (k + 1) after new
unfolding kind_place edits_to requirements_to
has_more {bytes} {i} {k} {edit} before one pushed =
    let R = resource_count i in
    let due = before.given in
    record {
      given =
          rw add-one (rw due at one.next);
      sound = first_more_none k (edit_test bytes i) before.sound (test_here bytes i k due
          ∙ one.sound);
      edits_are = rw add-one (pushed ∙ ap (λ front. front ++ edit ∷ []) before.edits_are
          ∙ ap (λ e. edits_to R bytes k ++ e ∷ [])
          (rw due at one.edit_is));
      requirements_are =
          rw add-one (rw due at one.rows
          ∙ ap (λ front. front ++ requirements_from R bytes (token_value_at bytes (kind_place R bytes k))
          (suc (kind_place R bytes k))) before.requirements_are);
    }

-- all edits
pub has_all : {bytes : List ℕ} {i : Tables} {place k : ℕ} {edits : List Edit} {requirements : List ℕ} → k < 100001 →
    HasTakenEdits bytes i place k edits requirements → IsAnswer bytes (tokens_before bytes place) (Ok None) →
    AreAllEdits bytes i edits requirements
has_all {bytes} {i} {k} {edits} {requirements} few has answer =
    let all : kind_place (resource_count i) bytes k ≡ length (tokens bytes) = sym has.given ∙ answer.0 in
    record {
      lists = record {
        count = k;
        file = file_at bytes i k (omega arith) all has.sound answer.1;
        width = refl;
        edits = has.edits_are;
        requirements = has.requirements_are;
      };
    }

pub has_ended : {bytes : List ℕ} {i : Tables} {place k : ℕ} {edits : List Edit} {requirements after : List ℕ} →
    k < 100001 → HasTakenEdits bytes i place k edits requirements → IsAnswer bytes (tokens_before bytes place) (Ok None)
    × (after ≡ requirements) → AreAllEdits bytes i edits after
has_ended few has end =
    has_all few (rw (← end.1) at has) end.0

pub last_stop : {bytes : List ℕ} {i : Tables} {k place : ℕ} {edits : List Edit} {requirements : List ℕ}
    (fault : EditsFault) → k ≡ 100000 → HasTakenEdits bytes i place k edits requirements →
    EditStop bytes i 100000 place fault → IsEditsRefusal bytes i fault
last_stop fault same has stop =
    stop (rw same at has.given)
    (rw same at has.sound)

pub next_row : (k w : ℕ) → k * w + w ≡ (k + 1) * w
next_row k w = grind arith

-- one more edit that fits
pub fit_none : {edits : List Edit} (i : Tables) → edits ≡ [] → AllFit i edits
fit_none i none k h = absurd (omega (arith, ap length none, h))

pub fit_more : (i : Tables) (edits after : List Edit) (edit : Edit) → AllFit i edits → FitsInstance i edit →
    after ≡ edits ++ edit ∷ [] → AllFit i after
fit_more i edits after edit before fits pushed =
    subst (AllFit i) (sym pushed) (λ k h. elim (cases_lt k (length edits)) [
      | inl below ↦
          subst (FitsInstance i) (sym (get_or_append_left edits (edit ∷ []) (Retire 0) k below)) (before k below)
      | inr last ↦ let e : k ≡ length edits = omega (arith, length-append {A = Edit}) in
          rw (← e) at (subst (FitsInstance i) (sym (get_or-append_seam edits edit [] (Retire 0))) fits)
    ])

no_fault : (fault : Option TokenFault) → edits_file_fault fault ≡ None → fault ≡ None
unfolding edits_file_fault
no_fault None none = refl
no_fault (Some fault) none = absurd (let e : Some (edits_fault fault) ≡ None = none in cc)

no_fault_none : {fault : Option TokenFault} → fault ≡ None → edits_file_fault fault ≡ None
unfolding edits_file_fault
no_fault_none none = rw none refl

-- nothing is refused exactly if the bytes are a file of edits
pub edits_accept : (bytes : List ℕ) (i : Tables) →
    (edits_refusal bytes i ≡ None) ↔ ((count : ℕ) × IsEditsFile bytes i count)
unfolding edits_refusal
edits_accept bytes i = (there, back)
  where
    there : or_else (first 100001 (edit_test bytes i)) (edits_file_fault (first_fault bytes)) ≡ None → (count : ℕ)
        × IsEditsFile bytes i count
    there none =
        let sound = left_none (first 100001 (edit_test bytes i)) _ none in
        let c = count_of bytes i sound in (
          c.0,
          file_at bytes i c.0 c.1 c.2
              (first_none_from c.0 (edit_test bytes i)
              (λ k below. first_none_at k 100001 (edit_test bytes i) (omega (arith, c.1)) sound))
              (no_fault (first_fault bytes) (right_none (first 100001 (edit_test bytes i)) _ none)),
        )

    back : ((count : ℕ) × IsEditsFile bytes i count) →
        or_else (first 100001 (edit_test bytes i)) (edits_file_fault (first_fault bytes)) ≡ None
    back file = both_none _ _
        (all_sound bytes i file.0 (omega (arith, file.1.few)) file.1.all
        (first_none_from file.0 (edit_test bytes i) (each_passes file.1)))
        (no_fault_none file.1.sound)
