-- From the answers of a token reader to the meaning of a closed list.
use Rattle.std.proofs.Common.{◌≡◌, ℕ, ◌+◌, ◌<◌, ◌≤◌, ◌≢◌, ◌⊎◌, ◌↔◌, List, [], ◌∷◌, ◌++◌, length, take, get_or, set}
use Rattle.std.proofs.Common.{Option, Some, None, Ok, Err, Bool, refl, sym, ap, ◌∙◌, inl, inr, ⊎_elim, arith, eqb, true}
use Rattle.std.proofs.Common.{false, eq-eqb, ne_eqb, get_or-set_other, get_or-set_same}
use Rattle.std.proofs.lemmas.Bool.{cond-true, cond-false, lt-ltb, le-ltb, cases_lt, cases_eq}
use Rattle.std.proofs.lemmas.List.Folds.{list_any-append}
use Rattle.std.proofs.lemmas.List.{take_more, take_all, get_or-replicate}
use Rattle.std.proofs.lemmas.Option.{slice_get_within, slice_get-get_or, get_or_from_slice_get}
use Rattle.std.specs.Prelude.{slice_get, nat_lt, replicate, ◌||◌}
use Rattle.ra_base.specs.Searches.{or_else, first}
use Rattle.ra_base.specs.declared.ids.Machine.{Machine}
use Rattle.ra_base.proofs.Searches.{first_more_none, first_found, first_none_at, first_none_from, both_none, left_none}
use Rattle.ra_base.proofs.Searches.{right_none, or_else_none, or_else_some}
use Rattle.ra_base.proofs.Counts.{count_le}
use Rattle.ra_token.specs.declared.answers.Token.{Token}
use Rattle.ra_token.specs.declared.answers.TokenFault.{TokenFault}
use Rattle.ra_token.specs.declared.answers.TokenFault.TheVariants as told
use Rattle.ra_token.specs.declared.answers.TheConstants.{PLACE_LIMIT}
use Rattle.ra_token.specs.TokenList.{tokens, tokens_before, IsAnswer, GaveAll}
use Rattle.ra_token.specs.Faults.{first_fault, fault_at}
use Rattle.ra_token.specs.Reads.{IsBetween}
use Rattle.ra_token.specs.Runs.{ends_at}
use Rattle.ra_model.specs.declared.raw.Tables.{Tables}
use Rattle.ra_model.specs.Numbers.{machine_count}
use Rattle.ra_assign.specs.declared.faults.ClosedFault.{ClosedFault}
use Rattle.ra_assign.specs.declared.faults.ClosedFault.TheVariants.{ReadFault, BadByte, TooLarge, TooLong, NoMachine}
use Rattle.ra_assign.specs.declared.faults.ClosedFault.TheVariants.{NoMemory}
use Rattle.ra_assign.specs.ClosedLists.{closed_fault, machine_test, token_test, file_fault, closed_refusal}
use Rattle.ra_assign.specs.ClosedLists.{names_machine, IsClosedFile, IsClosedOf}
use Rattle.ra_assign.specs.Answers.{ClosedSays}
use Rattle.ra_assign.specs.Reading.{TakesClosed, HasFlagged}

says_same : (found other : Option ClosedFault) (fault : ClosedFault) → (found ≡ Some fault → other ≡ Some fault) →
    ClosedSays found fault → ClosedSays other fault
says_same found other ReadFault same says = tt
says_same found other (BadByte at byte) same says = same says
says_same found other (TooLarge at) same says = same says
says_same found other TooLong same says = same says
says_same found other (NoMachine at value) same says = same says
says_same found other NoMemory same says = tt

says_fault : (found : Option ClosedFault) (fault : TokenFault) → (fault ≡ told.ReadFault)
    ⊎ (found ≡ Some (closed_fault fault)) → ClosedSays found (closed_fault fault)
unfolding closed_fault
says_fault found told.ReadFault h = tt
says_fault found (told.BadByte at byte) h =
    elim h [
      | inl e ↦ cc
      | inr e ↦ e
    ]
says_fault found (told.TooLarge at) h =
    elim h [
      | inl e ↦ cc
      | inr e ↦ e
    ]
says_fault found told.TooLong h = elim h [
  | inl e ↦ cc
  | inr e ↦ e
]
says_fault found told.NoMemory h = tt

-- the tokens of a file are no more than its bytes
pub few_tokens : (bytes : List ℕ) (place : ℕ) → IsBetween bytes place → tokens_before bytes place ≤ PLACE_LIMIT
unfolding tokens_before fault_at
few_tokens bytes place between = elim (cases_lt PLACE_LIMIT place) [
  | inl past ↦ let none = first_none_at PLACE_LIMIT place (fault_at bytes) past between.sound in
      absurd (let e : Some told.TooLong ≡ None = none in cc)
  | inr within ↦ omega (arith, count_le place (ends_at bytes))
]

or_yes : (x y : Bool) → y ≡ true → (x || (y || false)) ≡ true
or_yes true y e = refl
or_yes false true e = refl
or_yes false false e = e

or_no : (x y : Bool) → y ≡ false → (x || (y || false)) ≡ x
or_no true y e = refl
or_no false true e = e
or_no false false e = refl

-- one more token
names_more : (ts : List Token) (t : Token) (k : ℕ) →
    names_machine (ts ++ t ∷ []) k ≡ (names_machine ts k || (eqb t.value k || false))
names_more ts t k = list_any-append (λ (x : Token). eqb x.value k) ts (t ∷ [])

module _ (bytes : List ℕ) (n : ℕ) where
  take_next : (t : Token) → slice_get (tokens bytes) n ≡ Some t →
      take (n + 1) (tokens bytes) ≡ take n (tokens bytes) ++ t ∷ []
  take_next t found = take_more (tokens bytes) n t (slice_get_within (tokens bytes) n t found)
      ∙ ap (λ (x : Token). take n (tokens bytes) ++ x ∷ []) (get_or_from_slice_get (tokens bytes) n t t found)

  flag_more : (flags : List Bool) (t : Token) (k : ℕ) → slice_get (tokens bytes) n ≡ Some t → t.value < length flags →
      get_or flags k false ≡ names_machine (take n (tokens bytes)) k →
      get_or (set flags t.value true) k false ≡ names_machine (take (n + 1) (tokens bytes)) k
  flag_more flags t k found within before =
      rw (take_next t found, names_more (take n (tokens bytes)) t k) (⊎_elim
      (λ (e : k ≡ t.value).
      (ap (λ (j : ℕ). get_or (set flags t.value true) j false) e
      ∙ get_or-set_same flags t.value true false within) ∙ sym (or_yes _ _ (eq-eqb t.value k (sym e))))
      (λ (d : k ≢ t.value). (get_or-set_other flags t.value k true false d ∙ before)
      ∙ sym (or_no _ _ (ne_eqb t.value k (λ (e : t.value ≡ k). d (sym e)))))
      (cases_eq k t.value))

-- a token that was tested names a machine
test_names : (i : Tables) (found : Option Token) (t : Token) → found ≡ Some t → machine_test i found ≡ None →
    t.value < machine_count i
unfolding machine_test
test_names i found t is none = elim (cases_lt t.value (machine_count i)) [
  | inl inside ↦ inside
  | inr outside ↦ absurd (let e = cond-false (nat_lt t.value (machine_count i)) None (Some (NoMachine t.at t.value))
      (le-ltb t.value (machine_count i) outside) in let n = rw is at none in cc)
]

no_fault : (fault : Option TokenFault) → file_fault fault ≡ None → fault ≡ None
unfolding file_fault
no_fault None none = refl
no_fault (Some fault) none = absurd (let e : Some (closed_fault fault) ≡ None = none in cc)

no_fault_none : (fault : Option TokenFault) → fault ≡ None → file_fault fault ≡ None
unfolding file_fault
no_fault_none fault none = rw none refl

module _ (bytes : List ℕ) (i : Tables) where
  module _ (n : ℕ) (t : Token) (answer : IsAnswer bytes n (Ok (Some t))) where
    -- a token that names a machine, and one that names none
    pub token_inside : t.value < machine_count i → token_test bytes i n ≡ None
    unfolding token_test machine_test
    token_inside inside =
        rw answer (cond-true (nat_lt t.value (machine_count i)) None (Some (NoMachine t.at t.value))
        (lt-ltb t.value (machine_count i) inside))

    pub token_outside : machine_count i ≤ t.value → token_test bytes i n ≡ Some (NoMachine t.at t.value)
    unfolding token_test machine_test
    token_outside outside =
        rw answer (cond-false (nat_lt t.value (machine_count i)) None (Some (NoMachine t.at t.value))
        (le-ltb t.value (machine_count i) outside))

  module _ (place : ℕ) where
    -- what is wrong with token n is the refusal
    pub closed_refused_at : (flags : List Bool) (t : Token) → HasFlagged bytes i place flags →
        slice_get (tokens bytes) (tokens_before bytes place) ≡ Some t →
        token_test bytes i (tokens_before bytes place) ≡ Some (NoMachine t.at t.value) →
        ClosedSays (closed_refusal bytes i) (NoMachine t.at t.value)
    unfolding closed_refusal
    closed_refused_at flags t flagged found here =
        rw (first_found (tokens_before bytes place) (length (tokens bytes)) (token_test bytes i)
        (NoMachine t.at t.value)
        (slice_get_within (tokens bytes) (tokens_before bytes place) t found) flagged.sound here)
        (or_else_some (NoMachine t.at t.value) (file_fault (first_fault bytes)))

    -- the fault of the file is the refusal, if all tokens were taken
    pub closed_refused_end : (flags : List Bool) (fault : TokenFault) → HasFlagged bytes i place flags →
        IsAnswer bytes (tokens_before bytes place) (Err fault) →
        ClosedSays (closed_refusal bytes i) (closed_fault fault)
    unfolding closed_refusal file_fault
    closed_refused_end flags fault flagged answer =
        says_fault (closed_refusal bytes i) fault
        (⊎_elim (λ (e : fault ≡ told.ReadFault). inl e)
        (λ (h : GaveAll bytes (tokens_before bytes place) × (first_fault bytes ≡ Some fault)).
        inr (rw (sym h.0, flagged.sound, h.1) (or_else_none (Some (closed_fault fault))))) answer)

    -- one more machine is flagged
    pub flagged_more : (after : ℕ) (flags : List Bool) (m : Machine) → HasFlagged bytes i place flags →
        TakesClosed bytes i place after m → m.0 < length flags → HasFlagged bytes i after (set flags m.0 true)
    flagged_more after flags m before takes within =
        let same : m.0 ≡ takes.token.value = ap (λ (x : Machine). x.0) takes.machine in
        record {
          sound =
              rw takes.next
              (first_more_none (tokens_before bytes place) (token_test bytes i) before.sound takes.tested);
          named = λ k inside.
              rw (takes.next, same)
              (flag_more bytes (tokens_before bytes place) flags takes.token k takes.found (rw same at within)
              (before.named k inside));
        }

    -- at the start no machine is flagged
    pub flagged_none : tokens_before bytes place ≡ 0 → HasFlagged bytes i place (replicate (machine_count i) false)
    unfolding first
    flagged_none start = record {
      sound = rw start refl;
      named = λ k inside. rw start (get_or-replicate (machine_count i) k false false inside);
    }

  token_names : (k : ℕ) (t : Token) → slice_get (tokens bytes) k ≡ Some t → token_test bytes i k ≡ None →
      t.value < machine_count i
  unfolding token_test
  token_names k t found none = test_names i (slice_get (tokens bytes) k) t found none

  -- nothing is refused exactly if the bytes are a closed list
  pub closed_accepts : (closed_refusal bytes i ≡ None) ↔ IsClosedFile bytes i
  unfolding closed_refusal
  closed_accepts = (there, back)
    where
      there : or_else (first (length (tokens bytes)) (token_test bytes i)) (file_fault (first_fault bytes)) ≡ None →
          IsClosedFile bytes i
      there none = record {
        sound = no_fault (first_fault bytes) (right_none (first (length (tokens bytes)) (token_test bytes i)) _ none);
        exist = λ k d within. token_names k (get_or (tokens bytes) k d)
            (slice_get-get_or (tokens bytes) k d within)
            (first_none_at k (length (tokens bytes)) (token_test bytes i) within (left_none _ _ none));
      }

      back : IsClosedFile bytes i → or_else (first (length (tokens bytes)) (token_test bytes i))
          (file_fault (first_fault bytes)) ≡ None
      back file =
          let none : Token = record { value = 0; at = 0 } in
          both_none _ _
          (first_none_from (length (tokens bytes)) (token_test bytes i)
          (λ k within. token_inside k (get_or (tokens bytes) k none)
          (slice_get-get_or (tokens bytes) k none within) (file.exist k none within)))
          (no_fault_none (first_fault bytes) file.sound)

  -- all tokens were taken and the file has no fault
  pub flagged_all : (place : ℕ) (flags : List Bool) → HasFlagged bytes i place flags → length flags ≡ machine_count i →
      IsAnswer bytes (tokens_before bytes place) (Ok None) → IsClosedOf bytes i flags
  unfolding closed_refusal file_fault
  flagged_all place flags flagged one_each answer = record {
    file = (closed_accepts).0 (rw (sym answer.0, flagged.sound, answer.1) (or_else_none None));
    one_each = one_each;
    named = λ k inside. flagged.named k inside
        ∙ ap (λ (ts : List Token). names_machine ts k)
        (take_all (tokens_before bytes place) (tokens bytes)
        (let e : tokens_before bytes place ≡ length (tokens bytes) = answer.0 in omega arith));
  }
