-- From the answers of a token reader to the meaning of an assignment file.
use Rattle.std.proofs.Common.{◌≡◌, ℕ, zero, suc, ◌+◌, ◌<◌, ◌≤◌, ◌⊎◌, ◌↔◌, List, [], ◌∷◌, ◌++◌, length, map, take}
use Rattle.std.proofs.Common.{get_or, Option, Some, None, Ok, Err, refl, sym, ap, ◌∙◌, inl, inr, ⊎_elim, subst, arith}
use Rattle.std.proofs.lemmas.Bool.{cond-true, cond-false, lt-ltb, le-ltb, cases_lt}
use Rattle.std.proofs.lemmas.List.{take_more, take_all, map-append}
use Rattle.std.proofs.lemmas.Option.{slice_get_within, get_or_from_slice_get, slice_get-get_or}
use Rattle.std.proofs.lemmas.Option.{slice_get_cases}
use Rattle.std.specs.Prelude.{slice_get, nat_lt}
use Rattle.ra_base.specs.Searches.{or_else, first}
use Rattle.ra_base.proofs.Searches.{first_more_none, first_found, first_none_at, first_none_from, both_none, left_none}
use Rattle.ra_base.proofs.Searches.{right_none, or_else_none, or_else_some}
use Rattle.ra_base.specs.declared.ids.Machine.{Machine}
use Rattle.ra_token.specs.declared.answers.Token.{Token}
use Rattle.ra_token.specs.declared.answers.TokenFault.{TokenFault}
use Rattle.ra_token.specs.declared.answers.TokenFault.TheVariants as told
use Rattle.ra_token.specs.TokenList.{tokens, tokens_before, IsAnswer, GaveAll}
use Rattle.ra_token.specs.Faults.{first_fault}
use Rattle.ra_token.proofs.TokenLaws.{past_all}
use Rattle.ra_model.specs.declared.raw.Tables.{Tables}
use Rattle.ra_model.specs.Numbers.{machine_count, process_count}
use Rattle.ra_assign.specs.declared.faults.AssignFault.{AssignFault}
use Rattle.ra_assign.specs.declared.faults.AssignFault.TheVariants.{ReadFault, BadByte, TooLarge, TooLong, Missing}
use Rattle.ra_assign.specs.declared.faults.AssignFault.TheVariants.{NoMachine, Extra, NoMemory}
use Rattle.ra_assign.specs.Lists.{assign_fault, none_left, machine_test, process_test, behind_test, end_test}
use Rattle.ra_assign.specs.Lists.{assign_refusal, machine_of, IsAssignmentFile, IsAssignmentOf}
use Rattle.ra_assign.specs.Answers.{AssignSays}
use Rattle.ra_assign.specs.Reading.{TakesMachine, HasTakenMachines, HasEnded}

-- a refusal that says what one finding is says what another one is, if that is the same
says_same : (found other : Option AssignFault) (fault : AssignFault) → (found ≡ Some fault → other ≡ Some fault) →
    AssignSays found fault → AssignSays other fault
says_same found other ReadFault same says = tt
says_same found other (BadByte at byte) same says = same says
says_same found other (TooLarge at) same says = same says
says_same found other TooLong same says = same says
says_same found other (Missing process) same says = same says
says_same found other (NoMachine process value) same says = same says
says_same found other (Extra at) same says = same says
says_same found other NoMemory same says = tt

-- a fault of a token that was found is what its refusal says
pub says_fault : (found : Option AssignFault) (fault : TokenFault) → (fault ≡ told.ReadFault)
    ⊎ (found ≡ Some (assign_fault fault)) → AssignSays found (assign_fault fault)
unfolding assign_fault
says_fault found told.ReadFault h = tt
says_fault found (told.BadByte at byte) h =
    elim h [
      | inl e ↦ cc
      | inr e ↦ e
    ]
says_fault found (told.TooLarge at) h =
    elim h [
      | inl e ↦ cc
      | inr e ↦ e
    ]
says_fault found told.TooLong h = elim h [
  | inl e ↦ cc
  | inr e ↦ e
]
says_fault found told.NoMemory h = tt

-- if no token is found, the tokens have ended
pub past_none : (ts : List Token) (n : ℕ) → slice_get ts n ≡ None → length ts ≤ n
past_none ts n none = ⊎_elim
    (λ found. absurd (let e : slice_get ts n ≡ Some found.0 = found.2 in cc))
    (λ past. past.0)
    (slice_get_cases ts n).1

behind_token : (fault : Option TokenFault) (t : Token) → behind_test fault (Some t) ≡ Some (Extra t.at)
unfolding behind_test
behind_token None t = refl
behind_token (Some fault) t = refl

-- a machine that was tested exists
machine_names : (i : Tables) (fault : Option TokenFault) (p : ℕ) (found : Option Token) →
    machine_test i fault p found ≡ None → (t : Token) × (found ≡ Some t) × (t.value < machine_count i)
unfolding machine_test
machine_names i fault p None none = absurd (let e : Some (none_left fault p) ≡ None = none in cc)
machine_names i fault p (Some t) none = elim (cases_lt t.value (machine_count i)) [
  | inl inside ↦ (t, refl, inside)
  | inr outside ↦ absurd (let e = cond-false (nat_lt t.value (machine_count i)) None
      (Some (NoMachine (record { 0 = p }) t.value)) (le-ltb t.value (machine_count i) outside) in cc)
]

behind_none : (fault : Option TokenFault) (next : Option Token) → behind_test fault next ≡ None → (fault ≡ None)
    × (next ≡ None)
unfolding behind_test
behind_none None None none = (refl, refl)
behind_none (Some fault) None none = absurd (let e : Some (assign_fault fault) ≡ None = none in cc)
behind_none fault (Some t) none = absurd (let e = sym (behind_token fault t) ∙ none in cc)

module _ (bytes : List ℕ) where
  module _ (n : ℕ) where
    -- after the last process
    pub end_fault : (fault : TokenFault) → IsAnswer bytes n (Err fault) →
        AssignSays (end_test bytes n) (assign_fault fault)
    unfolding end_test behind_test
    end_fault fault answer =
        says_fault (end_test bytes n) fault
        (⊎_elim (λ (e : fault ≡ told.ReadFault). inl e) (λ (h : GaveAll bytes n × (first_fault bytes ≡ Some fault)).
        inr (rw (past_all bytes n h.0, h.1) refl)) answer)

    pub end_sound : IsAnswer bytes n (Ok None) → end_test bytes n ≡ None
    unfolding end_test behind_test
    end_sound answer = rw (past_all bytes n answer.0, answer.1) refl

    pub end_extra : (t : Token) → IsAnswer bytes n (Ok (Some t)) → end_test bytes n ≡ Some (Extra t.at)
    unfolding end_test
    end_extra t answer = rw answer (behind_token (first_fault bytes) t)

    end_none : end_test bytes n ≡ None → (first_fault bytes ≡ None)
        × (slice_get (tokens bytes) n ≡ None)
    unfolding end_test
    end_none none = behind_none (first_fault bytes) (slice_get (tokens bytes) n) none

  module _ (i : Tables) (n : ℕ) where
    refusal_at : (fault : AssignFault) → n < process_count i → first n (process_test bytes i) ≡ None →
        process_test bytes i n ≡ Some fault → assign_refusal bytes i ≡ Some fault
    unfolding assign_refusal
    refusal_at fault within before here =
        rw (first_found n (process_count i) (process_test bytes i) fault within before here) (or_else_some fault _)

    -- the fault of the file instead of the machine of process n
    pub process_fault : (fault : TokenFault) → IsAnswer bytes n (Err fault) →
        AssignSays (process_test bytes i n) (assign_fault fault)
    unfolding process_test machine_test none_left
    process_fault fault answer =
        says_fault (process_test bytes i n) fault
        (⊎_elim (λ (e : fault ≡ told.ReadFault). inl e) (λ (h : GaveAll bytes n × (first_fault bytes ≡ Some fault)).
        inr (rw (past_all bytes n h.0, h.1) refl)) answer)

    -- the end of the file instead of the machine of process n
    pub process_missing : IsAnswer bytes n (Ok None) → process_test bytes i n ≡ Some (Missing (record { 0 = n }))
    unfolding process_test machine_test none_left
    process_missing answer = rw (past_all bytes n answer.0, answer.1) refl

    module _ (t : Token) (answer : IsAnswer bytes n (Ok (Some t))) where
      -- a machine that doesn't exist, and one that does
      pub process_outside : machine_count i ≤ t.value →
          process_test bytes i n ≡ Some (NoMachine (record { 0 = n }) t.value)
      unfolding process_test machine_test
      process_outside outside =
          rw answer (cond-false (nat_lt t.value (machine_count i)) None (Some (NoMachine (record { 0 = n }) t.value))
          (le-ltb t.value (machine_count i) outside))

      pub process_inside : t.value < machine_count i → process_test bytes i n ≡ None
      unfolding process_test machine_test
      process_inside inside =
          rw answer (cond-true (nat_lt t.value (machine_count i)) None (Some (NoMachine (record { 0 = n }) t.value))
          (lt-ltb t.value (machine_count i) inside))

  module _ (i : Tables) where
    -- one more machine was taken
    pub taken_more : (place after n : ℕ) (a : List Machine) (m : Machine) → HasTakenMachines bytes i place n a →
        TakesMachine bytes i place after m → HasTakenMachines bytes i after (n + 1) (a ++ m ∷ [])
    taken_more place after n a m before takes =
        let there : n < length (tokens bytes) =
        slice_get_within (tokens bytes) n takes.token (rw before.given at takes.found) in
        record {
          given = takes.next ∙ ap (λ (k : ℕ). k + 1) before.given;
          sound = first_more_none n (process_test bytes i) before.sound (rw before.given at takes.tested);
          machines = rw (
            before.machines,
            takes.machine,
            take_more (tokens bytes) n takes.token there,
            get_or_from_slice_get (tokens bytes) n takes.token takes.token (rw before.given at takes.found),
          )
              (sym (map-append machine_of (take n (tokens bytes)) (takes.token ∷ [])));
        }

    process_names : (p : ℕ) → process_test bytes i p ≡ None → (t : Token)
        × (slice_get (tokens bytes) p ≡ Some t) × (t.value < machine_count i)
    unfolding process_test
    process_names p none = machine_names i (first_fault bytes) p (slice_get (tokens bytes) p) none

    -- if no process lacks its machine, there are as many tokens
    many : (n : ℕ) → first n (process_test bytes i) ≡ None → n ≤ length (tokens bytes)
    many zero sound = omega arith
    many (suc n) sound =
        let named = process_names n (first_none_at n (suc n) (process_test bytes i) (omega arith) sound) in
        let there : n < length (tokens bytes) = slice_get_within (tokens bytes) n named.0 named.1 in
        omega arith

    -- nothing is refused exactly if the bytes are an assignment file
    pub assign_accepts : (assign_refusal bytes i ≡ None) ↔ IsAssignmentFile bytes i
    unfolding assign_refusal
    assign_accepts = (there, back)
      where
        there : or_else (first (process_count i) (process_test bytes i)) (end_test bytes (process_count i)) ≡ None →
            IsAssignmentFile bytes i
        there none =
            let all = left_none _ _ none in
            let end = end_none (process_count i)
            (right_none (first (process_count i) (process_test bytes i)) _ none) in
            let past = past_none (tokens bytes) (process_count i) end.1 in
            record {
              sound = end.0;
              one_each = omega (arith, past, many (process_count i) all);
              exist = λ k d within.
                  let named = process_names k
                  (first_none_at k (process_count i) (process_test bytes i) (omega (arith, past, within)) all) in
                  subst (λ (t : Token). t.value < machine_count i)
                  (sym (get_or_from_slice_get (tokens bytes) k named.0 d named.1)) named.2;
            }

        back : IsAssignmentFile bytes i → or_else (first (process_count i) (process_test bytes i))
            (end_test bytes (process_count i)) ≡ None
        back file =
            let none : Token = record { value = 0; at = 0 } in
            both_none _ _
            (first_none_from (process_count i) (process_test bytes i) (λ p below.
            let within : p < length (tokens bytes) = omega (arith, file.one_each, below) in
            process_inside i p (get_or (tokens bytes) p none) (slice_get-get_or (tokens bytes) p none within)
            (file.exist p none within)))
            (end_sound (process_count i) (sym file.one_each, file.sound))

  module _ (i : Tables) (place n : ℕ) (a : List Machine) where
    -- what is wrong with the machine of process n is the refusal
    pub refused_now : (fault : AssignFault) → n < process_count i → HasTakenMachines bytes i place n a →
        (tokens_before bytes place ≡ n → AssignSays (process_test bytes i n) fault) →
        AssignSays (assign_refusal bytes i) fault
    refused_now fault within taken stop =
        says_same (process_test bytes i n) (assign_refusal bytes i) fault (refusal_at i n fault within taken.sound)
        (stop taken.given)

    -- what is wrong after the last process is the refusal
    pub refused_then : (fault : AssignFault) → n ≡ process_count i → HasTakenMachines bytes i place n a →
        AssignSays (end_test bytes (tokens_before bytes place)) fault → AssignSays (assign_refusal bytes i) fault
    unfolding assign_refusal
    refused_then fault last taken says =
        let all = rw last at taken in
        says_same (end_test bytes (tokens_before bytes place)) (assign_refusal bytes i) fault
        (λ (e : end_test bytes (tokens_before bytes place) ≡ Some fault).
        rw all.sound (or_else_none _ ∙ (rw all.given at e))) says

    -- all machines were taken, and nothing is left
    pub all_taken : n ≡ process_count i → HasTakenMachines bytes i place n a → HasEnded bytes place →
        IsAssignmentOf bytes i a
    unfolding assign_refusal
    all_taken last taken ended =
        let all = rw last at taken in
        record {
          file = (assign_accepts i).0 (both_none _ _ all.sound (rw all.given at ended.sound));
          machines = all.machines
              ∙ ap (map machine_of)
              (take_all (process_count i) (tokens bytes)
              (let e : process_count i ≡ length (tokens bytes) = rw all.given at ended.all in omega arith));
        }
