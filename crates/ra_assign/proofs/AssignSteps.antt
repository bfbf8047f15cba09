-- One step of reading an assignment.
use Rattle.std.proofs.Common.{inl, inr, ◌≡◌, ℕ, ◌+◌, ◌<◌, ◌≤◌, List, [], ◌∷◌, ◌++◌, length, Some, None, refl, sym, ap, ◌∙◌, subst}
use Rattle.std.proofs.Common.{arith, get_or}
use Rattle.std.proofs.Math.ListN.{get_or-append}
use Rattle.std.proofs.Math.Seq.{get_or-append_seam}
use Rattle.std.proofs.lemmas.Bool.{cases_lt}
use Rattle.ra_base.specs.declared.ids.Machine.{Machine}
use Rattle.ra_base.specs.Searches.{first}
use Rattle.ra_token.specs.declared.answers.Token.{Token}
use Rattle.ra_token.specs.declared.answers.TokenFault.{TokenFault}
use Rattle.ra_token.specs.declared.answers.TokenFault.TheVariants as told
use Rattle.ra_token.specs.TokenList.{tokens_before}
use Rattle.ra_model.specs.declared.raw.Tables.{Tables}
use Rattle.ra_model.specs.Numbers.{machine_count, process_count}
use Rattle.ra_model.specs.Assignments.{machine_at, IsAssignment}
use Rattle.ra_assign.specs.declared.faults.AssignFault.{AssignFault}
use Rattle.ra_assign.specs.declared.faults.AssignFault.TheVariants.{ReadFault, Missing, NoMachine, Extra}
use Rattle.ra_assign.specs.Lists.{assign_fault, process_test, end_test}
use Rattle.ra_assign.specs.Answers.{AssignSays}
use Rattle.ra_token.specs.Moments.{HasNext, HasFault}
use Rattle.ra_assign.specs.Reading.{TakesMachine, HasTakenMachines, HasEnded}
use Rattle.ra_assign.proofs.AssignLemmas.{process_fault, process_missing, process_outside, process_inside, end_fault}
use Rattle.ra_assign.proofs.AssignLemmas.{end_sound, end_extra}

-- only a failed fetch is told as one
pub fault_read : (fault : TokenFault) → assign_fault fault ≡ ReadFault → fault ≡ told.ReadFault
unfolding assign_fault
fault_read told.ReadFault e = refl
fault_read (told.BadByte at byte) e = cc
fault_read (told.TooLarge at) e = cc
fault_read told.TooLong e = cc
fault_read told.NoMemory e = cc

module _ (bytes : List ℕ) (x : ℕ) where
  -- after the last process: a fault, the end, and a number
  pub stopped_behind : (fault : AssignFault) → HasFault assign_fault bytes x fault →
      AssignSays (end_test bytes (tokens_before bytes x)) fault
  stopped_behind fault h = rw h.same (end_fault bytes (tokens_before bytes x) h.token_fault h.answer)

  pub ended : (y : ℕ) → HasNext bytes x y None → HasEnded bytes x
  ended y h = record { all = h.answer.0; sound = end_sound bytes (tokens_before bytes x) h.answer }

  pub extra : (y : ℕ) (t : Token) → HasNext bytes x y (Some t) →
      end_test bytes (tokens_before bytes x) ≡ Some (Extra t.at)
  extra y t h = end_extra bytes (tokens_before bytes x) t h.answer

-- one more machine, in range as those before
pub in_range_more : (i : Tables) (a : List Machine) (m : Machine) (n : ℕ) → length a ≡ n →
    ((k : ℕ) → k < n → machine_at a k < machine_count i) → m.0 < machine_count i → (k : ℕ) → k < n + 1 →
    machine_at (a ++ m ∷ []) k < machine_count i
unfolding machine_at
in_range_more i a m n size before here k within = elim (cases_lt k n) [
  | inl below ↦ subst (λ (x : Machine). x.0 < machine_count i)
      (sym (get_or-append a (m ∷ []) (record { 0 = 0 }) k (rw size below))) (before k below)
  | inr last ↦ let e : k ≡ length a = omega (arith, size) in
      subst (λ (x : Machine). x.0 < machine_count i)
      (sym (ap (λ (j : ℕ). get_or (a ++ m ∷ []) j (record { 0 = 0 })) e
      ∙ get_or-append_seam a m [] (record { 0 = 0 }))) here
]

module _ (bytes : List ℕ) (i : Tables) where
  -- at the machine of process p: a fault, the end, a number that doesn't name a machine, and a machine
  pub stopped : (x p : ℕ) (fault : AssignFault) → HasFault assign_fault bytes x fault → tokens_before bytes x ≡ p →
      AssignSays (process_test bytes i p) fault
  stopped x p fault h e = rw h.same (process_fault bytes i p h.token_fault (rw e at h.answer))

  module _ (x y : ℕ) where
    pub missing : (p : ℕ) → HasNext bytes x y None → tokens_before bytes x ≡ p →
        process_test bytes i p ≡ Some (Missing (record { 0 = p }))
    missing p h e = process_missing bytes i p (rw e at h.answer)

    pub outside : (p : ℕ) (t : Token) → HasNext bytes x y (Some t) → machine_count i ≤ t.value →
        tokens_before bytes x ≡ p → process_test bytes i p ≡ Some (NoMachine (record { 0 = p }) t.value)
    outside p t h past e = process_outside bytes i p t (rw e at h.answer) past

    pub takes : (t : Token) → HasNext bytes x y (Some t) → t.value < machine_count i →
        TakesMachine bytes i x y (record { 0 = t.value })
    takes t h within = record {
      token = t;
      found = h.answer;
      machine = refl;
      tested = process_inside bytes i (tokens_before bytes x) t h.answer within;
      next = h.one_more;
    }

  module _ (place : ℕ) where
    -- at the start nothing was taken
    pub taken_none : (a : List Machine) → tokens_before bytes place ≡ 0 → a ≡ [] → HasTakenMachines bytes i place 0 a
    unfolding first
    taken_none a start empty = record { given = start; sound = refl; machines = empty }

pub all_fit : (i : Tables) (n : ℕ) (a : List Machine) → n ≡ process_count i → length a ≡ n →
    ((k : ℕ) → k < n → machine_at a k < machine_count i) → IsAssignment i a
all_fit i n a e size within = record { one_each = size ∙ e; in_range = λ k below. within k (rw e below) }
