-- One step of reading a closed list.
use Rattle.std.proofs.Common.{◌≡◌, ℕ, ◌+◌, ◌<◌, ◌≤◌, List, Bool, false, length, set, true, Some, refl, ap, ◌∙◌}
use Rattle.std.proofs.Common.{arith}
use Rattle.std.specs.Prelude.{replicate}
use Rattle.ra_base.specs.declared.ids.Machine.{Machine}
use Rattle.ra_token.specs.declared.answers.Token.{Token}
use Rattle.ra_token.specs.declared.answers.TokenFault.{TokenFault}
use Rattle.ra_token.specs.declared.answers.TokenFault.TheVariants as told
use Rattle.ra_token.specs.declared.answers.TheConstants.{PLACE_LIMIT}
use Rattle.ra_token.specs.TokenList.{tokens_before}
use Rattle.ra_token.specs.Reads.{StandsIn}
use Rattle.ra_token.specs.Standing.{Standing}
use Rattle.ra_model.specs.declared.raw.Tables.{Tables}
use Rattle.ra_model.specs.Numbers.{machine_count}
use Rattle.ra_assign.specs.declared.faults.ClosedFault.{ClosedFault}
use Rattle.ra_assign.specs.declared.faults.ClosedFault.TheVariants.{ReadFault, TooLong, NoMachine}
use Rattle.ra_assign.specs.ClosedLists.{closed_fault}
use Rattle.ra_assign.specs.Answers.{IsClosedRefusal}
use Rattle.ra_token.specs.Moments.{HasNext, HasFault}
use Rattle.ra_assign.specs.Reading.{TakesClosed, HasFlaggedFirst, ClosedStop}
use Rattle.ra_assign.proofs.ClosedLemmas.{token_inside, token_outside, closed_refused_at, closed_refused_end}
use Rattle.ra_assign.proofs.ClosedLemmas.{few_tokens, flagged_more, flagged_none}

-- only a failed fetch is told as one
pub fault_read : (fault : TokenFault) → closed_fault fault ≡ ReadFault → fault ≡ told.ReadFault
unfolding closed_fault
fault_read told.ReadFault e = refl
fault_read (told.BadByte at byte) e = cc
fault_read (told.TooLarge at) e = cc
fault_read told.TooLong e = cc
fault_read told.NoMemory e = cc

module _ (bytes : List ℕ) (i : Tables) where
  -- at a machine or the end: a fault, a number that doesn't name a machine, and a machine
  pub stopped : (x : ℕ) (fault : ClosedFault) → HasFault closed_fault bytes x fault → ClosedStop bytes i x fault
  stopped x fault h flags flagged = rw h.same (closed_refused_end bytes i x flags h.token_fault flagged h.answer)

  module _ (x y : ℕ) (t : Token) (h : HasNext bytes x y (Some t)) where
    pub outside : machine_count i ≤ t.value → ClosedStop bytes i x (NoMachine t.at t.value)
    outside past flags flagged =
        closed_refused_at bytes i x flags t flagged h.answer
        (token_outside bytes i (tokens_before bytes x) t h.answer past)

    pub takes : t.value < machine_count i → TakesClosed bytes i x y (record { 0 = t.value })
    takes within = record {
      token = t;
      found = h.answer;
      machine = refl;
      tested = token_inside bytes i (tokens_before bytes x) t h.answer within;
      next = h.one_more;
    }

  -- at the start nothing was flagged
  pub first_none : (place : ℕ) (flags : List Bool) → tokens_before bytes place ≡ 0 →
      flags ≡ replicate (machine_count i) false → HasFlaggedFirst bytes i place 0 flags
  first_none place flags start empty = record {
    flagged = rw empty (flagged_none bytes i place start);
    given = start;
  }

  -- one more machine
  pub first_more : (x y n : ℕ) (flags after : List Bool) (m : Machine) → HasFlaggedFirst bytes i x n flags →
      TakesClosed bytes i x y m → m.0 < length flags → after ≡ set flags m.0 true →
      HasFlaggedFirst bytes i y (n + 1) after
  first_more x y n flags after m before one within e = record {
    flagged = rw e (flagged_more bytes i x y flags m before.flagged one within);
    given = one.next ∙ ap (λ (k : ℕ). k + 1) before.given;
  }

  -- a reader cannot be past more tokens than a file can have
  pub too_many : (n : ℕ) (flags : List Bool) (reader : Standing) → HasFlaggedFirst bytes i reader.place n flags →
      StandsIn bytes reader → PLACE_LIMIT < n → IsClosedRefusal bytes i TooLong
  too_many n flags reader first stands many =
      absurd (omega (arith, few_tokens bytes reader.place stands.between, first.given, many))
