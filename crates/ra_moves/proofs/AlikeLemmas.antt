-- Two assignments that are alike on a machine or for a service: what is read of it is the same in both, and they stay
-- alike after a move.
use Rattle.std.proofs.Common.{◌≡◌, ℕ, ◌^◌, Bool, true, false, cond, eqb, ltb, List, length, sym, ap, ◌∙◌, ⊎_elim}
use Rattle.std.proofs.lemmas.Bool.{cases_Bool, cases_eq}
use Rattle.ra_base.specs.Sums.{is_named}
use Rattle.ra_base.specs.declared.ids.Machine.{Machine}
use Rattle.ra_base.proofs.Counts.{count_same}
use Rattle.ra_base.proofs.Named.{is_named_from}
use Rattle.ra_model.specs.declared.raw.Tables.{Tables}
use Rattle.ra_model.specs.Numbers.{process_count, service_of, neighbourhood_of, location_of}
use Rattle.ra_model.specs.Assignments.{machine_at}
use Rattle.ra_model.specs.Usage.{use_share, use_of, transient_share, transient_of}
use Rattle.ra_model.specs.Services.{of_service, members_at, on_machine, in_neighbourhood, in_location, locations_of, moved_of}
use Rattle.ra_model.proofs.TallyLemmas.{tally_same}
use Rattle.ra_moves.specs.declared.steps.Step.{Step}
use Rattle.ra_moves.specs.Steps.{process_in}
use Rattle.ra_moves.specs.Replacing.{applied}
use Rattle.ra_moves.specs.Moving.{IsMove}
use Rattle.ra_moves.specs.Alike.{SameOn, SameOf}
use Rattle.ra_moves.proofs.StayLemmas.{applied_of, process_stays, of_other}

-- after a move
-- a process that a step names is on the same machine
pub named_same : (i : Tables) (a b : List Machine) (steps : List Step) (p : ℕ) → IsMove i a steps → IsMove i b steps →
    is_named (length steps) (process_in steps) p ≡ true →
    machine_at (applied a steps) p ≡ machine_at (applied b steps) p
named_same i a b steps p one other named =
    let found = is_named_from _ _ p named in
    ap (machine_at (applied a steps)) (sym found.2)
    ∙ (applied_of i a steps one).moved found.0 found.1
    ∙ sym ((applied_of i b steps other).moved found.0 found.1)
    ∙ ap (machine_at (applied b steps)) found.2

-- what is the same of a process's machine before a move is the same after it
read_after : {X : Type 0} → (read : ℕ → X) (i : Tables) (a b : List Machine) (steps : List Step) (p : ℕ) →
    IsMove i a steps → IsMove i b steps → read (machine_at a p) ≡ read (machine_at b p) →
    read (machine_at (applied a steps) p) ≡ read (machine_at (applied b steps) p)
read_after read i a b steps p one other same = ⊎_elim
    (λ named.
    ap read (named_same i a b steps p one other named))
    (λ unnamed. ap read (process_stays i a steps p one unnamed)
    ∙ same ∙ sym (ap read (process_stays i b steps p other unnamed)))
    (cases_Bool (is_named (length steps) (process_in steps) p))

module _ (i : Tables) (a b : List Machine) where
  pub same_on_after : (steps : List Step) (m : ℕ) → IsMove i a steps →
      IsMove i b steps → SameOn a b m → SameOn (applied a steps) (applied b steps) m
  same_on_after steps m one other same = record {
    each = λ p. read_after (λ at. eqb at m) i a b steps p one other (same.each p);
  }

  pub same_of_after : (steps : List Step) (s : ℕ) → IsMove i a steps →
      IsMove i b steps → SameOf i a b s → SameOf i (applied a steps) (applied b steps) s
  same_of_after steps s one other same = record {
    each = λ p of. read_after (λ at. at) i a b steps p one other (same.each p of);
  }

  -- on a machine
  pub use_alike : (m r : ℕ) → SameOn a b m → use_of i a m r ≡ use_of i b m r
  unfolding use_of use_share
  use_alike m r same = tally_same _ _ _ a b
      (λ p within. rw (same.each p))

  module _ (s : ℕ) where
    -- of a service
    pub members_alike : (test : ℕ → ℕ → Bool) → SameOf i a b s → members_at i a s test ≡ members_at i b s test
    unfolding members_at
    members_alike test same =
        tally_same (process_count i) (of_service i s test) (of_service i s test) a b (λ p within. ⊎_elim
        (λ member. rw (same.each p member))
        (λ other. of_other i s test p (machine_at a p) other ∙ sym (of_other i s test p (machine_at b p) other))
        (cases_eq (service_of i p) s))

    pub on_machine_alike : (m : ℕ) → SameOf i a b s → on_machine i a s m ≡ on_machine i b s m
    unfolding on_machine
    on_machine_alike m same = members_alike (λ p at. eqb at m) same

    pub in_neighbourhood_alike : (label : ℕ) → SameOf i a b s →
        in_neighbourhood i a s label ≡ in_neighbourhood i b s label
    unfolding in_neighbourhood
    in_neighbourhood_alike label same = members_alike (λ p at. eqb (neighbourhood_of i at) label) same

    pub in_location_alike : (label : ℕ) → SameOf i a b s → in_location i a s label ≡ in_location i b s label
    unfolding in_location
    in_location_alike label same = members_alike (λ p at. eqb (location_of i at) label) same

    pub locations_alike : SameOf i a b s → locations_of i a s ≡ locations_of i b s
    unfolding locations_of
    locations_alike same = count_same (2 ^ 32) (λ label. ltb 0 (in_location i a s label))
        (λ label. ltb 0 (in_location i b s label)) (λ label within. rw (in_location_alike label same))

module _ (i : Tables) (a0 a b : List Machine) where
  pub transient_alike : (m r : ℕ) → SameOn a b m → transient_of i a0 a m r ≡ transient_of i a0 b m r
  unfolding transient_of transient_share
  transient_alike m r same = tally_same (process_count i) (transient_share i a0 m r) (transient_share i a0 m r) a
      b (λ p within. rw (same.each p))

  pub moved_alike : (s : ℕ) → SameOf i a b s → moved_of i a0 a s ≡ moved_of i a0 b s
  unfolding moved_of
  moved_alike s same = members_alike i a b s (λ p at. cond _ false true) same
