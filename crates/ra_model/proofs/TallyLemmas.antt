-- Laws of `tally`, the sum over processes of a share of each process and its machine, and of `machine_at`.
use Rattle.std.proofs.Common.{◌≡◌, ◌≢◌, ℕ, ◌+◌, ◌*◌, ◌<◌, ◌≤◌, Bool, ◌&&◌, List, length, set, slice_index_or, refl, ap}
use Rattle.std.proofs.Common.{◌∙◌, ⊎_elim, arith, eq-eqb, ne_eqb, get_or-set_same, get_or-set_other, ext_get_or}
use Rattle.std.proofs.Math.ListN.{length-set}
use Rattle.std.proofs.lemmas.Bool.{cases_eq, cond-true, cond-false}
use Rattle.std.proofs.lemmas.List.{get_or_read}
use Rattle.ra_base.specs.Sums.{total, count}
use Rattle.ra_base.specs.declared.ids.Machine.{Machine}
use Rattle.ra_base.proofs.Sums.{total_none, total_more, total_same, total_zero, total_le, total_bound, total_term}
use Rattle.ra_base.proofs.Sums.{total_change}
use Rattle.ra_model.specs.declared.raw.Tables.{Tables}
use Rattle.ra_model.specs.Numbers.{machine_count, process_count, requirement_of}
use Rattle.ra_model.specs.Assignments.{IsAssignment, machine_at, tally}
use Rattle.ra_model.specs.Usage.{use_share, use_of, transient_share, transient_of}
use Rattle.ra_model.specs.Services.{is_of, of_service, members_at}

module _ (a : List Machine) (p : ℕ) where
  -- the machine of a process

  -- what a read of an assignment gives
  pub machine_at_read : (m : Machine) → p < length a → m ≡ slice_index_or a p m → m.0 ≡ machine_at a p
  unfolding machine_at
  machine_at_read m within read = ap (λ (x : Machine). x.0) (get_or_read a p m within read (record { 0 = 0 }))

  -- a process put on a machine: itself and the others
  pub machine_at_set_same : (to : Machine) → p < length a → machine_at (set a p to) p ≡ to.0
  unfolding machine_at
  machine_at_set_same to within = ap (λ (x : Machine). x.0) (get_or-set_same a p to (record { 0 = 0 }) within)

  pub machine_at_set_other : (to : Machine) (k : ℕ) → k ≢ p → machine_at (set a p to) k ≡ machine_at a k
  unfolding machine_at
  machine_at_set_other to k apart = ap (λ (x : Machine). x.0) (get_or-set_other a p k to (record { 0 = 0 }) apart)

-- two assignments of as many processes with the same machines are one
pub same_machines : (a b : List Machine) → length a ≡ length b →
    ((p : ℕ) → p < length a → machine_at a p ≡ machine_at b p) → a ≡ b
unfolding machine_at
same_machines a b as_many same =
    ext_get_or (record { 0 = 0 }) a b as_many
    (λ p within. ap (λ n. let m : Machine = record { 0 = n } in m) (same p within))

-- process p is put on machine `to`
pub tally_set : (n p : ℕ) (f : ℕ → ℕ → ℕ) (a : List Machine) (to : Machine) → p < n → p < length a →
    tally n f (set a p to) + f p (machine_at a p) ≡ tally n f a + f p to.0
unfolding tally
tally_set n p f a to within there =
    total_change n p (λ k. f k (machine_at (set a p to) k)) (λ k. f k (machine_at a k)) within
    (λ k h apart. ap (f k) (machine_at_set_other a p to k apart))
    ∙ ap (λ m. total n (λ k. f k (machine_at a k)) + f p m) (machine_at_set_same a p to there)

module _ (i : Tables) (a : List Machine) (p : ℕ) (to : Machine) where
  -- an assignment stays one when a process is put on a machine of the instance
  pub fits_set : IsAssignment i a → p < process_count i → to.0 < machine_count i → IsAssignment i (set a p to)
  fits_set fits within exists = record {
    one_each = length-set a p to ∙ fits.one_each;
    in_range = λ k k_in. ⊎_elim
        (λ (here : k ≡ p).
        omega (
          arith,
          ap (machine_at (set a p to)) here,
          machine_at_set_same a p to (omega (arith, fits.one_each)),
          exists,
        ))
        (λ (apart : k ≢ p). omega (arith, machine_at_set_other a p to k apart, fits.in_range k k_in))
        (cases_eq k p);
  }

  -- what changes in each quantity that is a sum over the processes

  pub use_set : (m r : ℕ) → IsAssignment i a → p < process_count i → use_of i (set a p to) m r + use_share i m r p
      (machine_at a p) ≡ use_of i a m r + use_share i m r p to.0
  unfolding use_of
  use_set m r fits within =
      tally_set (process_count i) p (use_share i m r) a to within (omega (arith, fits.one_each))

  pub members_set : (s : ℕ) (test : ℕ → ℕ → Bool) → IsAssignment i a → p < process_count i →
      members_at i (set a p to) s test + of_service i s test p
      (machine_at a p) ≡ members_at i a s test + of_service i s test p to.0
  unfolding members_at
  members_set s test fits within =
      tally_set (process_count i) p (of_service i s test) a to within (omega (arith, fits.one_each))

-- what a process uses of its machine, and of another

pub use_share_here : (i : Tables) (m r p at : ℕ) → at ≡ m → use_share i m r p at ≡ requirement_of i p r
unfolding use_share
use_share_here i m r p at here = cond-true _ _ _ (eq-eqb at m here)

pub use_share_elsewhere : (i : Tables) (m r p at : ℕ) → at ≢ m → use_share i m r p at ≡ 0
unfolding use_share
use_share_elsewhere i m r p at apart = cond-false _ _ _ (ne_eqb at m apart)

-- sums over the processes

pub tally_none : (f : ℕ → ℕ → ℕ) (a : List Machine) → tally 0 f a ≡ 0
unfolding tally
tally_none f a = total_none _

module _ (n : ℕ) (f : ℕ → ℕ → ℕ) where
  -- one more, as a loop over the processes counts
  pub tally_more : (a : List Machine) → tally (n + 1) f a ≡ tally n f a + f n (machine_at a n)
  unfolding tally
  tally_more a = total_more n _

  module _ (g : ℕ → ℕ → ℕ) (a b : List Machine) where
    -- equal shares have equal sums
    pub tally_same : ((p : ℕ) → p < n → f p (machine_at a p) ≡ g p (machine_at b p)) → tally n f a ≡ tally n g b
    unfolding tally
    tally_same same = total_same n _ _ same

    pub tally_le : ((p : ℕ) → p < n → f p (machine_at a p) ≤ g p (machine_at b p)) → tally n f a ≤ tally n g b
    unfolding tally
    tally_le each = total_le n _ _ each

  pub tally_zero : (a : List Machine) → ((p : ℕ) → p < n → f p (machine_at a p) ≡ 0) → tally n f a ≡ 0
  unfolding tally
  tally_zero a zeros = total_zero n _ zeros

pub tally_bound : (n b : ℕ) (f : ℕ → ℕ → ℕ) (a : List Machine) → ((p : ℕ) → p < n → f p (machine_at a p) ≤ b) →
    tally n f a ≤ n * b
unfolding tally
tally_bound n b f a each = total_bound n b _ each

pub tally_term : (n p : ℕ) (f : ℕ → ℕ → ℕ) (a : List Machine) → p < n → f p (machine_at a p) ≤ tally n f a
unfolding tally
tally_term n p f a within = total_term n p (λ k. f k (machine_at a k)) within

pub transient_set : (i : Tables) (a0 a : List Machine) (p : ℕ) (to : Machine) (m r : ℕ) → IsAssignment i a →
    p < process_count i → transient_of i a0 (set a p to) m r + transient_share i a0 m r p (machine_at a p) ≡
    transient_of i a0 a m r + transient_share i a0 m r p to.0
unfolding transient_of
transient_set i a0 a p to m r fits within =
    tally_set (process_count i) p (transient_share i a0 m r) a to within (omega (arith, fits.one_each))

-- counts over a service's processes

-- a count of members is a count over all processes
pub members_count : (i : Tables) (a : List Machine) (s : ℕ) (test : ℕ → ℕ → Bool) →
    members_at i a s test ≡ count (process_count i) (λ p. is_of i s p && test p (machine_at a p))
unfolding members_at tally of_service
members_count i a s test = refl

-- what a loop over the processes needs
pub ruleset tallies = (tally_none, tally_more)
