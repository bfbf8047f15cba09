-- What a table of transient use says of the test of transient use.
use Rattle.std.proofs.Common.{◌≡◌, ℕ, ◌<◌, ◌≤◌, List, Some, None, true, sym, arith}
use Rattle.std.proofs.lemmas.Bool.{cond-true, cond-false, lt-ltb, le-ltb, and_from, and_right}
use Rattle.ra_base.specs.declared.ids.Machine.{Machine}
use Rattle.ra_base.specs.declared.causes.Cause.TheVariants.{Transient}
use Rattle.ra_model.specs.declared.raw.Tables.{Tables}
use Rattle.ra_model.specs.Numbers.{capacity_of, transient_at}
use Rattle.ra_model.specs.Usage.{transient_of}
use Rattle.ra_model.specs.Broken.{cause_if, transient_test}

-- above the capacity
pub over_transient : {used cap : ℕ} (i : Tables) (a0 a : List Machine) (m r : ℕ) → used ≡ transient_of i a0 a m r →
    cap ≡ capacity_of i m r → transient_at i r ≡ true → cap < used →
    Some (Transient (record { 0 = m }) (record { 0 = r }) used cap) ≡ transient_test i a0 a m r
unfolding transient_test cause_if
over_transient i a0 a m r use_is cap_is flag over =
    rw (use_is, cap_is)
    (sym (cond-true _ _ _
    (and_from (transient_at i r) _ flag (lt-ltb (capacity_of i m r) (transient_of i a0 a m r) (omega arith)))))

-- within the capacity
pub within_transient : {used cap : ℕ} (i : Tables) (a0 a : List Machine) (m r : ℕ) → used ≡ transient_of i a0 a m r →
    cap ≡ capacity_of i m r → used ≤ cap → None ≡ transient_test i a0 a m r
unfolding transient_test cause_if
within_transient i a0 a m r use_is cap_is within =
    sym (cond-false _ _ _
    (and_right (transient_at i r) _ (le-ltb (capacity_of i m r) (transient_of i a0 a m r) (omega arith))))
