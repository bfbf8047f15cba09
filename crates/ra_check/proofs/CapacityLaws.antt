-- What a table of use says of the capacity test.
use Rattle.std.proofs.Common.{◌≡◌, ℕ, ◌<◌, ◌≤◌, List, Some, None, sym, arith}
use Rattle.std.proofs.lemmas.Bool.{cond-true, cond-false, lt-ltb, le-ltb}
use Rattle.ra_base.specs.declared.ids.Machine.{Machine}
use Rattle.ra_base.specs.declared.causes.Cause.TheVariants.{Capacity}
use Rattle.ra_model.specs.declared.raw.Tables.{Tables}
use Rattle.ra_model.specs.Numbers.{capacity_of}
use Rattle.ra_model.specs.Usage.{use_of}
use Rattle.ra_model.specs.Broken.{cause_if, capacity_test}

-- above the capacity
pub over_capacity : {used cap : ℕ} (i : Tables) (a : List Machine) (m r : ℕ) → used ≡ use_of i a m r →
    cap ≡ capacity_of i m r → cap < used → Some (Capacity (record { 0 = m }) (record { 0 = r }) used cap) ≡
    capacity_test i a m r
unfolding capacity_test cause_if
over_capacity i a m r use_is cap_is over =
    rw (use_is, cap_is) (sym (cond-true _ _ _ (lt-ltb (capacity_of i m r) (use_of i a m r) (omega arith))))

-- within the capacity
pub within_capacity : {used cap : ℕ} (i : Tables) (a : List Machine) (m r : ℕ) → used ≡ use_of i a m r →
    cap ≡ capacity_of i m r → used ≤ cap → None ≡ capacity_test i a m r
unfolding capacity_test cause_if
within_capacity i a m r use_is cap_is within =
    sym (cond-false _ _ _ (le-ltb (capacity_of i m r) (use_of i a m r) (omega arith)))
