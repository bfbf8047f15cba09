-- What the test of closed machines says of a process.
use Rattle.std.proofs.Common.{◌≡◌, ℕ, List, None, false, not, eqb, sym}
use Rattle.std.proofs.lemmas.Bool.{cond-false, and_right}
use Rattle.ra_base.specs.declared.ids.Machine.{Machine}
use Rattle.ra_model.specs.declared.raw.Tables.{Tables}
use Rattle.ra_model.specs.Numbers.{closed_at}
use Rattle.ra_model.specs.Assignments.{machine_at}
use Rattle.ra_model.specs.Broken.{cause_if, closed_test}

-- on its initial machine
pub stays_there : {from at : ℕ} (i : Tables) (a0 a : List Machine) (p : ℕ) → from ≡ machine_at a0 p →
    at ≡ machine_at a p →
    not (eqb from at) ≡ false → None ≡ closed_test i a0 a p
unfolding closed_test cause_if
stays_there {at} i a0 a p from_is at_is stays =
    sym (cond-false _ _ _ (and_right (closed_at i (machine_at a p)) _ (rw (from_is, at_is) at stays)))
