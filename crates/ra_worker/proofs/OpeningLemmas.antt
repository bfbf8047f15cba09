-- What a run begins with, from its three parts.
use Rattle.std.proofs.Common.{◌≡◌, ℕ, ◌+◌, List, refl, ap, ap₂}
use Rattle.ra_base.specs.declared.ids.Machine.{Machine}
use Rattle.ra_draws.specs.declared.budgets.Lots.{Lots}
use Rattle.ra_model.specs.declared.raw.Tables.{Tables}
use Rattle.ra_model.specs.Situations.{Situation, situation}
use Rattle.ra_journal.specs.declared.entries.Entry.{Entry}
use Rattle.ra_journal.specs.Journals.{History, opening_in, IsOverSame}
use Rattle.ra_journal.specs.Openings.{Opening, opening}
use Rattle.ra_journal.specs.States.{state_at}
use Rattle.ra_worker.specs.Replicas.{Progress, progress, IsAt, HasPassed}

pub same_parts : (i j : Tables) (a0 b0 : List Machine) (l m : Lots) → i ≡ j → a0 ≡ b0 → l ≡ m →
    opening i a0 l ≡ opening j b0 m
same_parts i j a0 b0 l m inst initial lots = rw (inst, initial, lots) refl

-- a replica's value, from its parts
pub same_progress : {st su : Situation} {l m : Lots} {v w j k p q : ℕ} → st ≡ su → l ≡ m → v ≡ w → j ≡ k → p ≡ q →
    progress st l v j p ≡ progress su m w k q
same_progress world lots worker next place = rw (world, lots, worker, next, place) refl

-- a journal over the same as another
pub over_is : (old new : History) → IsOverSame old new → opening_in new ≡ opening_in old
over_is old new over = ap (λ (j : History). opening_in j) over

-- the world of a replica at a state
pub world_is : (o : Opening) (h : List Entry) (r : Progress) → IsAt o h r → r.world ≡ state_at o h r.place
world_is o h r at = ap₂ (λ (p : Opening) (a : List Machine). situation p.tables p.start a) at.opening at.state

module _ {r s : Progress} {to : ℕ} (is : HasPassed r s to) where
  -- a replica that has skipped entries
  pub passed_worker : s.worker ≡ r.worker
  passed_worker = ap (λ (p : Progress). p.worker) is.passed

  pub passed_next : s.next ≡ r.next + 1
  passed_next = ap (λ (p : Progress). p.next) is.passed

  pub passed_place : s.place ≡ to
  passed_place = ap (λ (p : Progress). p.place) is.passed
