-- What a journal answers a worker that hands in a plan, and what it adds: one step of the run of several workers, whose
-- turns may come in any order.
use Rattle.std.specs.Prelude.{◌≡◌, ℕ, ◌<◌, ◌≤◌, List, [], ◌∷◌, ◌++◌, length, Option, Some, None, true}
use Rattle.ra_base.specs.declared.ids.Guard.{Guard}
use Rattle.ra_draws.specs.Shown.{drawing_in}
use Rattle.ra_model.specs.declared.raw.Tables.{Tables}
use Rattle.ra_moves.specs.declared.steps.Step.{Step}
use Rattle.ra_moves.specs.declared.verdicts.Plan.{Plan}
use Rattle.ra_moves.specs.MoveSteps.{MoveSteps}
use Rattle.ra_moves.specs.Judging.{judge}
use Rattle.ra_moves.specs.Options.{plan_of}
use Rattle.ra_moves.specs.Weighing.{weighed_of}
use Rattle.ra_guards.specs.declared.newest.Newer.{Newer}
use Rattle.ra_guards.specs.Guards.{writes}
use Rattle.ra_guards.specs.Newest.{first_newer}
use Rattle.ra_guards.specs.Versions.{version}
use Rattle.ra_journal.specs.declared.entries.Entry.{Entry}
use Rattle.ra_journal.specs.declared.replies.Reply.{Reply}
use Rattle.ra_journal.specs.declared.replies.Reply.TheVariants.{Recorded, Stale}
use Rattle.ra_journal.specs.Entries.{entry_at, made_in, entries_of, worker_count, budget, words, allowed}
use Rattle.ra_journal.specs.Openings.{Opening}
use Rattle.ra_journal.specs.States.{state_at}

-- the number of worker w's next proposal, which is how many entries it has
unfoldable pub next_number : List Entry → ℕ → ℕ
next_number h w = entries_of h (length h) w

-- the move of worker w's next proposal, planned at the state of place q
unfoldable pub next_move : Opening → List Entry → ℕ → ℕ → MoveSteps
next_move o h w q =
    let k = next_number h w in
    plan_of (state_at o h q) (words o.lots w k) (drawing_in o.lots) (allowed o.lots w k)

-- the entry of worker w's next proposal, judged at the end of the journal
unfoldable pub next_entry : Opening → List Entry → ℕ → ℕ → Entry
next_entry o h w q =
    let k = next_number h w in
    let mv = next_move o h w q in
    record {
      worker = w;
      k = k;
      q = q;
      mv = mv;
      verdict = judge (state_at o h (length h)) mv.steps (allowed o.lots w k);
    }

-- the first guard of a move that the journal has touched since place q, with the place of the last entry that touched
-- it
unfoldable pub newer_since : Tables → List Entry → ℕ → List Step → Option Newer
newer_since i h q steps = first_newer i steps (version i (made_in h) (length h)) q

-- a journal after an answer, and the answer
pub record Committed : Type 0 where
  pub journal : List Entry
  pub reply : Reply

-- stale if a guard is newer, and nothing changes; else the entry is added at the end
unfoldable pub committed_by : Option Newer → List Entry → Entry → Committed
committed_by (Some newer) h e = record { journal = h; reply = Stale newer.guard newer.at }
committed_by None h e = record { journal = h ++ e ∷ []; reply = Recorded (length h) e.verdict }

-- worker w hands in its next proposal, planned at the state of place q
unfoldable pub committed : Opening → List Entry → ℕ → ℕ → Committed
committed o h w q =
    committed_by (newer_since o.tables h q (next_move o h w q).steps) h (next_entry o h w q)

-- worker w may hand in this plan: the worker exists and has some of its budget left; the plan is of its next proposal,
-- was made at a place after all its entries, and is the plan with its weighing at the state there
pub record IsCommit (o : Opening) (h : List Entry) (w : ℕ) (plan : Plan) : Type 0 where
  pub worker : w < worker_count o.lots
  pub number : plan.k ≡ next_number h w
  pub within : plan.k < budget o.lots w
  pub place : plan.q ≤ length h
  pub seen : (j : ℕ) → j < length h → (entry_at h j).worker ≡ w → j < plan.q
  pub planned :
      plan.mv ≡ plan_of (state_at o h plan.q) (words o.lots w plan.k) (drawing_in o.lots)
      (allowed o.lots w plan.k)
  pub weighed : plan.weighed ≡ weighed_of (state_at o h plan.q) plan.mv.steps

-- no write guard of a move was touched since place q
pub record AreHeld (i : Tables) (h : List Entry) (q : ℕ) (steps : List Step) : Type 0 where
  pub each : (g : Guard) → writes i steps g ≡ true → version i (made_in h) (length h) g ≤ q
