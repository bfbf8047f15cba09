-- What a contract sees of a journal: its instance, its initial assignment, its lots and its entries, and how it answers
-- a worker.
use Rattle.std.specs.Prelude.{◌≡◌, ℕ, List, Option, Some}
use Rattle.ra_base.specs.Listed.{Listed}
use Rattle.ra_base.specs.declared.ids.Guard.{Guard}
use Rattle.ra_base.specs.declared.ids.Machine.{Machine}
use Rattle.ra_draws.specs.declared.budgets.Lots.{Lots}
use Rattle.ra_model.specs.declared.numbers.Instance.{Instance}
use Rattle.ra_topology.specs.Fits.{IsTopologyOf}
use Rattle.ra_topology.specs.TopologyLists.{TopologyLists}
use Rattle.ra_moves.specs.declared.verdicts.Plan.{Plan}
use Rattle.ra_guards.specs.declared.newest.Newer.{Newer}
use Rattle.ra_guards.specs.Order.{AreWrites}
use Rattle.ra_journal.specs.declared.entries.Entry.{Entry}
use Rattle.ra_journal.specs.declared.replies.Reply.{Reply}
use Rattle.ra_journal.specs.Committing.{committed, newer_since, AreHeld, Committed, IsCommit}
use Rattle.ra_journal.specs.Keeping.{IsStart}
use Rattle.ra_journal.specs.Legal.{Legal}
use Rattle.ra_journal.specs.Openings.{Opening, opening}

-- what a journal is over, and its entries
pub record History : Type 0 where
  pub instance : Instance
  pub topology : TopologyLists
  pub initial : Listed Machine
  pub lots : Lots
  pub entries : List Entry

abbrev pub history :
    Instance → TopologyLists → Listed Machine → Lots → List Entry → History
history inst topo a0 l h =
    record { instance = inst; topology = topo; initial = a0; lots = l; entries = h }

-- its instance's tables, initial list and lots as one
abbrev pub opening_in : History → Opening
opening_in j = opening j.instance.tables j.initial.items j.lots

-- what holds of every journal: its topology is that of its instance, its initial list breaks nothing, and it is legal
pub record IsJournal (j : History) : Type 0 where
  pub topology : IsTopologyOf j.topology j.instance.tables
  pub start : IsStart (opening_in j)
  pub legal : Legal (opening_in j) j.entries

-- worker w may hand in this plan
abbrev pub MayHandIn : History → ℕ → Plan → Type 0
MayHandIn j w plan = IsCommit (opening_in j) j.entries w plan

-- the first guard of a plan's move that an entry has touched since it was planned
abbrev pub newer_in : History → Plan → Option Newer
newer_in j plan = newer_since j.instance.tables j.entries plan.q plan.mv.steps

-- these are the write guards of a plan's move, and none of them was touched since it was planned
pub record HasHeld (j : History) (plan : Plan) (guards : List Guard) : Type 0 where
  pub listed : AreWrites j.instance.tables plan.mv.steps guards
  pub known : AreHeld j.instance.tables j.entries plan.q plan.mv.steps

-- what the journal becomes and what it answers if worker w hands in its plan
abbrev pub answer_to : History → ℕ → Plan → Committed
answer_to j w plan = committed (opening_in j) j.entries w plan.q

-- the second is over the same as the first, and may have other entries
abbrev pub IsOverSame : History → History → Type 0
IsOverSame old new = new ≡ record old { entries = new.entries }

-- the journal has answered worker w, which handed in a plan: at most its entries changed, and if a guard of the plan's
-- move is newer nothing did
pub record Answers (old new : History) (w : ℕ) (plan : Plan) (said : Reply) : Type 0 where
  pub journal : new ≡ record old { entries = (answer_to old w plan).journal }
  pub reply : said ≡ (answer_to old w plan).reply
  pub stale : (one : Newer) → newer_in old plan ≡ Some one → new ≡ old
  pub sound : IsJournal new
