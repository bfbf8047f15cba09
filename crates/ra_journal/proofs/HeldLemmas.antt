-- What holds of every journal, from what it keeps; and what holds of write guards that a worker has locked.
use Rattle.std.proofs.Common.{List, Option, Some, None, IfSome}
use Rattle.ra_base.specs.Listed.{Listed}
use Rattle.ra_base.specs.declared.ids.Guard.{Guard}
use Rattle.ra_base.specs.declared.ids.Machine.{Machine}
use Rattle.ra_draws.specs.declared.budgets.Lots.{Lots}
use Rattle.ra_model.specs.declared.numbers.Instance.{Instance}
use Rattle.ra_topology.specs.TopologyLists.{TopologyLists}
use Rattle.ra_moves.specs.declared.verdicts.Plan.{Plan}
use Rattle.ra_guards.specs.Order.{AreWrites}
use Rattle.ra_journal.specs.declared.book.Book.{Book}
use Rattle.ra_journal.specs.Journals.{History, history, IsJournal, HasHeld}
use Rattle.ra_journal.specs.Keeping.{IsKeptJournal}
use Rattle.ra_journal.specs.Openings.{opening}

pub sound_journal : (inst : Instance) (topo : TopologyLists) (a0 : Listed Machine) (l : Lots) (book : Book) →
    IsKeptJournal (opening inst.tables a0.items l) topo book → IsJournal (history inst topo a0 l book.entries.items)
sound_journal inst topo a0 l book is = record { topology = is.topology; start = is.start; legal = is.kept.legal }

pub held_listed : (j : History) (plan : Plan) (guards : Option (List Guard)) → IfSome guards (HasHeld j plan) →
    IfSome guards (AreWrites j.instance.tables plan.mv.steps)
held_listed j plan (Some guards) held = held.listed
held_listed j plan None held = tt
