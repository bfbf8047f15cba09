use Rattle.std.proofs.Common.{sym, ◌∙◌, subst}
use Rattle.ra_journal.specs.declared.entries.Entry.{Entry}
use Rattle.ra_journal.specs.States.{state, IsDistinctIfDone}
use Rattle.plain.proofs.Clauses.{state_next}
use Rattle.plain.proofs.bench.replay.Goals as goal

pub loop-j-init : goal.loop-j-init
unfolding state
loop-j-init c = record { items = c.copy_to.ensures.items; room = c.copy_to.ensures.room }

pub advance-requires-clause-distinct : goal.advance-requires-clause-distinct
advance-requires-clause-distinct c = subst (λ (e : Entry). IsDistinctIfDone e.mv.steps e.verdict)
    (sym c.entry-e.ensures) (c.requires.can.distinct c.loop-j.j c.loop-j-test.true)

pub loop-j-preserved : goal.loop-j-preserved
loop-j-preserved c = record {
  items = c.advance.ensures.items ∙ state_next _ _ _ _ _ c.loop-j.invariant.items c.entry-e.ensures;
  room = c.advance.ensures.room ∙ c.loop-j.invariant.room;
}
