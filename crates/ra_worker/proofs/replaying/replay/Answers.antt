use Rattle.std.proofs.Common.{ap, ◌∙◌, ◌+◌, List}
use Rattle.ra_base.specs.declared.ids.Machine.{Machine}
use Rattle.ra_model.specs.Situations.{Situation}
use Rattle.ra_journal.specs.States.{state}
use Rattle.ra_worker.proofs.replaying.replay.Goals as goal

pub loop-at-init : goal.loop-at-init
unfolding state
loop-at-init g c = ap (λ (b : List Machine). let st : Situation = record c.args.world.now { here = b } in st)
    (ap (λ (st : Situation). st.here) c.requires.at_start)

pub replay_entry-requires-clause-here : goal.replay_entry-requires-clause-here
replay_entry-requires-clause-here g c =
    let journal = c.args.journal.now in
    c.loop-at.invariant ∙ ap (λ (st : Situation). let su : Situation =
    record st { here = state journal.initial.items journal.entries c.loop-at.at } in su) c.requires.at_start

pub loop-at-preserved : goal.loop-at-preserved
loop-at-preserved g c =
    let journal = c.args.journal.now in
    c.replay_entry.ensures ∙ ap (λ (st : Situation). let su : Situation = record st {
      here = state journal.initial.items journal.entries (c.loop-at.at + 1);
    } in su) c.loop-at.invariant
