use Rattle.std.proofs.Common.{◌≡◌, List, length, sym, ap, ◌∙◌, arith}
use Rattle.ra_base.specs.declared.ids.Machine.{Machine}
use Rattle.ra_model.specs.declared.raw.Tables.{Tables}
use Rattle.ra_model.specs.Costs.{parts_of}
use Rattle.ra_model.specs.Situations.{Situation}
use Rattle.ra_journal.specs.States.{state}
use Rattle.ra_report.specs.JournalTexts.{best_state}
use Rattle.ra_journal.proofs.BestLemmas.{best_within}
use Rattle.ra_journal.specs.Best.{best_of}
use Rattle.ra_journal.specs.Journals.{opening_in}
use Rattle.ra_verify.proofs.judging.first_unlike.Goals as goal

pub replay-requires-clause-within : goal.replay-requires-clause-within
unfolding best_of
replay-requires-clause-within g c =
    let journal = c.args.journal.now in
    omega (
      arith,
      c.best_at.ensures.value,
      best_within (opening_in journal) journal.entries (length journal.entries),
    )

pub unlike_head-requires-clause-best : goal.unlike_head-requires-clause-best
unfolding best_state
unlike_head-requires-clause-best g c =
    c.assignment.ensures.value ∙ ap (λ (st : Situation). st.here) c.replay.ensures
    ∙ ap (state c.args.journal.now.initial.items c.args.journal.now.entries) c.best_at.ensures.value

pub unlike_head-requires-clause-parts : goal.unlike_head-requires-clause-parts
unlike_head-requires-clause-parts g c =
    let w = c.replay.new.world in
    let i = c.args.journal.now.instance.tables in
    let a0 = c.args.journal.now.initial.items in
    let tables : w.tables ≡ i =
    ap (λ (st : Situation). st.tables) c.replay.ensures ∙ ap (λ (st : Situation). st.tables) c.requires.at_start in
    let start : w.start ≡ a0 =
    ap (λ (st : Situation). st.start) c.replay.ensures ∙ ap (λ (st : Situation). st.start) c.requires.at_start in
    c.parts.ensures.value ∙ ap (λ (j : Tables). parts_of j w.start w.here) tables
    ∙ ap (λ (b : List Machine). parts_of i b w.here) start ∙ ap (parts_of i a0) (sym c.assignment.ensures.value)
