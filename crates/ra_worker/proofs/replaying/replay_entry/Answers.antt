use Rattle.std.proofs.Common.{ap, ◌∙◌, List, refl}
use Rattle.ra_base.specs.declared.ids.Machine.{Machine}
use Rattle.ra_model.specs.Situations.{Situation}
use Rattle.ra_journal.specs.Journals.{opening_in}
use Rattle.ra_worker.proofs.FollowingLemmas.{entry_judged, next_stated}
use Rattle.ra_worker.proofs.replaying.replay_entry.Goals as goal

pub follow-requires : goal.follow-requires
follow-requires g c =
    let journal = c.args.journal.now in
    record {
      judged = rw c.requires.here (entry_judged (opening_in journal) journal.entries c.args.at
          c.entry-entry.result c.entry-entry.ensures.sound.start.limits c.entry-entry.ensures.sound.start.fits
          c.entry-entry.ensures.sound.legal c.requires.within c.entry-entry.ensures.value);
    }

pub returns : goal.returns
returns g c = c.follow.ensures.world
    ∙ ap (λ (b : List Machine). let st : Situation = record c.args.world.now { here = b } in st)
    (next_stated _ _ _ _ c.args.at c.entry-entry.result (ap (λ (st : Situation). st.here) c.requires.here)
    c.entry-entry.ensures.value refl)
