use Rattle.std.proofs.Common.{ℕ, ◌+◌, sym, ap, ◌∙◌, arith}
use Rattle.ra_journal.specs.Entries.{entry_at}
use Rattle.ra_journal.specs.Journals.{opening_in}
use Rattle.ra_worker.specs.Replicas.{Progress}
use Rattle.ra_worker.proofs.ReplicaLemmas.{at_next}
use Rattle.ra_worker.proofs.UptoLemmas.{here_judged, here_left, here_few}
use Rattle.ra_worker.proofs.turns.follow_to.Goals as goal

pub take_entry-requires-clause-judged : goal.take_entry-requires-clause-judged
take_entry-requires-clause-judged g c =
    let j = c.args.journal.now in
    let sound = c.entry-entry.ensures.sound in
    let r = c.loop-at.replica in
    here_judged (opening_in j) j.entries r c.entry-entry.result sound.start.limits
    sound.start.fits sound.legal c.loop-at.invariant.here
    (omega (arith, c.loop-at-test.true, c.requires.within, c.loop-at.invariant.place))
    (c.entry-entry.ensures.value ∙ ap (entry_at j.entries) (sym c.loop-at.invariant.place))

pub take_entry-requires-clause-left : goal.take_entry-requires-clause-left
take_entry-requires-clause-left g c =
    let j = c.args.journal.now in
    let sound = c.entry-entry.ensures.sound in
    let r = c.loop-at.replica in
    here_left (opening_in j) j.entries r c.entry-entry.result sound.legal
    c.loop-at.invariant.here (omega (arith, c.loop-at-test.true, c.requires.within, c.loop-at.invariant.place))
    (c.entry-entry.ensures.value ∙ ap (entry_at j.entries) (sym c.loop-at.invariant.place))

pub take_entry-requires-clause-few : goal.take_entry-requires-clause-few
take_entry-requires-clause-few g c =
    let j = c.args.journal.now in
    let sound = c.entry-entry.ensures.sound in
    here_few (opening_in j) j.entries c.loop-at.replica sound.legal
    (omega (arith, c.loop-at-test.true, c.requires.within, c.loop-at.invariant.place))

pub loop-at-preserved : goal.loop-at-preserved
loop-at-preserved g c =
    let j = c.args.journal.now in
    let r = c.loop-at.replica in
    let followed = c.take_entry.ensures.followed in
    record {
      place = ap (λ (s : Progress). s.place) followed ∙ ap (λ (n : ℕ). n + 1) c.loop-at.invariant.place;
      worker = ap (λ (s : Progress). s.worker) followed ∙ c.loop-at.invariant.worker;
      here = at_next (opening_in j) j.entries r c.take_entry.new.self
          c.entry-entry.result c.loop-at.invariant.here
          (omega (arith, c.loop-at-test.true, c.requires.within, c.loop-at.invariant.place))
          (c.entry-entry.ensures.value ∙ ap (entry_at j.entries) (sym c.loop-at.invariant.place))
          followed;
    }
