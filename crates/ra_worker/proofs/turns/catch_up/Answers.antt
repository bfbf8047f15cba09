use Rattle.std.proofs.Common.{◌-◌, min, length, ap, ◌∙◌, arith}
use Rattle.ra_journal.specs.Batches.{batch_from}
use Rattle.ra_journal.specs.Journals.{opening_in}
use Rattle.ra_worker.proofs.TurnLemmas.{batch_next, taken_at}
use Rattle.ra_worker.proofs.CoreTurnLemmas.{taken_place}
use Rattle.ra_worker.proofs.turns.catch_up.Goals as goal

pub copy_from-count-requires : goal.copy_from-count-requires
copy_from-count-requires g c = omega (arith, c.place-place.ensures, c.requires.at.place)

pub take_in-requires : goal.take_in-requires
take_in-requires g c = record {
  told = record {
    journal = c.args.journal.now.entries;
    next = batch_next (opening_in c.args.journal.now)
        c.args.journal.now.entries c.copy_from-count.new.batch c.args.replica.now c.requires.at
        c.copy_from-count.ensures.sound.legal (c.copy_from-count.ensures.entries
        ∙ ap (batch_from c.args.journal.now.entries) c.place-place.ensures);
  };
}

pub returns-clause-place : goal.returns-clause-place
returns-clause-place g c = taken_place c.args.journal.now.entries c.copy_from-count.new.batch
    c.args.replica.now c.take_in.new.self c.copy_from-count.result (c.copy_from-count.ensures.entries
    ∙ ap (batch_from c.args.journal.now.entries) c.place-place.ensures) (c.copy_from-count.ensures.number
    ∙ ap (λ p. min 1024 (length c.args.journal.now.entries - p)) c.place-place.ensures)
    c.take_in.ensures.taken

pub returns-clause-at : goal.returns-clause-at
returns-clause-at g c = taken_at (opening_in c.args.journal.now) c.args.journal.now.entries
    c.copy_from-count.new.batch c.args.replica.now
    c.take_in.new.self _ c.requires.at c.copy_from-count.ensures.sound.legal (c.copy_from-count.ensures.entries
    ∙ ap (batch_from c.args.journal.now.entries) c.place-place.ensures) c.take_in.ensures.taken
