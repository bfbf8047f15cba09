use Rattle.std.proofs.Common.{◌<◌, length, sym, ap, ◌∙◌, arith}
use Rattle.ra_worker.proofs.CoreLemmas.{all_set, stand_later, over_itself, over_by}
use Rattle.ra_journal.specs.Journals.{opening_in}
use Rattle.test_workers.proofs.PlayLemmas.{named_catch_up, named_commit, step_catch_up, step_commit}
use Rattle.test_workers.proofs.playing.play_event.Goals as goal

pub index_mut-replica-requires : goal.index_mut-replica-requires
index_mut-replica-requires g c =
    omega (
      arith,
      named_catch_up c.args.event c.in-CatchUp.worker _ c.requires.named c.in-CatchUp.is,
      c.requires.at.one_each,
      c.args.replicas.now.ok.0,
    )

pub catch_up-count-requires-clause-at : goal.catch_up-count-requires-clause-at
catch_up-count-requires-clause-at g c =
    (c.requires.at.each c.in-CatchUp.worker c.index_mut-replica.result.now
    (omega (
      arith,
      named_catch_up c.args.event c.in-CatchUp.worker _ c.requires.named c.in-CatchUp.is,
      c.requires.at.one_each,
    )) (sym c.index_mut-replica.ensures.value)).at

pub index-replica-requires : goal.index-replica-requires
index-replica-requires g c =
    omega (
      arith,
      named_commit c.args.event c.in-Commit.worker _ c.requires.named c.in-Commit.is,
      c.requires.at.one_each,
      c.args.replicas.now.ok.0,
    )

pub hand_in-requires-clause-at : goal.hand_in-requires-clause-at
hand_in-requires-clause-at g c =
    (c.requires.at.each c.in-Commit.worker c.index-replica.result.now
    (omega (
      arith,
      named_commit c.args.event c.in-Commit.worker _ c.requires.named c.in-Commit.is,
      c.requires.at.one_each,
    )) (sym c.index-replica.ensures)).at

pub returns-in-CatchUp-clause-step : goal.returns-in-CatchUp-clause-step
returns-in-CatchUp-clause-step g c =
    let j = c.args.journal.now in
    let there : c.in-CatchUp.worker < length c.args.replicas.now.items =
    omega (
      arith,
      named_catch_up c.args.event c.in-CatchUp.worker _ c.requires.named c.in-CatchUp.is,
      c.requires.at.one_each,
    ) in
    rw c.in-CatchUp.is
    (step_catch_up (opening_in j) j.entries c.args.replicas.now.items
    c.in-CatchUp.worker c.catch_up-count.result c.index_mut-replica.result.now c.catch_up-count.new.replica
    there (sym c.index_mut-replica.ensures.value) c.catch_up-count.ensures.count c.catch_up-count.ensures.place)

pub returns-in-CatchUp-clause-at : goal.returns-in-CatchUp-clause-at
returns-in-CatchUp-clause-at g c =
    let j = c.args.journal.now in
    let there : c.in-CatchUp.worker < length c.args.replicas.now.items =
    omega (
      arith,
      named_catch_up c.args.event c.in-CatchUp.worker _ c.requires.named c.in-CatchUp.is,
      c.requires.at.one_each,
    ) in
    all_set (opening_in j) j.entries c.in-CatchUp.worker
    c.args.replicas.now.items c.catch_up-count.new.replica c.requires.at there (record {
      worker = c.catch_up-count.ensures.worker
          ∙ (c.requires.at.each c.in-CatchUp.worker c.index_mut-replica.result.now there
          (sym c.index_mut-replica.ensures.value)).worker;
      at = c.catch_up-count.ensures.at;
    })

pub returns-in-Commit-clause-step : goal.returns-in-Commit-clause-step
returns-in-Commit-clause-step g c =
    let j = c.args.journal.now in
    let there : c.in-Commit.worker < length c.args.replicas.now.items =
    omega (
      arith,
      named_commit c.args.event c.in-Commit.worker _ c.requires.named c.in-Commit.is,
      c.requires.at.one_each,
    ) in
    rw c.in-Commit.is
    (step_commit (opening_in j) j.entries
    c.hand_in.new.journal.entries c.args.replicas.now.items c.in-Commit.worker
    c.index-replica.result.now.worker c.index-replica.result.now c.hand_in.result there
    (sym c.index-replica.ensures)
    (c.requires.at.each c.in-Commit.worker c.index-replica.result.now there
    (sym c.index-replica.ensures)).worker (ap (λ j. j.entries) c.hand_in.ensures.journal) c.hand_in.ensures.reply)

pub returns-in-CatchUp-clause-over : goal.returns-in-CatchUp-clause-over
returns-in-CatchUp-clause-over g c = over_itself c.args.journal.now

pub returns-in-Commit-clause-over : goal.returns-in-Commit-clause-over
returns-in-Commit-clause-over g c =
    over_by c.args.journal.now c.hand_in.new.journal _ c.hand_in.ensures.journal

pub returns-in-Commit-clause-at : goal.returns-in-Commit-clause-at
returns-in-Commit-clause-at g c =
    stand_later c.args.journal.now c.hand_in.new.journal c.index-replica.result.now.worker
    c.index-replica.result.now.place c.hand_in.result c.args.replicas.now.items c.requires.at c.hand_in.ensures
