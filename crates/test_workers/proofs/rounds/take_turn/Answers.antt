use Rattle.std.proofs.Common.{ℕ, ◌<◌, length, set, sym, ap, ap₂, ◌∙◌, arith}
use Rattle.ra_worker.specs.Turns.{turn_in}
use Rattle.ra_worker.proofs.CoreLemmas.{all_set, over_by, stand_later}
use Rattle.ra_journal.specs.Journals.{opening_in}
use Rattle.test_workers.proofs.PlayedLemmas.{turn_played}
use Rattle.test_workers.proofs.rounds.take_turn.Goals as goal

pub returns-clause-journal : goal.returns-clause-journal
returns-clause-journal c =
    let there : c.args.w < length c.args.replicas.now.items =
    omega (arith, c.requires.exists, c.requires.at.one_each) in
    let own = c.catch_up_whole.ensures.worker
    ∙ (c.requires.at.each c.args.w c.index_mut-replica.result.now there
    (sym c.index_mut-replica.ensures.value)).worker in
    ap (λ k. k.entries) c.hand_in-reply.ensures.journal ∙ ap₂ (λ (w q : ℕ). (turn_in c.args.journal.now w q).journal) own
    c.catch_up_whole.ensures.place

pub returns-clause-played : goal.returns-clause-played
returns-clause-played c =
    let j = c.args.journal.now in
    let k = c.hand_in-reply.new.journal in
    let s = c.catch_up_whole.new.replica in
    let r = c.index_mut-replica.result.now in
    let there : c.args.w < length c.args.replicas.now.items =
    omega (arith, c.requires.exists, c.requires.at.one_each) in
    let here = c.requires.at.each c.args.w r there (sym c.index_mut-replica.ensures.value) in
    let own = c.catch_up_whole.ensures.worker ∙ here.worker in
    let before = all_set (opening_in j) j.entries c.args.w
    c.args.replicas.now.items s c.requires.at there (record { worker = own; at = c.catch_up_whole.ensures.at }) in
    record {
      played = turn_played (opening_in j) j.entries k.entries
          c.args.replicas.now.items c.args.w s.worker r s c.requires.exists there
          (sym c.index_mut-replica.ensures.value) here.at.place c.catch_up_whole.ensures.place own
          (ap (λ x. x.entries) c.hand_in-reply.ensures.journal);
      at = stand_later j k s.worker s.place c.hand_in-reply.result (set c.args.replicas.now.items c.args.w s)
          before c.hand_in-reply.ensures;
      over = over_by j k _ c.hand_in-reply.ensures.journal;
      sound = c.hand_in-reply.ensures.sound;
    }
