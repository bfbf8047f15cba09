use Rattle.std.proofs.Common.{◌<◌, length, set, sym, ◌∙◌, subst, arith}
use Rattle.ra_journal.specs.Journals.{opening_in}
use Rattle.ra_worker.specs.Turns.{TakesTurn}
use Rattle.ra_worker.proofs.CoreLemmas.{all_set, stand_later, place_there, places_set}
use Rattle.ra_worker.proofs.turns.take_turn_at.Goals as goal

pub index_mut-replica-requires : goal.index_mut-replica-requires
index_mut-replica-requires c = omega (arith, c.requires.exists, c.requires.at.one_each, c.args.replicas.now.ok.0)

pub follow_to-requires-clause-at : goal.follow_to-requires-clause-at
follow_to-requires-clause-at c =
    let there : c.args.worker < length c.args.replicas.now.items =
    omega (arith, c.requires.exists, c.requires.at.one_each) in
    (c.requires.at.each c.args.worker c.index_mut-replica.result.now there (sym c.index_mut-replica.ensures.value)).at

pub follow_to-requires-clause-ahead : goal.follow_to-requires-clause-ahead
follow_to-requires-clause-ahead c =
    let j = c.args.journal.now in
    let there : c.args.worker < length c.args.replicas.now.items =
    omega (arith, c.requires.exists, c.requires.at.one_each) in
    let r = c.index_mut-replica.result.now in
    omega (
      arith,
      place_there j.entries c.args.replicas.now.items c.args.worker r there
          (sym c.index_mut-replica.ensures.value),
      c.requires.ahead,
    )

pub returns-clause-turn : goal.returns-clause-turn
returns-clause-turn c =
    let j = c.args.journal.now in
    let g = c.hand_in.new.journal in
    let s = c.follow_to.new.replica in
    let there : c.args.worker < length c.args.replicas.now.items =
    omega (arith, c.requires.exists, c.requires.at.one_each) in
    let own = c.follow_to.ensures.worker
    ∙ (c.requires.at.each c.args.worker c.index_mut-replica.result.now there
    (sym c.index_mut-replica.ensures.value)).worker in
    subst (λ w. TakesTurn j g w c.args.q c.hand_in.result) own
    (subst (λ q. TakesTurn j g s.worker q c.hand_in.result) c.follow_to.ensures.place c.hand_in.ensures)

pub returns-clause-places : goal.returns-clause-places
returns-clause-places c = places_set c.args.journal.now.entries c.hand_in.new.journal.entries
    c.args.replicas.now.items c.args.worker c.args.q c.follow_to.new.replica c.follow_to.ensures.place

pub returns-clause-at : goal.returns-clause-at
returns-clause-at c =
    let j = c.args.journal.now in
    let s = c.follow_to.new.replica in
    let there : c.args.worker < length c.args.replicas.now.items =
    omega (arith, c.requires.exists, c.requires.at.one_each) in
    let before = all_set (opening_in j) j.entries c.args.worker
    c.args.replicas.now.items s c.requires.at there (record {
      worker = c.follow_to.ensures.worker
          ∙ (c.requires.at.each c.args.worker c.index_mut-replica.result.now there
          (sym c.index_mut-replica.ensures.value)).worker;
      at = c.follow_to.ensures.at;
    }) in
    stand_later j c.hand_in.new.journal s.worker s.place c.hand_in.result
    (set c.args.replicas.now.items c.args.worker s) before c.hand_in.ensures
