use Rattle.std.proofs.Common.{◌≡◌, length, ap, subst, arith}
use Rattle.ra_model.specs.Situations.{IsSound}
use Rattle.ra_journal.specs.Openings.{Opening}
use Rattle.ra_worker.specs.Replicas.{Progress}
use Rattle.ra_worker.proofs.ReplicaLemmas.{taken_none, taken_more, reads_more, next_judged, next_left, place_few}
use Rattle.ra_worker.proofs.replica.Replica.take_in.Goals as goal

pub loop-j-init : goal.loop-j-init
loop-j-init g c = record { taken = taken_none c.args.self.now c.args.batch.now; counted = omega arith }

pub take_entry-requires-clause-judged : goal.take_entry-requires-clause-judged
take_entry-requires-clause-judged g c =
    let sound = subst (λ (r : Progress). IsSound r.world) c.self.view_is c.instance-known.ensures.sound in
    next_judged c.args.self.now c.loop-j.self c.args.batch.now c.requires.told.journal c.loop-j.j c.entry-entry.result
    sound.well_formed sound.starts c.requires.told.next
    c.loop-j.invariant.taken
    (omega (arith, c.loop-j-test.true, c.len-j-end.ensures.value)) c.entry-entry.ensures

pub take_entry-requires-clause-left : goal.take_entry-requires-clause-left
take_entry-requires-clause-left g c =
    λ own. next_left c.args.self.now c.loop-j.self c.args.batch.now c.requires.told.journal c.loop-j.j
    c.entry-entry.result c.requires.told.next c.loop-j.invariant.taken
    (omega (arith, c.loop-j-test.true, c.len-j-end.ensures.value)) c.entry-entry.ensures own

pub take_entry-requires-clause-few : goal.take_entry-requires-clause-few
take_entry-requires-clause-few g c = place_few c.args.self.now c.loop-j.self c.args.batch.now c.requires.told.journal
    c.loop-j.j c.requires.told.next c.loop-j.invariant.taken
    (omega (arith, c.loop-j-test.true, c.len-j-end.ensures.value))

pub loop-j-preserved : goal.loop-j-preserved
loop-j-preserved g c = record {
  taken = taken_more c.args.self.now c.loop-j.self c.take_entry.new.self c.args.batch.now c.loop-j.j
      c.entry-entry.result c.loop-j.invariant.taken (omega (arith, c.loop-j-test.true, c.len-j-end.ensures.value))
      c.entry-entry.ensures c.take_entry.ensures.followed;
  counted = reads_more (ap (λ (o : Opening). o.tables) c.loop-j.invariant.taken.opening) c.loop-j.j _ _ _ c.loop-j.invariant.counted
      c.take_entry.ensures.counted;
}

pub returns-clause-taken : goal.returns-clause-taken
returns-clause-taken g c =
    let all : c.loop-j.j ≡ length c.args.batch.now = omega (arith, c.len-j-end.ensures.value) in
    rw all at c.loop-j.invariant.taken

pub returns-clause-counted : goal.returns-clause-counted
returns-clause-counted g c =
    let all : c.loop-j.j ≡ length c.args.batch.now = omega (arith, c.len-j-end.ensures.value) in
    rw all at c.loop-j.invariant.counted
