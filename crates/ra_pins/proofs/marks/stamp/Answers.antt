-- One process more is stamped, if it is flagged.
use Rattle.std.proofs.Common.{refl, arith, get_or}
use Rattle.ra_model.specs.Members.{member_at}
use Rattle.ra_pins.proofs.MarkLemmas.{set_none, set_free, set_more, seat_flagged, seat_free, flag_read}
use Rattle.ra_pins.proofs.marks.stamp.Goals as goal
use Rattle.ra_pins.proofs.marks.stamp.Goals.{then-get, else-get}

pub loop-k-init : goal.loop-k-init
loop-k-init c = set_none _ c.args.stamp
    c.args.marks.now.items

pub get-requires : goal.get-requires
unfolding member_at
get-requires c = c.requires.seated.flagged c.loop-k.k c.loop-k-test.true

pub machine_of-at-requires : goal.machine_of-at-requires
unfolding member_at
machine_of-at-requires c = c.requires.seated.placed c.loop-k.k c.loop-k-test.true

pub set-requires : goal.set-requires
unfolding member_at
set-requires c =
    omega (
      arith,
      c.machine_of-at.ensures,
      c.requires.seated.within c.loop-k.k c.loop-k-test.true,
      c.loop-k.invariant.one_each,
    )

pub loop-k-preserved : goal.loop-k-preserved
unfolding member_at
loop-k-preserved c =
    let a0 = c.args.a0.now.items in
    let flags = c.args.flags.now.items in
    let processes = c.args.processes.now in
    let p = (get_or processes c.loop-k.k (record { 0 = 0 })).0 in
    let read = flag_read flags p c.get.result (c.requires.seated.flagged c.loop-k.k c.loop-k-test.true) c.get.ensures in
    elim c.if-get.branch [
      | then-get w ↦
          rw (w.marks-is, w.set.ensures.items)
          (set_more _ c.loop-k.k c.args.stamp w.machine_of-at.result.0 c.args.marks.now.items
          c.loop-k.marks.items
          (λ m. seat_flagged a0 flags processes m c.loop-k.k p w.machine_of-at.result.0 c.get.result refl
          w.machine_of-at.ensures read w.if-get.true)
          (omega (arith, w.machine_of-at.ensures, c.requires.seated.within c.loop-k.k c.loop-k-test.true))
          c.loop-k.invariant)
      | else-get w ↦
          rw w.marks-is
          (set_free _ c.loop-k.k c.args.stamp c.args.marks.now.items c.loop-k.marks.items
          (λ m. seat_free a0 flags processes m c.loop-k.k p c.get.result refl read w.if-get.false) c.loop-k.invariant)
    ]
