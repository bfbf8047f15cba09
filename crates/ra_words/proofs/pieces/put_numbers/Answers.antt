use Rattle.std.proofs.Common.{◌∙◌, refl, arith}
use Rattle.ra_words.proofs.PieceLaws.{none_put, piece_read, one_room, one_put, all_put}
use Rattle.ra_words.proofs.pieces.put_numbers.Goals as goal

pub loop-start-init : goal.loop-start-init
loop-start-init c = record {
  put = none_put c.args.text.now c.args.list.now.items c.requires.numbers c.requires.empty;
  room = refl;
}

pub number-requires : goal.number-requires
number-requires c = piece_read c.args.text.now c.loop-start.start c.loop-start.list.items c.piece_at-piece.result.now
    c.loop-start.invariant.put c.loop-start-test.true c.piece_at-piece.ensures.value

pub push-requires : goal.push-requires
push-requires c = let h = one_room c.args.text.now c.loop-start.start c.loop-start.list.items c.loop-start.invariant.put
    c.loop-start-test.true in omega (arith, c.requires.room, c.loop-start.invariant.room)

pub loop-start-preserved : goal.loop-start-preserved
loop-start-preserved c = record {
  put =
      one_put c.args.text.now c.loop-start.start c.loop-start.list.items c.push.new.self.items
      c.piece_at-piece.result.now c.number.result c.loop-start.invariant.put c.loop-start-test.true
      c.piece_at-piece.ensures.value c.piece_at-piece.ensures.within c.number.ensures c.push.ensures.items;
  room = c.push.ensures.room ∙ c.loop-start.invariant.room;
}

pub returns : goal.returns
returns c = all_put c.args.text.now c.loop-start.start c.loop-start.list.items c.loop-start.invariant.put
    c.loop-start-test.false
