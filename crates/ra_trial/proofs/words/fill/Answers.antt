use Rattle.std.proofs.Common.{◌≡◌, ℕ, arith, ◌∙◌, ap, length, length-append}
use Rattle.ra_trial.proofs.Drawing.{drawn_none, drawn_more, drawn_all}
use Rattle.ra_trial.proofs.words.fill.Goals as goal

pub loop-i-init : goal.loop-i-init
loop-i-init g c = record {
  drawn = drawn_none c.requires.none;
  many = ap length c.requires.none;
  room = c.requires.room;
}

pub loop-i-preserved : goal.loop-i-preserved
loop-i-preserved g c = record {
  drawn = drawn_more _ _ c.loop-i.invariant.drawn c.next_u64.ensures c.push.ensures.items;
  many = omega (arith, ap length c.push.ensures.items, length-append {A = ℕ});
  room = c.push.ensures.room ∙ c.loop-i.invariant.room;
}

pub returns : goal.returns
returns g c = drawn_all (let all : c.loop-i._i ≡ 5650 = omega arith in all) c.loop-i.invariant.drawn
