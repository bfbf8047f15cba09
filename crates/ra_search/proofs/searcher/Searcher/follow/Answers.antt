use Rattle.ra_search.proofs.ReachLemmas.{reach_on, reach_tried}
use Rattle.ra_search.proofs.searcher.Searcher.follow.Goals as goal

pub loop-k-preserved : goal.loop-k-preserved
loop-k-preserved g c = reach_on c.args.self.now.world c.loop-k.self.world c.try_move-made.new.self.world c.loop-k.invariant
    (reach_tried c.loop-k.self.world c.try_move-made.new.self.world _ _ _ c.try_move-made.ensures.tried)

pub returns : goal.returns
returns g c = c.loop-k.invariant
