use Rattle.std.proofs.Common.{◌∙◌}
use Rattle.ra_worker.proofs.ProposalLemmas.{plan_alike}
use Rattle.ra_worker.proofs.replica.Replica.offer_at.Goals as goal

pub allowed-rise-requires-clause-worker : goal.allowed-rise-requires-clause-worker
allowed-rise-requires-clause-worker g c = c.self.inside.proposals.drawn.worker

pub returns-clause-plan : goal.returns-clause-plan
returns-clause-plan g c = rw (← c.self.view_is) (record {
  place = c.plan.ensures.numbers_q;
  number = c.plan.ensures.numbers_k;
  planned = c.plan.ensures.planned
      ∙ plan_alike _ _ _ _ _ _ _ c.words.ensures c.drawing.ensures c.allowed-rise.ensures;
  weighed = c.plan.ensures.weighed;
})
