use Rattle.ra_worker.proofs.replica.Replica.is_refused.Goals as goal

pub is_refused-requires-clause-worker : goal.is_refused-requires-clause-worker
is_refused-requires-clause-worker c = c.self.inside.proposals.drawn.worker
