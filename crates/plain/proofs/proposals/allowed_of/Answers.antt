use Rattle.std.proofs.Common.{refl, ◌∙◌}
use Rattle.ra_draws.specs.Lots.{budget_of, allowance_of}
use Rattle.ra_journal.specs.Entries.{worker_count, budget, allowed}
use Rattle.plain.proofs.proposals.allowed_of.Goals as goal

pub lot-requires : goal.lot-requires
unfolding worker_count
lot-requires c = c.requires.there

pub allow-requires : goal.allow-requires
unfolding budget budget_of
allow-requires c = rw c.lot.ensures c.requires.left

pub returns : goal.returns
unfolding allowed allowance_of budget_of
returns c = c.allow.ensures ∙ rw (c.slack.ensures, c.lot.ensures) refl
