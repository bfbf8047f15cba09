-- What one machine costs in a draft.
use Rattle.std.specs.Prelude.{◌≡◌, ℕ, ◌+◌, ◌*◌, ◌^◌, ◌≤◌}
use Rattle.ra_base.specs.declared.costs.Parts.{Parts}
use Rattle.ra_model.specs.Usage.{use_of}
use Rattle.ra_model.specs.MachineCosts.{row_load, row_balance}
use Rattle.ra_edit.specs.declared.costs.MachineCosts.{MachineCosts}
use Rattle.ra_edit.specs.Drafts.{Drafted, instance_of}

-- the load cost and the balance cost of machine m
pub record AreCostsOn (d : Drafted) (m : ℕ) (costs : MachineCosts) : Type 0 where
  pub load : costs.load ≡ row_load d.origin m (use_of (instance_of d) d.current m)
  pub balance : costs.balance ≡ row_balance d.origin m (use_of (instance_of d) d.current m)
  pub load_small : costs.load ≤ 20 * 2 ^ 96
  pub balance_small : costs.balance ≤ 10 * 2 ^ 96

-- if the cost in one draft has these parts: the load cost and the balance cost, with what machine m costs in another
-- draft instead
pub record AreCostsWith (d e : Drafted) (m : ℕ) (cost : Parts) (costs : MachineCosts) : Type 0 where
  pub before : MachineCosts
  pub after : MachineCosts
  pub before_are : AreCostsOn d m before
  pub after_are : AreCostsOn e m after
  pub load : costs.load + before.load ≡ cost.load + after.load
  pub balance : costs.balance + before.balance ≡ cost.balance + after.balance
