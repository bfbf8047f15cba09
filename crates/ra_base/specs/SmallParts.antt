-- Parts of a cost that can be added up.
use Rattle.std.specs.Prelude.{ℕ, ◌^◌, ◌<◌}

-- each of five parts is so small that their sum has less than 128 bits
pub record AreSmall (load balance process service machine : ℕ) : Type 0 where
  pub load_small : load < 2 ^ 120
  pub balance_small : balance < 2 ^ 120
  pub process_small : process < 2 ^ 120
  pub service_small : service < 2 ^ 120
  pub machine_small : machine < 2 ^ 120
