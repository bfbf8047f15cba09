-- What a contract sees of a `Topology`: for each service its processes, the services on which it depends, in file order
-- and each once, and the services that depend on it.
use Rattle.std.specs.Prelude.{List}
use Rattle.ra_base.specs.declared.ids.Process.{Process}
use Rattle.ra_base.specs.declared.ids.Service.{Service}

pub record TopologyLists : Type 0 where
  pub members : List (List Process)
  pub needs : List (List Service)
  pub distinct : List (List Service)
  pub dependants : List (List Service)
