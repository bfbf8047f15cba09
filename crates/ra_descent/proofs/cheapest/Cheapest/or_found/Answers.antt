use Rattle.ra_descent.proofs.CheapestLemmas.{taken}
use Rattle.ra_descent.proofs.cheapest.Cheapest.or_found.Goals as goal

pub returns-in-Some : goal.returns-in-Some
returns-in-Some c = λ st p within offer below. taken st p c.args.to offer c.in-Some.cost within (rw c.in-Some.is at below)
