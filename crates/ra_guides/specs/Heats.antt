-- What a heat shows: how much a move may cost, in parts of 2^-16 of a unit of cost.
use Rattle.std.specs.Prelude.{ℕ}
use Rattle.ra_guides.specs.declared.heat.Heat.{Heat}
use Rattle.ra_guides.specs.declared.cooling.Cooling.{Cooling}

-- a heat in parts of 2^-16 of a unit of cost
abbrev pub fine_of : Heat → ℕ
fine_of heat = heat.fine

-- the heats between which a cooling goes
abbrev pub high_of : Cooling → Heat
high_of cooling = cooling.high

abbrev pub low_of : Cooling → Heat
low_of cooling = cooling.low
