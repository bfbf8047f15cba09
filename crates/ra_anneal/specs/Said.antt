-- What a job says.
use Rattle.ra_anneal.specs.declared.words.Job.{Job}
use Rattle.ra_anneal.specs.declared.words.Job.TheVariants.{Help, Version, Anneal}
use Rattle.ra_anneal.specs.Jobs.{AnnealSays, Helps, Versions, Anneals}

abbrev pub said : Job → AnnealSays
said Help = Helps
said Version = Versions
said (Anneal model initial from closed schedule) = Anneals model initial from closed schedule
