-- What a job says. The room of its lists doesn't count.
use Rattle.std.specs.Prelude.{map}
use Rattle.ra_draws.specs.declared.sources.Source.{Source}
use Rattle.ra_draws.specs.declared.sources.Source.TheVariants.{Seed, Written}
use Rattle.ra_draws.specs.declared.sources.Lot.{Lot}
use Rattle.ra_draws.specs.Shown.{drawing_in, lots_shown, slack_in}
use Rattle.ra_words.specs.declared.jobs.Job.{Job}
use Rattle.ra_words.specs.declared.jobs.Job.TheVariants.{Check, Bound, Solve, Trial, Verify, Repair, Edit}
use Rattle.ra_words.specs.LotTexts.{SourceSays, FromSeed, FromWords, LotSays}
use Rattle.ra_words.specs.Jobs.{JobSays, Checks, Bounds, Solves, Trials, Verifies, Repairs, Edits}

-- what a source says: its seed, or its words
abbrev pub said_source : Source → SourceSays
said_source (Seed seed) = FromSeed seed
said_source (Written words) = FromWords words.items

-- what a lot says
abbrev pub said_lot : Lot → LotSays
said_lot lot = record { source = said_source lot.source; budget = lot.budget }

-- what a job says
abbrev pub said : Job → JobSays
said (Check model initial changed closed) = Checks model initial changed closed
said (Bound model initial closed) = Bounds model initial closed
said (Solve model initial closed lots) =
    Solves model initial closed (slack_in lots) (drawing_in lots) (map said_lot (lots_shown lots))
said (Trial number) = Trials number
said (Verify model initial report closed lots) =
    Verifies model initial report closed (slack_in lots) (drawing_in lots) (map said_lot (lots_shown lots))
said (Repair model initial closed lots) =
    Repairs model initial closed (slack_in lots) (drawing_in lots) (map said_lot (lots_shown lots))
said (Edit model initial current edits closed) = Edits model initial current edits closed
