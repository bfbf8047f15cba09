-- What the parts of a line mean.
use Rattle.std.specs.Prelude.{ℕ, List, codes}
use Rattle.clap.specs.Words.{first_value}
use Rattle.clap.specs.declared.parser.matches.Found.{Found}
use Rattle.ra_words.specs.Lines.{plain_of}
use Rattle.ra_words.specs.Words.{word_at}
use Rattle.ra_anneal.specs.Jobs.{AnnealSays, Anneals, schedule_of}

-- what a search says, by its first word and by what was found in those after it
abbrev pub found_says : List ℕ → Found → AnnealSays
found_says model found =
    Anneals model (word_at (plain_of found) 0) (first_value found (codes "from"))
    (first_value found (codes "closed"))
    (schedule_of (first_value found (codes "heat")) (first_value found (codes "workers"))
    (word_at (plain_of found) 1))
