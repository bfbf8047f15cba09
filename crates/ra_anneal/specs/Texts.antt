-- What `anneal` prints. Each line ends with LF, and numbers are decimal.
use Rattle.std.specs.Prelude.{ℕ, List, [], ◌∷◌, ◌++◌, codes}
use Rattle.ra_base.specs.declared.costs.Parts.{Parts}
use Rattle.ra_base.specs.declared.ids.Machine.{Machine}
use Rattle.ra_report.specs.Pieces.{joined}
use Rattle.ra_report.specs.Texts.{line_end, number_line, parts_text, machines_text, assignment_line}

-- four lines: the total of the bound, and what the search tells of itself: from which heat it cooled down, how many tries
-- and how many moves it made
unfoldable pub told_text : ℕ → ℕ → ℕ → ℕ → List ℕ
told_text bound heat tries done =
    number_line (codes "bound") bound
    ++ number_line (codes "heat") heat
    ++ number_line (codes "tries") tries
    ++ number_line (codes "done") done

-- the line of the last list: the machine of each process, in order
unfoldable pub last_line : List Machine → List ℕ
last_line a = codes "last" ++ machines_text a ++ line_end

-- the twelve lines: the parts of the best list, these four, the best list and the last one
unfoldable pub annealed_text : Parts → ℕ → ℕ → ℕ → ℕ → List Machine → List Machine → List ℕ
annealed_text parts bound heat tries done best last =
    parts_text parts ++ told_text bound heat tries done ++ assignment_line best ++ last_line last

abbrev pub usage_line : List ℕ
usage_line =
    codes
    "usage: anneal MODEL INITIAL [--from LIST] [--closed FILE] [--heat HIGH:LOW] [--workers W] SEED:TRIES"

-- the line for words that ask for nothing that the program does
abbrev pub usage_text : List ℕ
usage_text = joined (usage_line ∷ line_end ∷ [])

-- how the program is called, and its version
abbrev pub help_text : List ℕ
help_text =
    codes
    "usage: anneal MODEL INITIAL [--from LIST] [--closed FILE] [--heat HIGH:LOW] [--workers W] SEED:TRIES\n\n  --from LIST      the list with which the search begins; INITIAL if it isn't given\n  --closed FILE    machines that nobody may enter\n  --heat HIGH:LOW  by how much the cost may rise, at first and in the end; chosen if it isn't given\n  --workers W      how many workers search, 1 to 16; 1 if it isn't given\n  SEED:TRIES       the seed of the random words, and how many tries all workers make together, at most 10^12\n\nThe options come in this order.\n"

abbrev pub version_text : List ℕ
version_text = codes "anneal 2.0.0\n"
