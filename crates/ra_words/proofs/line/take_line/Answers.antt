use Rattle.ra_words.specs.Words.{texts}
use Rattle.ra_words.proofs.LineLaws.{line_found, line_taken}
use Rattle.ra_words.proofs.line.take_line.Goals as goal

pub returns-in-Ok : goal.returns-in-Ok
returns-in-Ok c = line_found _ _ (texts c.args.words.now) c.in_ok-command.ensures c.in-Ok.ensures.matches

pub no_memory-requires : goal.no_memory-requires
no_memory-requires c =
    c.in-Err.ensures.passes (line_taken _ (texts c.args.words.now) c.in_ok-command.ensures c.requires.0 c.requires.1)
