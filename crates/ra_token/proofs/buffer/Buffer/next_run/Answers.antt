use Rattle.ra_token.specs.Reads.{IsBetween}
use Rattle.ra_token.specs.Scan.{IsNext}
use Rattle.ra_token.proofs.Exits.{told_nothing, told_given, keeps_still}
use Rattle.ra_token.proofs.buffer.Buffer.next_run.Goals as goal

pub returns-in-Some : goal.returns-in-Some
returns-in-Some g c =
    let told = g.F.Files.held c.args.files.now c.args.name.now in
    let keeps = keeps_still (g.F.Files.held c.args.files.now) (g.F.Files.faults c.args.files.now) in
    record {
      shows = c.requires.shows;
      next = told_given (λ bytes. IsBetween bytes c.args.place)
          (λ bytes. IsNext bytes c.args.place c.in-Some.found.0 c.in-Some.found.1.end c.in-Some.found.1.value)
          told (c.in-Some.ensures.next told c.requires.shows) c.requires.between;
      ended = told_nothing told;
      refused = told_nothing told;
      place = c.in-Some.ensures.place;
      small = c.in-Some.ensures.small;
      memory = λ e. cc;
      fault = λ e. absurd cc;
      kept = keeps.kept;
      never_fall = keeps.never_fell;
    }

pub returns-in-None : goal.returns-in-None
returns-in-None g c = c.fetched_run.ensures
