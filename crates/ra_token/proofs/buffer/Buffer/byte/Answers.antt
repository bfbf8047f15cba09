use Rattle.std.proofs.Common.{◌-◌, refl, sym, rules, arith}
use Rattle.std.proofs.lemmas.List.{get_or_read}
use Rattle.ra_token.proofs.Told.{told_byte}
use Rattle.ra_token.proofs.buffer.Buffer.byte.Goals as goal

pub returns-then-at-self : goal.returns-then-at-self
returns-then-at-self g c =
    let w = c.args.self.now in
    record {
      shows = c.requires.shows;
      byte = told_byte (g.F.Files.held c.args.files.now c.args.name.now) w.bytes.items w.start w.filled c.args.at
          c.index.result.now c.requires.shows c.if-self-at.true (omega arith) (omega arith) c.index.ensures;
      covers = search rules;
      ready = λ low.
          sym (get_or_read w.bytes.items (c.args.at - w.start) c.index.result.now (omega arith) c.index.ensures 0);
      cause = tt;
      fault = tt;
      kept = λ other. refl;
      never_fall = λ other. omega arith;
    }
