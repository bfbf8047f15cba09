use Rattle.std.proofs.Common.{◌∙◌, rules, arith}
use Rattle.std.proofs.lemmas.List.{with_items_is}
use Rattle.ra_token.proofs.Fetched.{told_piece, told_front, told_past, first_ready}
use Rattle.ra_token.proofs.buffer.Buffer.fill.Goals as goal

pub returns-then-number-eq0 : goal.returns-then-number-eq0
returns-then-number-eq0 g c =
    record {
      shows = told_piece (g.F.Files.held c.args.files.now c.args.name.now)
          (g.F.Files.held c.fetch.new.self c.args.name.now) c.fetch.new.into _ c.args.at c.in-Ok.number _
          (c.in-Ok.ensures.kept c.args.name.now)
          (with_items_is c.args.self.now.bytes c.fetch.new.into (c.fetch.auto.into ∙ c.as_mut_slice.ensures.len))
          c.in-Ok.ensures.bytes (omega arith) c.in-Ok.ensures.bound;
      byte = told_past (g.F.Files.held c.args.files.now c.args.name.now) _ c.args.at c.in-Ok.number c.in-Ok.ensures.end
          (omega arith) c.if-number-eq0.true;
      covers = tt;
      ready = tt;
      cause = tt;
      fault = tt;
      kept = c.in-Ok.ensures.kept;
      never_fall = c.in-Ok.ensures.never_fall;
    }

pub returns : goal.returns
returns g c =
    let is = with_items_is c.args.self.now.bytes c.fetch.new.into (c.fetch.auto.into ∙ c.as_mut_slice.ensures.len) in
    record {
      shows = told_piece (g.F.Files.held c.args.files.now c.args.name.now)
          (g.F.Files.held c.fetch.new.self c.args.name.now) c.fetch.new.into _ c.args.at c.in-Ok.number _
          (c.in-Ok.ensures.kept c.args.name.now) is c.in-Ok.ensures.bytes (omega arith) c.in-Ok.ensures.bound;
      byte = told_front (g.F.Files.held c.args.files.now c.args.name.now) c.fetch.new.into _ c.args.at c.in-Ok.number
          c.index.result.now
          is c.in-Ok.ensures.bytes (omega arith) c.in-Ok.ensures.bound c.index.ensures;
      covers = search rules;
      ready = λ low. first_ready _ c.fetch.new.into c.args.at c.index.result.now is (omega arith) c.index.ensures;
      cause = tt;
      fault = tt;
      kept = c.in-Ok.ensures.kept;
      never_fall = c.in-Ok.ensures.never_fall;
    }
