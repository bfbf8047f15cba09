use Rattle.std.proofs.Common.{sym, ap, ◌∙◌}
use Rattle.ra_token.specs.Runs.{is_blank}
use Rattle.ra_token.proofs.Masks.{spaces_bit}
use Rattle.ra_token.proofs.short.spaces.Goals as goal

pub returns : goal.returns
returns c = λ k l set.
    ap is_blank (sym (c.load-lanes.ensures.each k l)) ∙ spaces_bit c.load-lanes.result k c.load-lanes.ensures.many l set
