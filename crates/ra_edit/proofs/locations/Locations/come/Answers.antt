-- The first process in a location makes one location more.
use Rattle.std.proofs.Common.{◌≡◌, ◌+◌, refl, arith}
use Rattle.ra_edit.specs.Counts.{count_in}
use Rattle.ra_edit.proofs.LocationLaws.{labels_first, labels_other, labels_still, numbered_kept, numbered_written}
use Rattle.ra_edit.proofs.locations.Locations.come.Goals as goal

pub returns-then-before-eq0-clause-numbered : goal.returns-then-before-eq0-clause-numbered
returns-then-before-eq0-clause-numbered c =
    let low = c.args.self.now.counts in
    let none : count_in low c.args.s.0 c.args.label ≡ 0 = omega (arith, c.at-before.ensures, c.if-before-eq0.true) in
    numbered_written c.args.s.0 (c.number-more.result + 1) c.requires.numbered c.requires.service
    c.set.ensures.items
    (omega (
      arith,
      c.number-more.ensures,
      c.requires.numbered.each c.args.s.0 c.requires.service,
      labels_first low c.come.new.self c.args.s.0 c.args.label (omega arith) c.come.ensures none,
    ))
    (λ t apart. labels_other low c.come.new.self c.args.s.0 c.args.label t c.come.ensures apart)

pub returns-else-before-eq0-clause-numbered : goal.returns-else-before-eq0-clause-numbered
returns-else-before-eq0-clause-numbered c = numbered_kept c.requires.numbered refl
    (labels_still c.args.self.now.counts c.come.new.self c.args.s.0 c.args.label (omega arith) c.come.ensures
    (omega (arith, c.at-before.ensures, c.if-before-eq0.false)))
