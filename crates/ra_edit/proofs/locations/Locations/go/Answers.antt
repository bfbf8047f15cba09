-- The last process in a location leaves one location less.
use Rattle.std.proofs.Common.{◌≡◌, ◌-◌, refl, sym, arith}
use Rattle.ra_edit.specs.Counts.{count_in}
use Rattle.ra_edit.proofs.LocationLaws.{labels_first, labels_other, labels_still, numbered_kept, numbered_written}
use Rattle.ra_edit.proofs.locations.Locations.go.Goals as goal

pub overflow_sub-fewer : goal.overflow_sub-fewer
overflow_sub-fewer c =
    let none : count_in c.go.new.self c.args.s.0 c.args.label ≡ 0 = omega (arith, c.at.ensures, c.if-at-eq0.true) in
    omega (
      arith,
      c.number-fewer.ensures,
      c.requires.numbered.each c.args.s.0 c.requires.service,
      labels_first c.go.new.self c.args.self.now.counts c.args.s.0 c.args.label (omega arith) c.go.ensures none,
    )

pub returns-then-at-eq0-clause-numbered : goal.returns-then-at-eq0-clause-numbered
returns-then-at-eq0-clause-numbered c =
    let high = c.args.self.now.counts in
    let none : count_in c.go.new.self c.args.s.0 c.args.label ≡ 0 = omega (arith, c.at.ensures, c.if-at-eq0.true) in
    numbered_written c.args.s.0 (c.number-fewer.result - 1) c.requires.numbered c.requires.service
    c.set.ensures.items
    (omega (
      arith,
      c.number-fewer.ensures,
      c.requires.numbered.each c.args.s.0 c.requires.service,
      labels_first c.go.new.self high c.args.s.0 c.args.label (omega arith) c.go.ensures none,
    ))
    (λ t apart. sym (labels_other c.go.new.self high c.args.s.0 c.args.label t c.go.ensures apart))

pub returns-else-at-eq0-clause-numbered : goal.returns-else-at-eq0-clause-numbered
returns-else-at-eq0-clause-numbered c = numbered_kept c.requires.numbered refl
    (λ t. sym (labels_still c.go.new.self c.args.self.now.counts c.args.s.0 c.args.label (omega arith) c.go.ensures
    (omega (arith, c.at.ensures, c.if-at-eq0.false)) t))
