-- The part of the service.
use Rattle.std.proofs.Common.{◌∙◌, ap₂, arith}
use Rattle.ra_cells.specs.Held.{labels_held}
use Rattle.ra_cells.proofs.HeldLemmas.{held_le}
use Rattle.ra_cells.proofs.MakingLemmas.{part_ordered, part_there, part_ascends, labels_few}
use Rattle.ra_cells.proofs.cells.held_of.Goals as goal

pub held_in-requires-clause-part : goal.held_in-requires-clause-part
held_in-requires-clause-part c =
    omega (arith, c.start_at-start.ensures.value, c.start_at-end.ensures.value, part_ordered)

pub held_in-requires-clause-there : goal.held_in-requires-clause-there
held_in-requires-clause-there c =
    omega (
      arith,
      c.start_at-end.ensures.value,
      part_there c.args.inst.now.tables c.args.labels.now.items c.args.s.0
          c.args.inst.now.well_formed c.requires.sorted c.requires.service,
    )

pub held_in-requires-clause-few : goal.held_in-requires-clause-few
held_in-requires-clause-few c =
    omega (
      arith,
      labels_few c.args.inst.now.tables c.args.labels.now.items c.args.inst.now.well_formed
          c.requires.sorted,
    )

pub held_in-requires-clause-ascends : goal.held_in-requires-clause-ascends
held_in-requires-clause-ascends c = rw (c.start_at-start.ensures.value, c.start_at-end.ensures.value)
    (part_ascends c.args.inst.now.tables c.args.labels.now.items c.args.s.0 c.requires.sorted c.requires.service)

pub returns-clause-count : goal.returns-clause-count
returns-clause-count c = c.held_in.ensures.count
    ∙ ap₂ (λ m n. labels_held c.args.labels.now.items m n c.args.x) c.start_at-start.ensures.value
    c.start_at-end.ensures.value

pub returns-clause-within : goal.returns-clause-within
returns-clause-within c =
    omega (arith, c.held_in.ensures.count, held_le, c.start_at-end.ensures.within)
