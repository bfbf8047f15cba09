-- One more number, and what the numbers are.
use Rattle.std.proofs.Common.{◌∙◌, ◌-◌, ap, length-set, slice_index, arith, rules}
use Rattle.ra_model.specs.Numbers.{resource_count}
use Rattle.ra_shift.proofs.ReadLaws.{filled_more, used_without, used_covers}
use Rattle.ra_shift.proofs.costs.fill_without.Goals as goal

pub loop-r-init : goal.loop-r-init
loop-r-init c = record { size = search rules; so_far = λ k before. absurd (omega arith) }

pub loop-r-preserved : goal.loop-r-preserved
loop-r-preserved c =
    let end = ap (λ j. resource_count j) c.instance.ensures.value in
    record {
      size = length-set c.loop-r.row c.loop-r.r _ ∙ c.loop-r.invariant.size;
      so_far = filled_more c.loop-r.row
          (λ k. slice_index c.usage_row-used.result.now k - slice_index c.args.required.now k) c.loop-r.r _
          c.loop-r.invariant.so_far
          (omega (
            arith,
            c.rows.ensures.sound.well_formed.few_resources,
            end,
            c.resources-r-end.ensures,
            c.loop-r-test.true,
            c.loop-r.invariant.size,
          ))
          (rw c.from.ensures);
    }

pub returns : goal.returns
returns c = λ r within.
    let end = ap (λ j. resource_count j) c.instance.ensures.value in
    c.loop-r.invariant.so_far r (omega (arith, within, end, c.resources-r-end.ensures, c.loop-r-test.false))
    ∙ used_without c.args.world.now.tables c.rows.result.now.tables c.args.world.now.here
    c.args.p.0 c.args.from.0 r c.usage_row-used.result.now c.args.required.now c.rows.ensures.instance
    (c.usage_row-used.ensures.values _ c.rows.ensures.stand) c.requires.required c.requires.from within

pub overflow_sub-row : goal.overflow_sub-row
overflow_sub-row c =
    let end = ap (λ j. resource_count j) c.instance.ensures.value in
    let covers = used_covers c.args.world.now.tables c.rows.result.now.tables
    c.args.world.now.here c.args.p.0 c.args.from.0 c.loop-r.r c.usage_row-used.result.now
    c.args.required.now c.rows.ensures.instance (c.usage_row-used.ensures.values _ c.rows.ensures.stand)
    c.requires.required c.requires.from c.requires.process
    (omega (arith, end, c.resources-r-end.ensures, c.loop-r-test.true)) in
    omega (arith, covers, c.from.ensures)
