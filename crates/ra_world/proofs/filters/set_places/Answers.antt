-- One place of the machine after another.
use Rattle.std.proofs.Common.{◌≡◌, ◌+◌, ◌*◌, ◌%◌, ◌<◌, ℕ, List, ap, set, length, subst, sym, ◌∙◌, arith}
use Rattle.std.proofs.Math.Nat.{mod-eq_of_lt, add-mod_right}
use Rattle.ra_base.proofs.Tables.{place_within}
use Rattle.ra_model.specs.Numbers.{machine_count}
use Rattle.ra_world.specs.FilterTables.{filter_row_count, filter_width, ArePlacesSet}
use Rattle.ra_world.proofs.FilterTableLaws.{no_places, next_place, all_places}
use Rattle.ra_world.proofs.filters.set_places.Goals as goal

pub loop-place-init : goal.loop-place-init
loop-place-init c = record {
  at = mod-eq_of_lt {n = c.args.m.0} {m = machine_count c.args.inst.now.tables} c.requires.machine;
  set = no_places c.args.inst.now.tables c.args.m.0 c.args.j c.args.m.0 c.args.number c.args.table.now.items
      c.requires.machine (λ i. c.args.m.0);
}

pub set-requires : goal.set-requires
set-requires c =
    let i = c.args.inst.now.tables in
    let within : c.args.j * (c.machines-machines.result + 63) + c.loop-place.place < filter_row_count i
    * (c.machines-machines.result + 63) =
    place_within c.args.j c.loop-place.place (filter_row_count i) (c.machines-machines.result + 63) c.requires.row
    c.loop-place-test.true in
    let grid : length c.loop-place.table.items ≡ filter_row_count i * filter_width i = c.loop-place.invariant.set.many
    ∙ c.requires.grid in
    let wide : filter_row_count i * filter_width i ≡ filter_row_count i * (c.machines-machines.result + 63) =
    ap (λ n. filter_row_count i * (n + 63)) (sym c.machines-machines.ensures) in
    omega (arith, within, grid, wide)

pub loop-place-preserved : goal.loop-place-preserved
loop-place-preserved c =
    let i = c.args.inst.now.tables in
    let many : c.machines-machines.result ≡ machine_count i = c.machines-machines.ensures in
    let place : ℕ = c.loop-place.place in
    let old : List ℕ = c.args.table.now.items in
    let mid : List ℕ = c.loop-place.table.items in
    record {
      at = ap (λ n. (place + n) % machine_count i) many ∙ add-mod_right place (machine_count i)
          ∙ c.loop-place.invariant.at;
      set = subst (λ n. ArePlacesSet i c.args.m.0 c.args.j (place + n) c.args.number old c.set.new.self.items)
          (sym many)
          (subst (ArePlacesSet i c.args.m.0 c.args.j (place + machine_count i) c.args.number old)
          (sym (c.set.ensures.items ∙ ap (λ n. set mid (c.args.j * (n + 63) + place) c.args.number) many))
          (next_place i c.args.m.0 c.args.j place c.args.number old mid c.requires.machine c.requires.row
          (omega (arith, c.loop-place-test.true)) c.loop-place.invariant.at
          (c.loop-place.invariant.set.many ∙ c.requires.grid) c.loop-place.invariant.set));
    }

pub returns : goal.returns
returns c =
    all_places c.args.inst.now.tables c.args.m.0 c.args.j c.loop-place.place c.args.number c.args.table.now.items
    c.loop-place.table.items
    (omega (arith, c.loop-place-test.false, c.machines-machines.ensures)) c.loop-place.invariant.set
