-- The flag and the number that are read.
use Rattle.std.proofs.Common.{◌<◌, ◌∙◌, inl, inr, sym, length, arith, List}
use Rattle.std.proofs.lemmas.Bool.{ltb-true}
use Rattle.ra_base.specs.declared.ids.Machine.{Machine}
use Rattle.ra_pins.proofs.MarkLemmas.{flag_read}
use Rattle.ra_pins.proofs.WalkLemmas.{looks_read}
use Rattle.ra_pins.proofs.looks.rests.Goals as goal

pub returns-then-get-clause-rests : goal.returns-then-get-clause-rests
returns-then-get-clause-rests c = λ e (a0 : List Machine) at.
    inl (sym (flag_read c.args.search.now.flags.items c.args.p.0 c.get.result
    (omega (arith, c.requires.flags, c.requires.process)) c.get.ensures) ∙ e)

pub returns-else-get-clause-rests : goal.returns-else-get-clause-rests
returns-else-get-clause-rests c = λ e (a0 : List Machine) at.
    let place_in : c.args.p.0 < length c.args.search.now.places.items =
    omega (arith, c.requires.places, c.requires.process) in
    let at_in : c.spot-at.result.0 < length c.args.search.now.fuller.items =
    omega (arith, c.requires.fuller, c.spot-at.ensures.within, c.machines.ensures) in
    inr (omega (
      arith,
      ltb-true _ _ e,
      looks_read c.args.inst.now.tables a0 c.args.search.now.places.items
          c.args.search.now.fuller.items c.args.p.0 c.args.home.0 c.get-place.result c.spot-at.result.0
          c.get-else-get.result c.machines.result at c.machines.ensures place_in c.get-place.ensures
          c.spot-at.ensures.value at_in c.get-else-get.ensures,
    ))

pub returns-else-get-clause-free : goal.returns-else-get-clause-free
returns-else-get-clause-free c = λ e.
    sym (flag_read c.args.search.now.flags.items c.args.p.0 c.get.result
    (omega (arith, c.requires.flags, c.requires.process)) c.get.ensures) ∙ c.if-get.false
