-- The flag that is read is that of a pinned process, which stays.
use Rattle.std.proofs.Common.{◌≡◌, ◌<◌, ◌∙◌, sym, length, List, arith, ap}
use Rattle.ra_base.specs.declared.ids.Machine.{Machine}
use Rattle.ra_model.specs.declared.raw.Tables.{Tables}
use Rattle.ra_model.specs.Numbers.{process_count}
use Rattle.ra_pins.specs.PinLists.{PinLists, flag_at}
use Rattle.ra_pins.proofs.MarkLemmas.{flag_read}
use Rattle.ra_pins.proofs.StayLemmas.{pinned_stay}
use Rattle.ra_pins.proofs.pins.Pins.pinned.Goals as goal

pub returns-clause-value : goal.returns-clause-value
returns-clause-value c = λ (i : Tables) (a0 : List Machine) pins.
    let seen : c.self.inside.flags.items ≡ c.args.self.now.flags = ap (λ (v : PinLists). v.flags) c.self.view_is in
    let inside : c.args.p.0 < length c.self.inside.flags.items = omega (arith, c.requires, ap length seen) in
    flag_read c.self.inside.flags.items c.args.p.0 c.get.result inside c.get.ensures
    ∙ ap (λ flags. flag_at flags c.args.p.0) seen
    ∙ pins.pinned.each c.args.p.0 (omega (arith, c.requires, pins.pinned.one_each))

pub returns-clause-stays : goal.returns-clause-stays
returns-clause-stays c = λ e (i : Tables) (a0 : List Machine) pins.
    let within : c.args.p.0 < process_count i = omega (arith, c.requires, pins.pinned.one_each) in
    pinned_stay i a0 c.args.p.0 within (sym (returns-clause-value c i a0 pins) ∙ e)
