-- What the rows represent after the shift.
use Rattle.std.proofs.Common.{◌≡◌, ◌<◌, ◌∙◌, List, sym, subst}
use Rattle.ra_base.specs.declared.ids.Machine.{Machine}
use Rattle.ra_model.specs.Numbers.{process_count, machine_count}
use Rattle.ra_rows.specs.Rows.{StandFor, HasAt}
use Rattle.ra_rows.proofs.StandLemmas.{rows_of, used_enough, transient_enough, stand_after, are_rows}
use Rattle.ra_rows.proofs.rows.Rows.shift.Goals as goal

pub shift_rows-requires-clause-used : goal.shift_rows-requires-clause-used
shift_rows-requires-clause-used g c =
    let rows = rows_of c.self.inside.inst.now.tables c.self.inside.a0.now.items c.self.inside.used.items
    c.self.inside.between.items in
    let seen : rows ≡ c.args.self.now = c.self.view_is in
    record {
      grid = c.self.invariant.used_grid;
      below = c.self.invariant.used_below;
      enough = used_enough rows c.args.p.0 c.args.from.0
          (subst (λ v. c.args.p.0 < process_count v.tables) (sym seen) c.requires.process)
          (subst (λ v. HasAt v c.args.p.0 c.args.from.0) (sym seen) c.requires.stands);
    }

pub shift_rows-requires-clause-between : goal.shift_rows-requires-clause-between
shift_rows-requires-clause-between g c =
    let rows = rows_of c.self.inside.inst.now.tables c.self.inside.a0.now.items c.self.inside.used.items
    c.self.inside.between.items in
    let seen : rows ≡ c.args.self.now = c.self.view_is in
    record {
      grid = c.self.invariant.between_grid;
      below = c.self.invariant.between_below;
      enough = transient_enough rows c.args.p.0 c.args.from.0
          (subst (λ v. c.args.p.0 < process_count v.tables) (sym seen) c.requires.process)
          (subst (λ v. HasAt v c.args.p.0 c.args.from.0) (sym seen) c.requires.stands);
    }

pub invariant_of-self : goal.invariant_of-self
invariant_of-self g c =
    let rows = rows_of c.self.inside.inst.now.tables c.self.inside.a0.now.items c.self.inside.used.items
    c.self.inside.between.items in
    let seen : rows ≡ c.args.self.now = c.self.view_is in
    let has = subst (λ v. HasAt v c.args.p.0 c.args.from.0) (sym seen) c.requires.stands in
    are_rows rows.tables rows.start _ c.shift_rows.new.used.items
    c.shift_rows.new.between.items
    c.self.inside.inst.now.well_formed c.self.inside.inst.now.small c.self.invariant.start
    (c.shift_rows.ensures.used.same_length ∙ c.self.invariant.used_grid)
    ((c.shift_rows.ensures.between rows.start (sym c.machine_of-home.ensures)).same_length
    ∙ c.self.invariant.between_grid)
    (stand_after rows.tables rows.start has.assignment c.args.p.0 c.args.from.0 c.args.to rows.used rows.between _ _
    (subst (λ v. c.args.p.0 < process_count v.tables) (sym seen) c.requires.process)
    (subst (λ v. c.args.to.0 < machine_count v.tables) (sym seen) c.requires.to) c.shift_rows.ensures.used
    (c.shift_rows.ensures.between rows.start (sym c.machine_of-home.ensures)) has.stands has.at)

pub returns-clause-stands : goal.returns-clause-stands
returns-clause-stands g c = λ (a : List Machine) stands is.
    let rows = rows_of c.self.inside.inst.now.tables c.self.inside.a0.now.items c.self.inside.used.items
    c.self.inside.between.items in
    let seen : rows ≡ c.args.self.now = c.self.view_is in
    stand_after rows.tables rows.start a c.args.p.0 c.args.from.0 c.args.to rows.used rows.between _ _
    (subst (λ v. c.args.p.0 < process_count v.tables) (sym seen) c.requires.process)
    (subst (λ v. c.args.to.0 < machine_count v.tables) (sym seen) c.requires.to)
    c.shift_rows.ensures.used (c.shift_rows.ensures.between rows.start (sym c.machine_of-home.ensures))
    (subst (λ v. StandFor v a) (sym seen) stands) is
