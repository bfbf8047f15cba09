-- What is known of the guards of a plan that is handed in.
use Rattle.std.proofs.Common.{List, Option, Some, None, IfSome}
use Rattle.ra_base.specs.declared.ids.Guard.{Guard}
use Rattle.ra_moves.specs.declared.verdicts.Plan.{Plan}
use Rattle.ra_guards.specs.Order.{AreWrites}
use Rattle.ra_journal.specs.declared.entries.Entry.{Entry}
use Rattle.ra_turn.specs.declared.pass.Pass.{Pass}
use Rattle.ra_turn.specs.declared.story.Story.{Ghosts}
use Rattle.ra_turn.specs.Passes.{grips_of}
use Rattle.ra_shared.specs.declared.books.Book.{Book}
use Rattle.ra_shared.specs.declared.books.Opened.{Opened}
use Rattle.ra_shared.specs.Holding.{HoldsWrites, KnowsGuards, NeedsNoGuard}

module _ {g : Ghosts Book Entry Opened} where
  -- all write guards are locked, or none has to be
  pub by_guards : {R : Type 0} (o : Opened) (plan : Plan) (p : Pass Book Entry Opened g)
      (guards : Option (List Guard)) → KnowsGuards o plan p guards →
      (HoldsWrites o.inst.tables plan.mv.steps plan.q (grips_of p) → R) → (NeedsNoGuard o plan p → R) → R
  by_guards o plan p (Some guards) knows held free = held knows.1
  by_guards o plan p None knows held free = free knows

  -- what follows for the guards that are given
  pub of_given : {P : List Guard → Type 0} (o : Opened) (plan : Plan) (p : Pass Book Entry Opened g)
      (guards : Option (List Guard)) → KnowsGuards o plan p guards →
      ((given : List Guard) → AreWrites o.inst.tables plan.mv.steps given →
      HoldsWrites o.inst.tables plan.mv.steps plan.q (grips_of p) → P given) → IfSome guards P
  of_given o plan p (Some guards) knows follows = follows guards knows.0 knows.1
  of_given o plan p None knows follows = tt
