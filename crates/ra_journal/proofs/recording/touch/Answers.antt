use Rattle.ra_journal.proofs.TouchedLemmas.{writes_known, touched}
use Rattle.ra_journal.proofs.recording.touch.Goals as goal

pub touch-requires : goal.touch-requires
touch-requires c = writes_known c.args.inst.now.tables c.args.mv.now.steps c.args.versions.now c.in-Some.guards.now
    c.args.inst.now.well_formed c.requires.within c.requires.sized (rw c.in-Some.is at c.requires.held)

pub returns-in-Some : goal.returns-in-Some
returns-in-Some c = touched c.args.inst.now.tables c.args.mv.now.steps c.args.versions.now c.touch.new.self
    c.in-Some.guards.now c.args.version c.requires.sized (rw c.in-Some.is at c.requires.held) c.touch.ensures
