use Rattle.ra_journal.proofs.TouchedLemmas.{writes_known, touched}
use Rattle.ra_journal.proofs.recording.touch_gathered.Goals as goal

pub touch-requires : goal.touch-requires
touch-requires c = writes_known c.args.inst.now.tables c.args.mv.now.steps c.args.versions.now c.writes-guards.result
    c.args.inst.now.well_formed c.requires.within c.requires.sized c.writes-guards.ensures

pub returns : goal.returns
returns c = touched c.args.inst.now.tables c.args.mv.now.steps c.args.versions.now c.touch.new.self
    c.writes-guards.result c.args.version c.requires.sized c.writes-guards.ensures c.touch.ensures
