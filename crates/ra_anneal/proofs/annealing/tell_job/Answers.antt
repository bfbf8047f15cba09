-- No file is touched.
use Rattle.std.proofs.Common.{refl, arith}
use Rattle.ra_io.specs.Outside.{reading}
use Rattle.ra_anneal.proofs.annealing.tell_job.Goals as goal

pub returns : goal.returns
returns g c =
    c.tell.ensures (reading g.F.Files c.args.outside.files.now c.args.outside.files.now) (record {
      kept = λ other. refl;
      never_fall = λ other. omega arith;
    })
