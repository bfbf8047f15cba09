-- How the writing ended is how the command ends, whatever files there are.
use Rattle.std.proofs.Common.{refl, arith}
use Rattle.ra_jobs.specs.Output.{output}
use Rattle.ra_anneal.proofs.TellLemmas.{tell_broke, tell_done}
use Rattle.ra_anneal.proofs.telling.tell.Goals as goal

pub returns-in-Ok : goal.returns-in-Ok
returns-in-Ok g c =
    λ files left. tell_done c.args.text.now files (output g.O.Sink c.args.out.now c.write_text.new.sink)
    (output g.E.Sink c.args.err.now c.args.err.now) _
    (record {
      of_files = left;
      out_never_falls = c.write_text.ensures.never_falls;
      err_never_falls = omega arith;
    })
    refl c.in-Ok.ensures.whole refl

pub returns-in-Err : goal.returns-in-Err
returns-in-Err g c =
    λ files left. tell_broke c.args.text.now files (output g.O.Sink c.args.out.now c.write_text.new.sink)
    (output g.E.Sink c.args.err.now c.refuse_write.new.err) c.refuse_write.result
    (record {
      of_files = left;
      out_never_falls = c.write_text.ensures.never_falls;
      err_never_falls = c.refuse_write.ensures.never_falls;
    })
    c.refuse_write.ensures.status c.in-Err.ensures.part c.refuse_write.ensures.line
