use Rattle.std.proofs.Common.{arith}
use Rattle.std.proofs.Math.ListN.{drop_of_length-le}
use Rattle.ra_report.proofs.line.Line.clear.Goals as goal

pub returns : goal.returns
returns c = drop_of_length-le c.self.inside.bytes {i = 400} (omega arith)
