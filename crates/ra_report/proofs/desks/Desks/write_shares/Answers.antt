use Rattle.std.proofs.Common.{◌≡◌, length, arith}
use Rattle.ra_report.proofs.ShareLaws.{shares_are_lines, share_on, share_within}
use Rattle.ra_report.proofs.desks.Desks.write_shares.Goals as goal

pub returns-clause-on : goal.returns-clause-on
returns-clause-on g c =
    let on = share_on c.args.entries.now.items c.args.from c.len.result c.requires
    (omega (arith, c.len.ensures, c.write_beside.ensures.count, c.args.self.now.some)) in
    omega (arith, c.share_start.ensures, on)

pub returns-clause-within : goal.returns-clause-within
returns-clause-within g c =
    omega (arith, c.share_start.ensures, share_within c.args.entries.now.items c.args.from c.len.result)

pub returns-clause-lines : goal.returns-clause-lines
returns-clause-lines g c =
    let desks = c.write_beside.new.desks.items in
    let lines = shares_are_lines c.args.entries.now.items c.args.from desks c.requires
    (λ n d below. c.write_beside.ensures.each n d (omega (arith, below, c.write_beside.ensures.count))) in
    let number : c.len.result ≡ length desks = omega (arith, c.len.ensures) in
    rw (c.share_start.ensures, number) lines
