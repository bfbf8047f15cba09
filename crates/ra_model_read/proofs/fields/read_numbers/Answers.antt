use Rattle.std.proofs.Common.{◌-◌, ap, Err, IfSome, length, subst, arith}
use Rattle.ra_token.specs.Values.{AddsValues}
use Rattle.ra_token.proofs.ToldLemmas.{told_then}
use Rattle.ra_model_read.proofs.NextToken.{goes_values}
use Rattle.ra_model_read.proofs.NextNumbers.{gives_numbers, refuses_few, refuses_fault}
use Rattle.ra_model_read.proofs.fields.read_numbers.Goals as goal

pub returns-in-Ok-clause-refuses : goal.returns-in-Ok-clause-refuses
returns-in-Ok-clause-refuses g c =
    let told = g.F.Files.held c.args.files.now c.args.tokens.now.name in
    refuses_few _ _ c.in-Ok.taken _ _ c.next_values.new.values.items _ _ (goes_values c.next_values.ensures)
    (omega arith) c.in-Ok.ensures.number
    (subst (λ n.
    IfSome told (λ bytes. AddsValues bytes c.args.tokens.now.place c.next_values.new.self.place n
    c.args.table.now.items c.next_values.new.values.items)) (omega (arith, c.in-Ok.ensures.number))
    c.next_values.ensures.adds)
    (told_then told c.in-Ok.ensures.ended (λ bytes ended. ended c.if-taken-count.true))

pub returns-in-Ok-2-clause-gives : goal.returns-in-Ok-2-clause-gives
returns-in-Ok-2-clause-gives g c =
    let told = g.F.Files.held c.args.files.now c.args.tokens.now.name in
    gives_numbers _ _ c.args.count _ c.next_values.new.values.items _ _ (goes_values c.next_values.ensures)
    (omega (arith, c.in-Ok.ensures.number, c.next_values.ensures.most))
    (subst (λ n.
    IfSome told (λ bytes. AddsValues bytes c.args.tokens.now.place c.next_values.new.self.place n
    c.args.table.now.items c.next_values.new.values.items))
    (omega (arith, c.in-Ok.ensures.number, c.next_values.ensures.most)) c.next_values.ensures.adds)

pub returns-in-Err-clause-refuses : goal.returns-in-Err-clause-refuses
returns-in-Err-clause-refuses g c =
    refuses_fault _ _ (length c.next_values.new.values.items - length c.args.table.now.items) _ _
    c.next_values.new.values.items _ _ c.in-Err.fault _ c.model_fault.ensures
    (goes_values c.next_values.ensures)
    (omega (arith, c.in-Err.ensures.short)) (omega (arith, c.next_values.ensures.grows))
    c.next_values.ensures.adds c.in-Err.ensures.refused (λ e. c.in-Err.ensures.fault (ap Err e))
