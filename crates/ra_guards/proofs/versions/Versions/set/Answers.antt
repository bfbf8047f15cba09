use Rattle.std.proofs.Common.{subst, arith}
use Rattle.ra_guards.proofs.KeptLemmas.{has_machine, has_service, machine_set, service_set, still_at_most}
use Rattle.ra_guards.specs.Kept.{AreAtMost}
use Rattle.ra_guards.proofs.versions.Versions.set.Goals as goal

pub set-requires : goal.set-requires
set-requires c = has_machine c.args.self.now c.self.inside.machines.items c.self.inside.services.items c.args.guard
    c.in-Machine.m c.self.view_is c.requires c.in-Machine.is

pub set-requires-in-Service : goal.set-requires-in-Service
set-requires-in-Service c = has_service c.args.self.now c.self.inside.machines.items c.self.inside.services.items
    c.args.guard c.in-Service.s c.self.view_is c.requires c.in-Service.is

pub returns-in-Machine : goal.returns-in-Machine
returns-in-Machine c = machine_set c.args.self.now c.self.inside.machines.items c.self.inside.services.items
    c.set.new.self.items c.args.guard c.in-Machine.m c.args.version c.self.view_is c.requires c.in-Machine.is
    c.set.ensures.items

pub returns-in-Service : goal.returns-in-Service
returns-in-Service c = service_set c.args.self.now c.self.inside.machines.items c.self.inside.services.items
    c.set-in-Service.new.self.items c.args.guard c.in-Service.s c.args.version c.self.view_is c.requires c.in-Service.is
    c.set-in-Service.ensures.items

pub invariant_of-self : goal.invariant_of-self
invariant_of-self c = still_at_most c.args.self.now _ c.args.guard c.args.version c.self.inside.newest _
    (machine_set c.args.self.now c.self.inside.machines.items c.self.inside.services.items c.set.new.self.items
    c.args.guard c.in-Machine.m c.args.version c.self.view_is c.requires c.in-Machine.is c.set.ensures.items)
    (subst (AreAtMost c.self.inside.newest) c.self.view_is c.self.invariant)
    (omega (arith, c.max-self-inside.ensures))
    (omega (arith, c.max-self-inside.ensures))

pub invariant_of-self-in-Service : goal.invariant_of-self-in-Service
invariant_of-self-in-Service c = still_at_most c.args.self.now _ c.args.guard c.args.version c.self.inside.newest _
    (service_set c.args.self.now c.self.inside.machines.items c.self.inside.services.items
    c.set-in-Service.new.self.items c.args.guard c.in-Service.s c.args.version c.self.view_is c.requires
    c.in-Service.is c.set-in-Service.ensures.items)
    (subst (AreAtMost c.self.inside.newest) c.self.view_is c.self.invariant)
    (omega (arith, c.max-self-inside.ensures))
    (omega (arith, c.max-self-inside.ensures))
