use Rattle.ra_guards.proofs.KeptLemmas.{has_machine, has_service, machine_read, service_read}
use Rattle.ra_guards.proofs.versions.Versions.of.Goals as goal

pub get-requires : goal.get-requires
get-requires c = has_machine c.args.self.now c.self.inside.machines.items c.self.inside.services.items c.args.guard
    c.in-Machine.m c.self.view_is c.requires c.in-Machine.is

pub get-requires-in-Service : goal.get-requires-in-Service
get-requires-in-Service c = has_service c.args.self.now c.self.inside.machines.items c.self.inside.services.items
    c.args.guard c.in-Service.s c.self.view_is c.requires c.in-Service.is

pub returns-in-Machine : goal.returns-in-Machine
returns-in-Machine c = machine_read c.args.self.now c.self.inside.machines.items c.self.inside.services.items
    c.args.guard c.in-Machine.m c.get.result c.self.view_is c.requires c.in-Machine.is c.get.ensures

pub returns-in-Service : goal.returns-in-Service
returns-in-Service c = service_read c.args.self.now c.self.inside.machines.items c.self.inside.services.items
    c.args.guard c.in-Service.s c.get-in-Service.result c.self.view_is c.requires c.in-Service.is
    c.get-in-Service.ensures
