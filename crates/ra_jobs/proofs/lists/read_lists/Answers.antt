-- The initial list is refused; or it was read, and the new one is.
use Rattle.std.proofs.Common.{inl, inr}
use Rattle.ra_token.proofs.ToldLemmas.{at_exit}
use Rattle.ra_jobs.specs.declared.refusals.Role.TheVariants as role
use Rattle.ra_jobs.proofs.StageLemmas.{leaves_both, list_later, list_now}
use Rattle.ra_jobs.proofs.lists.read_lists.Goals as goal

pub returns-clause-read : goal.returns-clause-read
returns-clause-read g c = record {
  initial = c.in_ok-initial.ensures.read;
  changed = list_now (g.F.Files.held c.args.files.now) (g.F.Files.held c.read_list.new.files)
      _ c.args.inst.now.tables c.in_ok-changed.changed.items
      c.read_list.ensures.leaves.kept c.in_ok-changed.ensures.read;
}

pub returns-in_err-initial-clause-refused : goal.returns-in_err-initial-clause-refused
returns-in_err-initial-clause-refused g c = at_exit _ _ _ c.from_residual.ensures (inl c.in_err-initial.ensures.refused)

pub returns-in_err-changed-clause-refused : goal.returns-in_err-changed-clause-refused
returns-in_err-changed-clause-refused g c =
    at_exit _ _ _ c.from_residual-in_err-changed.ensures
    (inr (
      c.in_ok-initial.initial.items,
      c.in_ok-initial.ensures.read.0,
      list_later role.Changed (g.F.Files.held c.args.files.now) (g.F.Files.held c.read_list.new.files)
          _ c.args.inst.now.tables
          (g.F.Files.faults c.args.files.now) (g.F.Files.faults c.read_list.new.files)
          (g.F.Files.faults c.read_list-2.new.files) c.read_list.ensures.leaves.kept
          c.read_list.ensures.leaves.never_fall _ c.in_err-changed.ensures.refused,
    ))

pub returns-clause-leaves : goal.returns-clause-leaves
returns-clause-leaves g c = leaves_both c.read_list.ensures.leaves c.read_list-2.ensures.leaves

pub returns-in_err-changed-clause-leaves : goal.returns-in_err-changed-clause-leaves
returns-in_err-changed-clause-leaves g c = leaves_both c.read_list.ensures.leaves c.read_list-2.ensures.leaves
