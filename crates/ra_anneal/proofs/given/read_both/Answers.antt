use Rattle.std.proofs.Common.{◌≡◌, Option, Some, None, List, ℕ, IsSome}
use Rattle.ra_token.proofs.ToldLemmas.{at_exit}
use Rattle.ra_jobs.specs.Files.{names_of}
use Rattle.ra_jobs.specs.Refusals.{Nothing}
use Rattle.ra_jobs.proofs.StageLemmas.{accepts_all, reason_lists, reason_source}
use Rattle.ra_anneal.proofs.given.read_both.Goals as goal

not_none : (named : Option (List ℕ)) → IsSome named → named ≡ None → ⊥
not_none None some none = absurd cc
not_none (Some name) some none = cc

pub returns-clause-read : goal.returns-clause-read
returns-clause-read g c =
    let names = names_of c.args.names.now in
    let lists = c.in_ok-initial.ensures.read in
    record {
      accepts = accepts_all (g.F.Files.held c.args.files.now) (g.F.Files.held c.read_instance.new.files) names
          c.in_ok-inst.inst.tables c.in_ok-initial.field-0.initial.items
          c.in_ok-initial.field-0.changed.items
          c.read_instance.ensures.leaves.kept c.requires.initial c.requires.changed c.in_ok-inst.ensures.read lists;
      initial_fits = lists.initial.1;
      from_fits = lists.changed.1;
      begins = λ none. absurd (not_none names.changed c.requires.changed none);
    }

pub returns-in_err-initial-clause-refused : goal.returns-in_err-initial-clause-refused
returns-in_err-initial-clause-refused g c =
    at_exit _ _ _ c.from_residual-in_err-initial.ensures
    (reason_lists (g.F.Files.held c.args.files.now) (g.F.Files.held c.read_instance.new.files)
    (names_of c.args.names.now) c.in_ok-inst.inst.tables
    (g.F.Files.faults c.args.files.now) (g.F.Files.faults c.read_instance.new.files)
    (g.F.Files.faults c.read_lists.new.files) Nothing c.read_instance.ensures.leaves.kept
    c.read_instance.ensures.leaves.never_fall c.requires.initial c.requires.changed c.in_ok-inst.ensures.read _
    c.in_err-initial.ensures.refused)

pub returns-in_err-inst-clause-refused : goal.returns-in_err-inst-clause-refused
returns-in_err-inst-clause-refused g c =
    at_exit _ _ _ c.from_residual.ensures
    (reason_source (g.F.Files.held c.args.files.now) (names_of c.args.names.now)
    (g.F.Files.faults c.args.files.now) (g.F.Files.faults c.read_instance.new.files) Nothing _
    c.in_err-inst.ensures.refused)
