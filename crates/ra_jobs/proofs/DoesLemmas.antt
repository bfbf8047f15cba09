-- What a command does, from how it ends.
use Rattle.std.proofs.Common.{◌≡◌, ◌≤◌, List, ℕ, false, Result, Ok, Err, OnOk, IsErr, IsErrAnd, inr}
use Rattle.ra_io.specs.Outside.{Reading, LeavesFiles, Took, WriteFailed}
use Rattle.ra_token.proofs.ToldLemmas.{at_exit}
use Rattle.ra_jobs.specs.declared.refusals.File.TheVariants as file
use Rattle.ra_jobs.specs.declared.refusals.Refusal.{Refusal}
use Rattle.ra_jobs.specs.declared.refusals.Refusal.TheVariants.{Memory, Write}
use Rattle.ra_jobs.specs.declared.status.Status.{Status}
use Rattle.ra_jobs.specs.declared.status.Status.TheVariants.{NoMemory}
use Rattle.ra_jobs.specs.Comes.{Comes, InfeasibleComes}
use Rattle.ra_jobs.specs.Commands.{Command, OverFiles, over, judged}
use Rattle.ra_jobs.specs.Complete.{NoFault}
use Rattle.ra_jobs.specs.Ends.{Does, Tries, Finishes, Leaves, puts_first}
use Rattle.ra_jobs.specs.Files.{Held, Faults, Names, EndsAt}
use Rattle.ra_jobs.specs.Lines.{refusal_line}
use Rattle.ra_jobs.specs.Output.{Output, BrokeOff, Put}
use Rattle.ra_jobs.specs.Outputs.{CheckPrinted, BoundPrinted, checked, bounded}
use Rattle.ra_jobs.proofs.CompleteLemmas.{complete, judges_none, writes_none}
use Rattle.ra_jobs.proofs.ComesLemmas.{Listed, Went, comes, infeasible_comes, judges_listed, printed_went, bound_listed, writes_listed, never_infeasible}
use Rattle.ra_jobs.proofs.EndLemmas.{EndsOver, ends_memory, ends_otherwise, finished, left_so}
use Rattle.ra_jobs.proofs.StageLemmas.{reason_more}

not_ok : (ended : Result (Unit {0}) Refusal) (follows : Type 0) → IsErr ended → OnOk ended follows
not_ok (Ok x) follows err = absurd (cc)
not_ok (Err e) follows err = tt

module _ (c : Command) (files : Reading) (out : Output) (ended : Result (Unit {0}) Refusal) where
  -- the end of a stage at a `?`, before anything was put
  pub not_tried : (refusal : Refusal) →
      IsErr ended × IsErrAnd ended (λ e. e ≡ refusal) → c.refuses files (Took out.sink) (BrokeOff out.sink) refusal →
      out.same → LeavesFiles files → out.sink.before ≤ out.sink.after → Tries c files out ended
  not_tried refusal exit reason same left counts = record {
    printed = not_ok ended (c.prints files.held (Took out.sink)) exit.0;
    refused = at_exit ended (c.refuses files (Took out.sink) _) refusal exit reason;
    no_output = at_exit ended (λ r. puts_first r ≡ false → out.same) refusal exit (λ _. same);
    leaves = left;
    never_falls = counts;
  }

  -- the end of a stage at a `?`, if the output broke off
  pub not_written_whole : IsErr ended × IsErrAnd ended (λ e. e ≡ Write) →
      c.refuses files (Took out.sink) (BrokeOff out.sink) Write → LeavesFiles files → out.sink.before ≤ out.sink.after →
      Tries c files out ended
  not_written_whole exit reason left counts = record {
    printed = not_ok ended (c.prints files.held (Took out.sink)) exit.0;
    refused = at_exit ended (c.refuses files (Took out.sink) _) Write exit reason;
    no_output = at_exit ended (λ r. puts_first r ≡ false → out.same) Write exit (λ first. absurd cc);
    leaves = left;
    never_falls = counts;
  }

-- from how it ends: `listed` says of its output and of its own refusals that they come after all lists
pub does_so : (c : OverFiles) (files : Reading) (out err : Output) (status : Status) → EndsOver c files out err status →
    (c.prints files.held (Took out.sink) → Listed files.held c.names) →
    ((r : Refusal) → c.refuses files.held (Took out.sink) (BrokeOff out.sink) r → Listed files.held c.names) →
    c.own_comes files status → (c.valid files.held → NoFault c.names files.before files.after → (WriteFailed out.sink →
    ⊥) → c.answers status) → Leaves files out err → Does (over c) files out err status
does_so c files out err status ends printed listed own completes leaves = record {
  printed = ends.printed;
  no_line = ends.no_line;
  refused = λ other. let r = ends.refused other in record {
    refusal = r.refusal;
    reason = r.reason;
    is = r.is;
    line = r.line;
    no_output = r.no_output;
  };
  not_usage = ends_otherwise ends;
  comes = record { any = comes ends printed listed; own = own };
  complete = λ valid wrote. completes valid.0 valid.1 wrote;
  leaves = leaves;
}

-- what is done over some names is done over the same names
pub does_for : (word : Names → OverFiles) (names these : Names) (files : Reading) (out err : Output) (status : Status) →
    names ≡ these → Does (over (word names)) files out err status → Does (over (word these)) files out err status
does_for word names these files out err status same does =
    rw (← same) does

module _ (held : Held) (names : Names) (before now : Faults) where
  -- if memory was refused before a file was read
  pub infeasible_not : (status : Status) → status ≡ NoMemory → InfeasibleComes held names before now status
  infeasible_not status is = record {
    only = λ e. cc;
    always = λ known cause. inr is;
  }

  comes_not : (own : Refusal → Type 0) (out_same : Type 0) (status : Status) → status ≡ NoMemory → out_same →
      Comes held names before now own out_same status
  comes_not own out_same status is same = record {
    read_fault = λ e. cc;
    bad_model = record {
      only = λ e. cc;
      always = λ known cause. inr is;
    };
    bad_closed = record {
      only = λ e. cc;
      always = λ known cause. inr is;
    };
    bad_assignment = record {
      only = λ e. cc;
      always = λ which known cause. inr is;
    };
    write_fault = λ e. cc;
    no_output = λ _ _ _. same;
  }

  -- more is so of a command's own

  comes_more : (own more : Refusal → Type 0) (out_same : Type 0) (status : Status) → ((r : Refusal) → own r → more r) →
      Comes held names before now own out_same status → Comes held names before now more out_same status
  comes_more own more out_same status step v = record {
    read_fault = v.read_fault;
    bad_model = v.bad_model;
    bad_closed = v.bad_closed;
    bad_assignment = v.bad_assignment;
    write_fault = λ e. step Write (v.write_fault e);
    no_output = v.no_output;
  }

pub memory_refused : (c : OverFiles) (files : Reading) (out err : Output) (status : Status) → status ≡ NoMemory →
    ((names : Names) → Put err.sink (refusal_line names Memory)) → out.same → Leaves files out err →
    c.own_comes files status → c.answers status → Does (over c) files out err status
memory_refused c files out err status is line same leaves own answers =
    let ends : EndsOver c files out err status = ends_memory files.held c.names files.before files.after _ _
    (Put err.sink) out.same err.same status is (line c.names) same in
    record {
      printed = ends.printed;
      no_line = ends.no_line;
      refused = λ other. let r = ends.refused other in record {
        refusal = r.refusal;
        reason = r.reason;
        is = r.is;
        line = r.line;
        no_output = r.no_output;
      };
      not_usage = ends_otherwise ends;
      comes = record {
        any = comes_not files.held c.names files.before files.after _ out.same status is same;
        own = own;
      };
      complete = λ valid wrote. answers;
      leaves = leaves;
    }

module _ (names : Names) where
  module _ (prints : Held → (List ℕ → Type 0) → Type 0) where
    -- of a command whose lists have to be feasible: `went` says of what was printed, whole or in part, that they are, and
    -- `text` that a text went so
    pub judged_so : (files : Reading) (out err : Output) (ended : Result (Unit {0}) Refusal) (status : Status) →
        Tries (over (judged names prints)) files out ended → Finishes names ended err status →
        ((sent : List ℕ → Type 0) → prints files.held sent → Went files.held names) → ((sent : List ℕ → Type 0) →
        prints files.held sent → (text : List ℕ) × sent text) → Does (over (judged names prints)) files out err status
    judged_so files out err ended status tries finishes went text =
        let c = judged names prints in
        let ends = finished c files out err ended status tries finishes in
        let written = prints files.held _ in
        does_so c files out err status ends
        (λ p. (went _ p).listed)
        (judges_listed files.held names written (went _))
        (infeasible_comes ends (went _) (went _))
        (λ valid sound wrote.
        complete ends valid.accepted sound
        (judges_none files.held names written valid (λ broken. wrote (text _ broken).1.1)))
        (left_so c files out err ended status tries finishes)

    pub judged_memory : (files : Reading) (out err : Output) (status : Status) → status ≡ NoMemory → ((names : Names) →
        Put err.sink (refusal_line names Memory)) → out.same → Leaves files out err →
        Does (over (judged names prints)) files out err status
    judged_memory files out err status is line same leaves =
        memory_refused (judged names prints) files out err status is line same leaves
        (infeasible_not files.held names files.before files.after status is) (inr is)

    -- a command over the same files
    pub does_more : (prints_more : Held → (List ℕ → Type 0) → Type 0) (own own_more : Held → (List ℕ → Type 0) →
        (List ℕ → Type 0) → Refusal → Type 0) (own_comes own_comes_more : Reading → Status → Type 0) (valid : Held →
        Type 0) (answers : Status → Type 0) (files : Reading) (out err : Output) (status : Status) →
        (prints files.held (Took out.sink) → prints_more files.held (Took out.sink)) →
        ((r : Refusal) → own files.held (Took out.sink) (BrokeOff out.sink) r → own_more files.held (Took out.sink)
        (BrokeOff out.sink) r) → (own_comes files status → own_comes_more files status) →
        Does (over (record {
          names = names;
          prints = prints;
          refuses = own;
          own_comes = own_comes;
          valid = valid;
          answers = answers;
        })) files out err status → Does (over (record {
          names = names;
          prints = prints_more;
          refuses = own_more;
          own_comes = own_comes_more;
          valid = valid;
          answers = answers;
        })) files out err status
    does_more prints_more own own_more own_comes own_comes_more valid answers files out err status printed
        refuses comes does =
        let said = own files.held (Took out.sink) (BrokeOff out.sink) in
        let more = own_more files.held (Took out.sink) (BrokeOff out.sink) in
        record {
          printed = λ done. printed (does.printed done);
          no_line = does.no_line;
          refused = λ other. let r = does.refused other in record {
            refusal = r.refusal;
            reason = reason_more files.held names files.before files.after said more refuses r.refusal r.reason;
            is = r.is;
            line = r.line;
            no_output = r.no_output;
          };
          not_usage = does.not_usage;
          comes = record {
            any = comes_more files.held names files.before files.after said more out.same status refuses does.comes.any;
            own = comes does.comes.own;
          };
          complete = does.complete;
          leaves = does.leaves;
        }

  pub check_so : (files : Reading) (out err : Output) (ended : Result (Unit {0}) Refusal) (status : Status) →
      Tries (over (checked names)) files out ended → Finishes names ended err status →
      Does (over (checked names)) files out err status
  check_so files out err ended status tries finishes =
      judged_so (λ held sent. CheckPrinted held names sent) files out err ended status tries finishes
      (λ sent p. printed_went files.held names sent p) (λ sent p. (_, p.text))

  pub bound_so : EndsAt names file.Initial → (files : Reading) (out err : Output)
      (ended : Result (Unit {0}) Refusal) (status : Status) → Tries (over (bounded names)) files out ended →
      Finishes names ended err status → Does (over (bounded names)) files out err status
  bound_so last files out err ended status tries finishes =
      let c = bounded names in
      let ends = finished c files out err ended status tries finishes in
      let written = BoundPrinted files.held names _ in
      does_so c files out err status ends
      (bound_listed files.held names last (Took out.sink))
      (writes_listed files.held names written (bound_listed files.held names last _))
      (never_infeasible ends)
      (λ valid sound wrote. complete ends valid sound (writes_none written (λ broken. wrote broken.text.1)))
      (left_so c files out err ended status tries finishes)

  pub bound_memory : (files : Reading) (out err : Output) (status : Status) → status ≡ NoMemory →
      ((names : Names) → Put err.sink (refusal_line names Memory)) → out.same → Leaves files out err →
      Does (over (bounded names)) files out err status
  bound_memory files out err status is line same leaves =
      memory_refused (bounded names) files out err status is line same leaves
      (λ e. cc) (inr is)
