-- How a command ends, from how its stages end.
use Rattle.std.proofs.Common.{◌≡◌, ◌≢◌, List, ℕ, false, Result, Ok, Err, OnOk, IfErr, refl, sym, ◌∙◌, subst}
use Rattle.ra_io.specs.Outside.{Reading, Took}
use Rattle.ra_jobs.specs.declared.refusals.Refusal.{Refusal}
use Rattle.ra_jobs.specs.declared.refusals.Refusal.TheVariants.{Read, Write, Memory}
use Rattle.ra_jobs.specs.declared.status.Status.{Status}
use Rattle.ra_jobs.specs.declared.status.Status.TheVariants.{Done, Usage, NoMemory}
use Rattle.ra_jobs.specs.Commands.{OverFiles, over}
use Rattle.ra_jobs.specs.Files.{Held, Faults, Names}
use Rattle.ra_jobs.specs.Refusals.{Reason}
use Rattle.ra_jobs.specs.Ends.{Does, Tries, Finishes, Leaves, puts_first}
use Rattle.ra_jobs.specs.Lines.{refusal_line}
use Rattle.ra_jobs.specs.Output.{Output, BrokeOff, Put}
use Rattle.ra_jobs.specs.Statuses.{status_of}

-- `Refused` and the first fields of `Does` by parts, from which the others follow: what the output tells, and the
-- reasons of a command's own refusals
pub record IsRefused (held : Held) (names : Names) (before now : Faults) (own : Refusal → Type 0)
    (tells : List ℕ → Type 0) (out_same : Type 0) (status : Status) : Type 0 where
  pub refusal : Refusal
  pub reason : Reason held names before now own refusal
  pub is : status ≡ status_of refusal
  pub line : tells (refusal_line names refusal)
  pub no_output : puts_first refusal ≡ false → out_same

pub record Ends (held : Held) (names : Names) (before now : Faults) (output : Type 0) (own : Refusal → Type 0)
    (tells : List ℕ → Type 0) (out_same err_same : Type 0) (status : Status) : Type 0 where
  pub printed : status ≡ Done → output
  pub no_line : status ≡ Done → err_same
  pub refused : status ≢ Done → IsRefused held names before now own tells out_same status

abbrev pub EndsOver : OverFiles → Reading → Output → Output → Status → Type 0
EndsOver c files out err status = Ends files.held c.names files.before files.after (c.prints files.held (Took out.sink))
    (c.refuses files.held (Took out.sink) (BrokeOff out.sink)) (Put err.sink) out.same err.same status

-- no refusal is done, and none is of the words
never_done : (refusal : Refusal) → status_of refusal ≢ Done
unfolding status_of
never_done (Read f) e = cc
never_done refusal e = cc

never_usage : (refusal : Refusal) → status_of refusal ≢ Usage
unfolding status_of
never_usage (Read f) e = cc
never_usage refusal e = cc

-- a failed writing comes after a part of the output
pub not_write : (refusal : Refusal) → puts_first refusal ≡ false → refusal ≢ Write
not_write refusal nothing e = cc (subst (λ r. puts_first r ≡ false) e nothing)

module _ (held : Held) (names : Names) (before now : Faults) (printed : Type 0) (own : Refusal →
    Type 0) (tells : List ℕ → Type 0) (out_same err_same : Type 0) where
  ends_refused : (refusal : Refusal) (status : Status) →
      Reason held names before now own refusal → status ≡ status_of refusal → tells (refusal_line names refusal) →
      (puts_first refusal ≡ false → out_same) → Ends held names before now printed own tells out_same err_same status
  ends_refused refusal status reason is line no_output =
      record {
        printed = λ done. absurd (never_done refusal (sym is ∙ done));
        no_line = λ done. absurd (never_done refusal (sym is ∙ done));
        refused = λ _. record { refusal = refusal; reason = reason; is = is; line = line; no_output = no_output };
      }

  -- a command ends as its result was finished
  ends_so : (ended : Result (Unit {0}) Refusal) (status : Status) →
      OnOk ended printed → IfErr ended (Reason held names before now own) →
      IfErr ended (λ refusal. puts_first refusal ≡ false → out_same) → (ended ≡ Ok tt → status ≡ Done) →
      (ended ≡ Ok tt → err_same) → IfErr ended (λ refusal. status ≡ status_of refusal) →
      IfErr ended (λ refusal. tells (refusal_line names refusal)) →
      Ends held names before now printed own tells out_same err_same status
  ends_so (Ok tt) status output reason no_output done no_line is
      line = record {
        printed = λ _. output;
        no_line = λ _. no_line refl;
        refused = λ other. absurd (other (done refl));
      }
  ends_so (Err refusal) status output reason no_output done
      no_line is line =
      ends_refused refusal status reason is line no_output

  -- if memory was refused before a file was read
  pub ends_memory : (status : Status) → status ≡ NoMemory → tells (refusal_line names Memory) → out_same →
      Ends held names before now printed own tells out_same err_same status
  unfolding status_of
  ends_memory status is line no_output =
      ends_refused Memory status tt is line (λ _. no_output)

module _ (c : OverFiles) (files : Reading) (out err : Output) where
  module _ (ended : Result (Unit {0}) Refusal) (status : Status) (tries : Tries (over c) files out ended)
      (finishes : Finishes c.names ended err status) where
    pub finished : EndsOver c files out err status
    finished =
        ends_so files.held c.names files.before files.after (c.prints files.held (Took out.sink))
        (c.refuses files.held (Took out.sink) _) _ out.same err.same ended status
        tries.printed tries.refused tries.no_output finishes.done finishes.no_line finishes.is finishes.line

    pub left_so : Leaves files out err
    left_so = record {
      of_files = tries.leaves;
      out_never_falls = tries.never_falls;
      err_never_falls = finishes.never_falls;
    }

  -- what a command does, by parts
  pub ends_of : (status : Status) → Does (over c) files out err status → EndsOver c files out err status
  ends_of status does = record {
    printed = does.printed;
    no_line = does.no_line;
    refused = λ other. let r = does.refused other in record {
      refusal = r.refusal;
      reason = r.reason;
      is = r.is;
      line = r.line;
      no_output = r.no_output;
    };
  }

-- a command that is served never ends with a usage fault
pub ends_otherwise : {held : Held} {names : Names} {before now : Faults} {printed : Type 0} {own : Refusal → Type 0}
    {tells : List ℕ → Type 0} {out_same err_same : Type 0} {status : Status} →
    Ends held names before now printed own tells out_same err_same status → status ≢ Usage
ends_otherwise {held} {names} {before} {now} {printed} {own} {tells} {out_same} {err_same} {status} ends usage =
    let refused = ends.refused (λ done. cc) in
    never_usage refused.refusal (sym refused.is ∙ usage)
