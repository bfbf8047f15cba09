use Rattle.std.proofs.Common.{◌≡◌, ◌∙◌, ap, sym, subst, refl, Err, Result, Some}
use Rattle.std.specs.Result.{IsErrAnd}
use Rattle.ra_words.specs.declared.jobs.WordsFault.{WordsFault}
use Rattle.ra_words.specs.declared.jobs.WordsFault.TheVariants.{NoMemory, Usage}
use Rattle.ra_words.specs.Words.{texts}
use Rattle.ra_anneal.specs.declared.words.Job.{Job}
use Rattle.ra_anneal.proofs.LineForms.{job_help, job_version, job_anneal, job_none}
use Rattle.ra_anneal.proofs.words.read_words.Goals as goal

other_fault : (r : Result Job WordsFault) → IsErrAnd r (λ e. e ≡ NoMemory) → r ≡ Err Usage → ⊥
other_fault r memory usage =
    let h : Usage ≡ NoMemory = subst (λ (r : Result Job WordsFault). IsErrAnd r (λ e. e ≡ NoMemory)) usage memory in cc

pub returns-then-is_help-clause-ok : goal.returns-then-is_help-clause-ok
returns-then-is_help-clause-ok c =
    job_help (texts c.args.words.now) (sym c.is_help.ensures ∙ c.if-is_help.true)

pub returns-then-is_help-clause-usage : goal.returns-then-is_help-clause-usage
returns-then-is_help-clause-usage c = (
  λ usage. absurd (cc),
  λ none. absurd (let some = job_help (texts c.args.words.now) (sym c.is_help.ensures ∙ c.if-is_help.true) in cc),
)

pub returns-then-is_version-clause-ok : goal.returns-then-is_version-clause-ok
returns-then-is_version-clause-ok c =
    job_version (texts c.args.words.now) (sym c.is_help.ensures ∙ c.if-is_help.false)
    (sym c.is_version.ensures ∙ c.if-is_version.true)

pub returns-then-is_version-clause-usage : goal.returns-then-is_version-clause-usage
returns-then-is_version-clause-usage c = (
  λ usage. absurd (cc),
  λ none. absurd (let some = job_version (texts c.args.words.now) (sym c.is_help.ensures ∙ c.if-is_help.false)
      (sym c.is_version.ensures ∙ c.if-is_version.true) in cc),
)

pub returns-then-not-is_anneal-clause-usage : goal.returns-then-not-is_anneal-clause-usage
returns-then-not-is_anneal-clause-usage c = (
  λ usage. job_none (texts c.args.words.now) (sym c.is_help.ensures ∙ c.if-is_help.false)
      (sym c.is_version.ensures ∙ c.if-is_version.false) (sym c.is_anneal.ensures ∙ c.if-not-is_anneal.true),
  λ none. refl,
)

pub returns-in_err-anneal_job-clause-usage : goal.returns-in_err-anneal_job-clause-usage
returns-in_err-anneal_job-clause-usage c = (
  λ usage. absurd (other_fault c.from_residual.result c.from_residual.ensures.1 usage),
  λ none. absurd (let some = job_anneal (texts c.args.words.now) (sym c.is_help.ensures ∙ c.if-is_help.false)
      (sym c.is_version.ensures ∙ c.if-is_version.false) (sym c.is_anneal.ensures ∙ c.if-not-is_anneal.false) in cc),
)

pub returns-clause-ok : goal.returns-clause-ok
returns-clause-ok c =
    job_anneal (texts c.args.words.now) (sym c.is_help.ensures ∙ c.if-is_help.false)
    (sym c.is_version.ensures ∙ c.if-is_version.false) (sym c.is_anneal.ensures ∙ c.if-not-is_anneal.false)
    ∙ ap Some (sym c.in_ok-anneal_job.ensures)

pub returns-clause-usage : goal.returns-clause-usage
returns-clause-usage c = (
  λ usage. absurd (cc),
  λ none. absurd (let some = job_anneal (texts c.args.words.now) (sym c.is_help.ensures ∙ c.if-is_help.false)
      (sym c.is_version.ensures ∙ c.if-is_version.false) (sym c.is_anneal.ensures ∙ c.if-not-is_anneal.false) in cc),
)
