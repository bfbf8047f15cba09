-- How a journal keeps its entries: packed, so that each takes fewer bytes than an `Entry`.
use Rattle.std.specs.Prelude.{◌<◌, ◌^◌, List, [], ◌∷◌, map}
use Rattle.ra_base.specs.Listed.{Listed}
use Rattle.ra_base.specs.declared.causes.Cause.TheVariants as cause
use Rattle.ra_moves.specs.declared.steps.MoveKind.{MoveKind}
use Rattle.ra_moves.specs.declared.steps.MoveKind.TheVariants.{Shift, Swap, Chain}
use Rattle.ra_moves.specs.declared.steps.Step.{Step}
use Rattle.ra_moves.specs.declared.verdicts.Verdict.{Verdict}
use Rattle.ra_moves.specs.declared.verdicts.Verdict.TheVariants as verdict
use Rattle.ra_journal.specs.declared.entries.Entry.{Entry}
use Rattle.ra_journal.specs.declared.outcomes.Outcome.{Outcome}
use Rattle.ra_journal.specs.declared.outcomes.Outcome.TheVariants as outcome
use Rattle.ra_journal.specs.declared.packed.Packed.{Packed}
use Rattle.ra_journal.specs.SmallSteps.{AreSmallSteps}

-- an entry that can be packed: its worker is below 256, its number and its place are below 2 ^ 32, and the processes
-- and the machines of its steps are below 2 ^ 16
pub record IsSmall (e : Entry) : Type 0 where
  pub worker : e.worker < 256
  pub number : e.k < 2 ^ 32
  pub place : e.q < 2 ^ 32
  pub steps : AreSmallSteps e.mv.steps

-- the verdict that an outcome represents
unfoldable pub verdict_in : Outcome → Verdict
verdict_in (outcome.Done cost) = verdict.Done cost
verdict_in (outcome.Repeat process) = verdict.Refused (cause.Repeat process)
verdict_in (outcome.Same process) = verdict.Refused (cause.Same process)
verdict_in (outcome.Capacity machine resource used cap) =
    verdict.Refused (cause.Capacity machine resource used cap)
verdict_in (outcome.Transient machine resource used cap) =
    verdict.Refused (cause.Transient machine resource used cap)
verdict_in (outcome.Conflict service machine) = verdict.Refused (cause.Conflict service machine)
verdict_in (outcome.Spread service has wants) = verdict.Refused (cause.Spread service has wants)
verdict_in (outcome.Dependency service needs neighbourhood) =
    verdict.Refused (cause.Dependency service needs neighbourhood)
verdict_in (outcome.Rise allowed before after) = verdict.Refused (cause.Rise allowed before after)
verdict_in (outcome.Closed process machine) = verdict.Refused (cause.Closed process machine)

-- the steps of a move of a kind: as many of these three as the kind has
unfoldable pub steps_of_kind : MoveKind → Step → Step → Step → List Step
steps_of_kind Shift one two three = one ∷ []
steps_of_kind Swap one two three = one ∷ two ∷ []
steps_of_kind Chain one two three = one ∷ two ∷ three ∷ []

-- the entry that was packed
unfoldable pub unpacked : Packed → Entry
unpacked p = record {
  worker = p.worker;
  k = p.k;
  q = p.q;
  mv = record { kind = p.kind; steps = steps_of_kind p.kind p.first p.second p.third };
  verdict = verdict_in p.outcome;
}

-- the entries that were packed, with the room for them
abbrev pub unpacked_all : Listed Packed → Listed Entry
unpacked_all packed = record { items = map unpacked packed.items; room = packed.room }
