-- Errors that are passed on, and what is told of a file that was read twice.
use Rattle.std.proofs.Common.{◌≡◌, ℕ, ◌<◌, ◌≤◌, List, Option, Some, None, Result, Err, IfSome, refl, ◌∙◌, subst, inl, inr, arith}
use Rattle.std.specs.Prelude.{⊤}
use Rattle.ra_io.specs.Faults.{Rose}
use Rattle.ra_token.specs.declared.answers.TheConstants.{LARGEST}
use Rattle.ra_token.specs.declared.answers.TokenFault.{TokenFault}
use Rattle.ra_token.specs.declared.answers.TokenFault.TheVariants.{ReadFault, TooLarge}
use Rattle.ra_token.specs.TokenList.{IsAnswer}
use Rattle.ra_token.specs.Reads.{IsBetween}
use Rattle.ra_token.specs.Scan.{IsReached, Begins, InRun, IsTaken, IsNext, FaultsAt}
use Rattle.ra_token.proofs.Steps.{reached_here, next_of}
use Rattle.ra_token.proofs.Scanning.{KeepsFiles}

-- an error means as much in results of two types
pub same_err : {T U E : Type 0} (x y : E) → ◌≡◌ {A = Result T E} (Err x) (Err y) → ◌≡◌ {A = Result U E} (Err x) (Err y)
same_err x y same = cc

-- a count that had not fallen before it rose
pub rose_later : (before between now : ℕ) → before ≤ between → Rose between now → Rose before now
rose_later before between now low rose =
    elim rose [
      | inl more ↦ inl (omega arith)
      | inr last ↦ inr last
    ]

-- nothing that is held changed in one more call, and no fault was forgotten
pub keeps_on : {held_before held_between held_now : List ℕ → Option (List ℕ)}
    {faults_before faults_between faults_now : List ℕ → ℕ} →
    KeepsFiles held_before held_between faults_before faults_between →
    ((other : List ℕ) → held_now other ≡ held_between other) →
    ((other : List ℕ) → faults_between other ≤ faults_now other) →
    KeepsFiles held_before held_now faults_before faults_now
keeps_on keeps kept never_fell = record {
  kept = λ other. kept other ∙ keeps.kept other;
  never_fell = λ other. omega (arith, keeps.never_fell other, never_fell other);
}

pub keeps_still : (held : List ℕ → Option (List ℕ)) (faults : List ℕ → ℕ) → KeepsFiles held held faults faults
keeps_still held faults = record { kept = λ other. refl; never_fell = λ other. omega arith }

-- a clause that says nothing
pub told_nothing : (told : Option (List ℕ)) → IfSome told (λ _. ⊤)
told_nothing None = tt
told_nothing (Some bytes) = tt

-- a failed fetch is an answer at any place
pub told_unread : (told : Option (List ℕ)) (from : ℕ) (fault : TokenFault) → fault ≡ ReadFault →
    IfSome told (λ bytes. FaultsAt bytes from fault)
told_unread None from fault is = tt
told_unread (Some bytes) from fault is = inl is

-- at the place itself nothing was passed
pub told_stands : (told : Option (List ℕ)) (place : ℕ) → IfSome told (λ bytes. IsBetween bytes place) →
    IfSome told (λ bytes. IsReached bytes place place)
told_stands None place between = tt
told_stands (Some bytes) place between = reached_here bytes place between

-- further over what was read again
pub told_passes : (told told_now : Option (List ℕ)) (from at to : ℕ) → told_now ≡ told →
    IfSome told (λ bytes. IsReached bytes from at) →
    IfSome told_now (λ bytes. IsBetween bytes at → IsReached bytes at to) →
    IfSome told (λ bytes. IsReached bytes from to)
told_passes None told_now from at to same reached passes = tt
told_passes (Some bytes) told_now from at to same reached passes =
    let more = (rw same at passes) reached.between in
    record { between = more.between; given = more.given ∙ reached.given }

-- what holds from between two tokens on
pub told_given : (P Q : List ℕ → Type 0) (told : Option (List ℕ)) → IfSome told (λ bytes. P bytes → Q bytes) →
    IfSome told P → IfSome told Q
told_given P Q None follows holds = tt
told_given P Q (Some bytes) follows holds = follows holds

-- a token that begins at a place begins there, seen from the place itself
pub told_first : (told told_now : Option (List ℕ)) (from at : ℕ) → told_now ≡ told →
    IfSome told (λ bytes. Begins bytes from at) → IfSome told_now (λ bytes. Begins bytes at at)
told_first None told_now from at same begins = rw same tt
told_first (Some bytes) told_now from at same begins =
    rw same (record { reached = reached_here bytes at begins.reached.between; digit = begins.digit })

-- the run that was taken there is the next one
pub told_next : (told told_now : Option (List ℕ)) (from start place value : ℕ) → told_now ≡ told →
    IfSome told (λ bytes. Begins bytes from start) → IfSome told_now (λ bytes. IsTaken bytes start place value) →
    IfSome told (λ bytes. IsNext bytes from start place value)
told_next None told_now from start place value same begins taken = tt
told_next (Some bytes) told_now from start place value same begins taken =
    next_of bytes from start place value begins.reached
    (rw same at taken)

-- a fault there comes next
pub told_refused : (told told_now : Option (List ℕ)) (from at : ℕ) (fault : TokenFault) → told_now ≡ told →
    IfSome told (λ bytes. Begins bytes from at) → IfSome told_now (λ bytes. FaultsAt bytes at fault) →
    IfSome told (λ bytes. FaultsAt bytes from fault)
told_refused None told_now from at fault same begins refused = tt
told_refused (Some bytes) told_now from at fault same begins refused =
    subst (λ n. IsAnswer bytes n (Err fault)) begins.reached.given
    (rw same at refused)

-- a run that goes on over what was read again, and one that gets too large there
pub told_run_on : (told told_now : Option (List ℕ)) (first at value to more : ℕ) → told_now ≡ told →
    IfSome told (λ bytes. InRun bytes first at value) →
    IfSome told_now (λ bytes. (start : ℕ) → InRun bytes start at value → more ≤ LARGEST → InRun bytes start to more) →
    more ≤ LARGEST → IfSome told (λ bytes. InRun bytes first to more)
told_run_on None told_now first at value to more same run goes_on small = tt
told_run_on (Some bytes) told_now first at value to more same run goes_on small =
    (rw same at goes_on) first run small

pub told_run_large : (told told_now : Option (List ℕ)) (first at value more : ℕ) → told_now ≡ told →
    IfSome told (λ bytes. InRun bytes first at value) →
    IfSome told_now (λ bytes. (start : ℕ) → InRun bytes start at value → LARGEST < more →
    FaultsAt bytes start (TooLarge start)) → LARGEST < more →
    IfSome told (λ bytes. FaultsAt bytes first (TooLarge first))
told_run_large None told_now first at value more same run too_large large = tt
told_run_large (Some bytes) told_now first at value more same run too_large large =
    (rw same at too_large) first run large
