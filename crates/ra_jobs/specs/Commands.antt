-- A command: its files, what it prints and why it refuses, and how it ends. `sent` is a predicate on texts that says
-- how far a text came: the output took it whole, or broke off after a front of it.
use Rattle.std.specs.Prelude.{◌≡◌, ◌⊎◌, ℕ, List}
use Rattle.ra_draws.specs.declared.budgets.Lots.{Lots}
use Rattle.ra_io.specs.Outside.{Reading, Took}
use Rattle.ra_jobs.specs.declared.refusals.Refusal.{Refusal}
use Rattle.ra_jobs.specs.declared.status.Status.{Status}
use Rattle.ra_jobs.specs.declared.status.Status.TheVariants.{Done, NoMemory}
use Rattle.ra_jobs.specs.Comes.{Comes, InfeasibleComes}
use Rattle.ra_jobs.specs.Complete.{AreValid, NoFault}
use Rattle.ra_jobs.specs.Files.{Held, Names}
use Rattle.ra_jobs.specs.Output.{Output, BrokeOff}
use Rattle.ra_jobs.specs.Refusals.{Reason, Judges}

pub record Command : Type 1 where
  -- the names of its files
  pub names : Names
  -- what it has printed if it is done, given what its files hold and how far its text came
  pub prints : Held → (List ℕ → Type 0) → Type 0
  -- why it refuses, given which texts were written fully and which only in part
  pub refuses : Reading → (List ℕ → Type 0) → (List ℕ → Type 0) → Refusal → Type 0
  -- when each of its statuses comes
  pub comes : Reading → Output → Status → Type 0
  -- nothing is wrong with its files, and reading them didn't fail
  pub valid : Reading → Type 0
  -- the statuses with which it ends if its files are valid, apart from failed writing and refused memory
  pub answers : Status → Type 0

-- the part of a command over a model and lists that is its own: its refusals, when their statuses come, and what makes
-- its files valid
pub record OverFiles : Type 1 where
  pub names : Names
  pub prints : Held → (List ℕ → Type 0) → Type 0
  pub refuses : Held → (List ℕ → Type 0) → (List ℕ → Type 0) → Refusal → Type 0
  pub own_comes : Reading → Status → Type 0
  pub valid : Held → Type 0
  pub answers : Status → Type 0

-- when the statuses come that every such command has, and when its own come
pub record OverComes (c : OverFiles) (files : Reading) (out : Output) (status : Status) : Type 0
  where
    pub any :
        Comes files.held c.names files.before files.after
        (c.refuses files.held (Took out.sink) (BrokeOff out.sink)) out.same status
    pub own : c.own_comes files status

-- the whole command: its own part with what is common to all commands over a model and lists
abbrev pub over : OverFiles → Command
over c = record {
  names = c.names;
  prints = c.prints;
  refuses = λ files took broke_off.
      Reason files.held c.names files.before files.after (c.refuses files.held took broke_off);
  comes = OverComes c;
  valid = λ files. c.valid files.held × NoFault c.names files.before files.after;
  answers = c.answers;
}

-- a command whose lists have to be feasible
abbrev pub judged : Names → (Held → (List ℕ → Type 0) → Type 0) → OverFiles
judged names prints = record {
  names = names;
  prints = prints;
  refuses = λ held took broke_off. Judges held names (prints held broke_off);
  own_comes = λ files status. InfeasibleComes files.held names files.before files.after status;
  valid = λ held. AreValid held names;
  answers = λ status. (status ≡ Done) ⊎ (status ≡ NoMemory);
}

-- these are the lots that were asked for. It is a predicate, since there are no lots if memory was refused before they
-- were read
abbrev pub These : Lots → Lots → Type 0
These lots l = l ≡ lots
