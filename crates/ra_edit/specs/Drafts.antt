-- A draft: an instance whose processes may have been edited, and two lists of machines for them.
use Rattle.std.specs.Prelude.{ℕ, List}
use Rattle.ra_base.specs.declared.ids.Machine.{Machine}
use Rattle.ra_model.specs.declared.raw.ProcessRow.{ProcessRow}
use Rattle.ra_model.specs.declared.raw.Tables.{Tables}

pub record Drafted : Type 0 where
  -- the instance that the draft started from, of which all but the processes stays
  pub origin : Tables
  -- the processes
  pub rows : List ProcessRow
  -- what they require, by process, then resource
  pub requirements : List ℕ
  -- the initial machine of each process, and its present machine
  pub initial : List Machine
  pub current : List Machine

-- the instance with other processes: all its other lists stay
unfoldable pub with_process_rows : Tables → List ProcessRow → List ℕ → Tables
with_process_rows i rows requirements = record i {
  raw = record i.raw {
    processes = record { items = rows; room = i.raw.processes.room };
    requirements = record { items = requirements; room = i.raw.requirements.room };
  };
}

-- the instance of a draft
abbrev pub instance_of : Drafted → Tables
instance_of d = with_process_rows d.origin d.rows d.requirements

-- the draft of an instance and two lists
abbrev pub draft_of : Tables → List Machine → List Machine → Drafted
draft_of i a0 a =
    record {
      origin = i;
      rows = i.raw.processes.items;
      requirements = i.raw.requirements.items;
      initial = a0;
      current = a;
    }
