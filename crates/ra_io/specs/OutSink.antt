-- How often a writer failed.
use Rattle.std.specs.Prelude.{ℕ, ◌^◌, ◌<◌}
use Rattle.ra_io.specs.declared.streams.OutSink.{OutSink}

module _ {W : Type 0} where
  abbrev pub faults : OutSink W → ℕ
  faults sink = sink.faults.value

  pub counted : (sink : OutSink W) → faults sink < 2 ^ 64
  counted sink = sink.faults.small
