-- A sink in memory whose calls fail where told.
use Rattle.std.specs.Prelude.{ℕ, List, [], ◌++◌, take}
use Rattle.bm_base.specs.Counts.{up}
use Rattle.bm_base.specs.Script.{Calls, no_calls, passed}

-- the bytes so far, how many calls failed, and which are to fail
pub record SinkState : Type 0 where
  pub taken : List ℕ
  pub faults : ℕ
  pub script : Calls

abbrev pub empty_sink : SinkState
empty_sink = record { taken = []; faults = 0; script = no_calls }

-- after a call that took the piece
abbrev pub after_put : List ℕ → SinkState → SinkState
after_put piece sink = record sink { taken = sink.taken ++ piece; script = passed sink.script }

-- after a call that failed and kept this much of the piece
abbrev pub after_failed_put : List ℕ → ℕ → SinkState → SinkState
after_failed_put piece keep sink =
    record sink { taken = sink.taken ++ take keep piece; faults = up sink.faults; script = passed sink.script }
