-- The cycles and events that a command prints.
use Rattle.std.specs.Prelude.{ℕ, List, Bool, length}
use Rattle.trace_rows.specs.Events.{event_count}
use Rattle.trace_rows.specs.Machine.{Machine}
use Rattle.bm_cli.specs.declared.answer.Accepted.{Accepted}
use Rattle.bm_cli.specs.declared.answer.Summary.{Summary}

-- how many events a trace has, from the row before the first on
abbrev pub events_of : Machine → List (List Bool) → ℕ
events_of machine rows = event_count machine.base rows

-- those of the stimulus, with its count of unknown bits, and those of the trace that was made of it
abbrev pub summary_of : Machine → List (List Bool) → ℕ → List (List Bool) → Summary
summary_of machine rows unknown trace = record {
  cycles_before = length rows;
  events_before = events_of machine rows;
  cycles = length trace;
  events = events_of machine trace;
  unknown = unknown;
}

-- those of a trace
abbrev pub accepted_of : Machine → List (List Bool) → Accepted
accepted_of machine rows = record { cycles = length rows; events = events_of machine rows }
