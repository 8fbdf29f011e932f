-- How the steps of a command end.
use Rattle.std.specs.Prelude.{⊤, List, Bool, Result, Ok, Err}
use Rattle.bm_check.specs.Verdicts.{IsVerdict}
use Rattle.bm_check.specs.declared.verdict.Verdict.TheVariants.{No, Yes}
use Rattle.bm_inputs.specs.declared.stop.InputStop.{InputStop}
use Rattle.bm_inputs.specs.declared.stop.InputStop.TheVariants as inputs
use Rattle.bm_minimise.specs.declared.fault.MinFault.{MinFault}
use Rattle.bm_minimise.specs.declared.fault.MinFault.TheVariants as min
use Rattle.trace_rows.specs.Machine.{Machine}
use Rattle.trace_rows.specs.Run.{Violates}
use Rattle.bm_cli.specs.declared.answer.Accepted.{Accepted}
use Rattle.bm_cli.specs.declared.answer.Refusal.TheVariants.{Inputs, Judged, NoViolation}
use Rattle.bm_cli.specs.declared.answer.Stop.{Stop}
use Rattle.bm_cli.specs.declared.answer.Stop.TheVariants.{Memory, ReadFault, Refused}

-- how a command stops where its files give no input
abbrev pub stop_of_inputs : InputStop → Stop
stop_of_inputs (inputs.Refused why) = Refused (Inputs why)
stop_of_inputs inputs.ReadFault = ReadFault
stop_of_inputs inputs.Memory = Memory

-- and where there is no shorter trace
abbrev pub stop_of_shortening : MinFault → Stop
stop_of_shortening min.NoViolation = Refused NoViolation
stop_of_shortening min.Memory = Memory

-- Nothing was reduced, since no cycle violates, or for want of memory.
abbrev pub StopsReducing : Machine → List (List Bool) → Stop → Type 0
StopsReducing machine rows (Refused NoViolation) = Violates machine rows → ⊥
StopsReducing machine rows Memory = ⊤
StopsReducing machine rows other = ⊥

-- The trace is accepted with these numbers, or this is the first reason against it, or there is no memory.
abbrev pub IsJudged : Machine → List (List Bool) → Result Accepted Stop → Type 0
IsJudged machine rows (Ok accepted) = IsVerdict machine rows (Yes accepted.cycles accepted.events)
IsJudged machine rows (Err (Refused (Judged reason))) = IsVerdict machine rows (No reason)
IsJudged machine rows (Err Memory) = ⊤
IsJudged machine rows (Err other) = ⊥
