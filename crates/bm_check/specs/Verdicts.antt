-- What is found of a trace.
use Rattle.std.specs.Prelude.{◌≡◌, List, Bool, length}
use Rattle.trace_rows.specs.Events.{event_count}
use Rattle.trace_rows.specs.Machine.{Machine}
use Rattle.trace_rows.specs.Run.{IsFirstAtLast}
use Rattle.cycle_cut.specs.Cuts.{HasLeastCut, IsAccepted}
use Rattle.bm_check.specs.declared.verdict.Reason.TheVariants.{Cut, NotFirstAtLast}
use Rattle.bm_check.specs.declared.verdict.Verdict.{Verdict}
use Rattle.bm_check.specs.declared.verdict.Verdict.TheVariants.{No, Yes}

-- A trace that is accepted is told with its numbers of cycles and events. Else the first rule that it breaks is told: it
-- does not violate first at its last cycle, or it does and this is its first cycle that can go.
abbrev pub IsVerdict : Machine → List (List Bool) → Verdict → Type 0
IsVerdict machine rows (Yes cycles events) =
    IsAccepted machine rows × (cycles ≡ length rows) × (events ≡ event_count machine.base rows)
IsVerdict machine rows (No NotFirstAtLast) = IsFirstAtLast machine rows → ⊥
IsVerdict machine rows (No (Cut cycle)) = HasLeastCut machine rows cycle
