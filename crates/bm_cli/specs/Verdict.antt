-- What the design and the waveform of a command say of its answer.
use Rattle.std.specs.Prelude.{◌≡◌, ℕ, List}
use Rattle.bm_base.specs.Held.{Held}
use Rattle.bm_check.specs.Verdicts.{IsVerdict}
use Rattle.bm_check.specs.declared.verdict.Reason.{Reason}
use Rattle.bm_check.specs.declared.verdict.Verdict.TheVariants.{No}
use Rattle.bm_inputs.specs.Files.{HasInput, design_labels, machine_of}
use Rattle.bm_words.specs.Words.{Inputs}
use Rattle.cycle_cut.specs.Cuts.{IsAccepted}
use Rattle.trace_rows.specs.Run.{Violates}
use Rattle.bm_cli.specs.Counted.{accepted_of}
use Rattle.bm_cli.specs.Minimised.{IsMinimised}
use Rattle.bm_cli.specs.declared.answer.Accepted.{Accepted}
use Rattle.bm_cli.specs.declared.answer.Summary.{Summary}

-- No cycle violates.
abbrev pub HasNoViolation : Inputs → Held → Type 0
HasNoViolation inputs held = HasInput inputs held
    (λ design reading. Violates (machine_of inputs design) reading.trace.rows → ⊥)

-- These are the text and the numbers that `minimise` makes.
abbrev pub HasMinimised : Inputs → Held → List ℕ → Summary → Type 0
HasMinimised inputs held text summary = HasInput inputs held (λ design reading.
    IsMinimised (machine_of inputs design) (design_labels inputs design) reading text summary)

-- The trace is accepted, and these are its numbers.
abbrev pub HasCounted : Inputs → Held → Accepted → Type 0
HasCounted inputs held accepted = HasInput inputs held (λ design reading.
    IsAccepted (machine_of inputs design) reading.trace.rows
    × (accepted ≡ accepted_of (machine_of inputs design) reading.trace.rows))

-- This is the first reason against the trace.
abbrev pub HasReason : Inputs → Held → Reason → Type 0
HasReason inputs held reason = HasInput inputs held (λ design reading.
    IsVerdict (machine_of inputs design) reading.trace.rows (No reason))
