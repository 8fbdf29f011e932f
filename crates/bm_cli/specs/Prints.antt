-- What is printed, and the status that comes of it.
use Rattle.std.specs.Prelude.{◌≡◌, ◌⊎◌, ℕ, List, ◌++◌, Option, Result, Ok, Err, take}
use Rattle.std.specs.Option.{option_map}
use Rattle.bm_base.specs.declared.status.Status.{Status}
use Rattle.bm_base.specs.declared.status.Status.TheVariants as status
use Rattle.bm_inputs.specs.Lines.{read_fault_line}
use Rattle.bm_cli.specs.Answer.{line_of, refusal_line, refusal_status, status_of}
use Rattle.bm_cli.specs.declared.answer.Answer.{Answer}
use Rattle.bm_cli.specs.declared.answer.Stop.{Stop}
use Rattle.bm_cli.specs.declared.answer.Stop.TheVariants.{Refused, ReadFault, WriteFault, Memory}

-- The sink has this line more.
abbrev pub GainsLine : List ℕ → Option (List ℕ) → Option (List ℕ) → Type 0
GainsLine line taken taken_now = taken_now ≡ option_map (λ bytes. bytes ++ line) taken

-- The sink has a prefix of this line more.
abbrev pub GainsPart : List ℕ → Option (List ℕ) → Option (List ℕ) → Type 0
GainsPart line taken taken_now = (kept : ℕ) × GainsLine (take kept line) taken taken_now

-- The line is printed, and the result is its status; or the sink failed, which has this cause, or there was no memory,
-- and a prefix of the line is printed.
abbrev pub Prints : Status → List ℕ → Status → Type 0 → Option (List ℕ) → Option (List ℕ) → Type 0
Prints own line result cause taken taken_now =
    ((result ≡ own) × GainsLine line taken taken_now)
    ⊎ (((result ≡ status.WriteFault) × cause × GainsPart line taken taken_now)
    ⊎ ((result ≡ status.Memory) × GainsPart line taken taken_now))

-- the same by how a command ends: after a failed write, and where there was no memory, nothing is printed
abbrev pub PrintsEnd : Result Answer Stop → Status → Type 0 → Option (List ℕ) → Option (List ℕ) → Type 0
PrintsEnd (Ok answer) result cause taken taken_now =
    Prints (status_of answer) (line_of answer) result cause taken taken_now
PrintsEnd (Err (Refused why)) result cause taken taken_now =
    Prints (refusal_status why) (refusal_line why) result cause taken taken_now
PrintsEnd (Err ReadFault) result cause taken taken_now =
    Prints status.ReadFault read_fault_line result cause taken taken_now
PrintsEnd (Err WriteFault) result cause taken taken_now = (result ≡ status.WriteFault) × (taken_now ≡ taken)
PrintsEnd (Err Memory) result cause taken taken_now = (result ≡ status.Memory) × (taken_now ≡ taken)
