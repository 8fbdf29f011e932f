-- What bytes are as a waveform (IEEE 1364-2005, clause 18): rows, or the first fault from the left.
use Rattle.std.specs.Prelude.{ℕ, ◌+◌, ◌*◌, ◌==◌, List, [], ◌∷◌, length, nat_lt, Option, None, Some, Result, Ok, Err, if◌then◌else◌}
use Rattle.std.specs.Option.{option_map, option_or}
use Rattle.bm_base.specs.Size.{limit_of}
use Rattle.bm_base.specs.declared.size.Size.{Size}
use Rattle.bm_base.specs.declared.size.Size.TheVariants.{Cycles, Bits, States}
use Rattle.trace_rows.specs.Rows.{Rows}
use Rattle.trace_rows.specs.declared.labels.Labels.{Labels}
use Rattle.vcd_header.specs.declared.fault.VcdFault.{VcdFault}
use Rattle.vcd_header.specs.declared.fault.VcdFault.TheVariants.{Token, Truncated, TimeBack, BadCode, TooWide, NoScope, NoTime, Limit}
use Rattle.vcd_reader.specs.Body.{Item, items}
use Rattle.vcd_reader.specs.Body.Item.{time, change, misplaced, unfinished}
use Rattle.vcd_reader.specs.Changes.{all_times, last_time}
use Rattle.vcd_header.specs.Declares.{Declared, declared_by_groups, matched_in}
use Rattle.vcd_header.specs.Faults.{fault_if, first_fault}
use Rattle.vcd_header.specs.Header.{header_fault}
use Rattle.vcd_header.specs.Matching.{Source}
use Rattle.vcd_reader.specs.Rows.{Reading, reading}
use Rattle.vcd_header.specs.Sections.{body, header}
use Rattle.vcd_header.specs.Tokens.{Tok, tokens}
use Rattle.vcd_header.specs.Variables.{Variable, size_of}

-- a change of a code that has this size, if it is declared
abbrev pub change_fault : ℕ → List ℕ → Option ℕ → Option VcdFault
change_fault at digits None = Some (BadCode at)
change_fault at digits (Some size) = fault_if (nat_lt size (length digits)) (TooWide at)

-- the fault of what a body says behind this, where these variables are declared
abbrev pub item_fault : List Variable → List Item → Item → Option VcdFault
item_fault declared before (time at value) = fault_if (nat_lt value (last_time before)) (TimeBack at)
item_fault declared before (change at code digits) = change_fault at digits (size_of declared code)
item_fault declared before (misplaced at) = Some (Token at)
item_fault declared before (unfinished at) = Some (Truncated at)

-- the first fault of a body, and at its end that it has no time
abbrev pub body_fault : List Variable → List Item → Option VcdFault
body_fault declared items =
    option_or (first_fault (item_fault declared) [] items) (fault_if (length (all_times items) == 0) NoTime)

-- the reading, unless there is a fault
abbrev pub unless : Option VcdFault → Result Reading VcdFault → Result Reading VcdFault
unless (Some fault) reading = Err fault
unless None reading = reading

-- what a body is, where the wanted bits come from these sources, the first of which is the clock's
abbrev pub body_reading : List Variable → List Item → List Source → Result Reading VcdFault
body_reading declared items [] = Err NoScope
body_reading declared items (clock ∷ inputs) = unless (body_fault declared items) (Ok (reading items clock inputs))

-- what a body is behind a header that has no fault and declares this
abbrev pub sourced : List Variable → List Item → Result (List Source) VcdFault → Result Reading VcdFault
sourced declared items (Err fault) = Err fault
sourced declared items (Ok sources) = body_reading declared items sources

abbrev pub body_of : Declared → List Item → Labels → Option (List ℕ) → Result Reading VcdFault
body_of all items labels scope = sourced all.variables items (matched_in all labels scope)

abbrev pub whole_reading : ℕ → List Tok → Labels → Option (List ℕ) → Result Reading VcdFault
whole_reading size tokens labels scope =
    unless (header_fault size tokens) (body_of (declared_by_groups (header tokens)) (items (body tokens)) labels scope)

-- what the bytes are for these labels, with the name of a scope or without one
unfoldable pub waveform : List ℕ → Labels → Option (List ℕ) → Result Reading VcdFault
waveform bytes labels scope = whole_reading (length bytes) (tokens bytes) labels scope

-- ---- the limits

-- the first limit that a trace passes, by its rows, the bits of its rows, and the bits of the states of so many
-- registers
abbrev pub limit_passed : ℕ → Rows → Option Size
limit_passed registers trace =
    if nat_lt (limit_of Cycles) (length trace.rows) then Some Cycles
    else (if nat_lt (limit_of Bits) (length trace.rows * trace.width) then Some Bits
    else (if nat_lt (limit_of States) ((length trace.rows + 1) * registers) then Some States
    else None))

abbrev pub within_limits : ℕ → Reading → Result Reading VcdFault
within_limits registers reading =
    unless (option_map (λ what. Limit what) (limit_passed registers reading.trace)) (Ok reading)

abbrev pub limited : ℕ → Result Reading VcdFault → Result Reading VcdFault
limited registers (Err fault) = Err fault
limited registers (Ok reading) = within_limits registers reading
