-- The text of a waveform (IEEE 1364-2005, clause 18).
use Rattle.std.specs.Prelude.{ℕ, ◌+◌, ◌*◌, List, [], ◌∷◌, ◌++◌, Bool, true, false, Option, is_some, option_and_then, slice_get, codes, decimal}
use Rattle.trace_rows.specs.declared.labels.Labels.{Labels}
use Rattle.trace_rows.specs.declared.labels.PortLabel.{PortLabel}
use Rattle.vcd_writer.specs.Code.{clock_code, first_port}
use Rattle.vcd_writer.specs.Header.{header}
use Rattle.vcd_writer.specs.Line.{text_of}
use Rattle.vcd_writer.specs.Value.{scalar_line, port_value_lines, port_change_lines, check_lines, check_change_lines}

abbrev pub time_line : ℕ → List ℕ
time_line time = codes "#" ++ decimal time

-- Row i stands at time 10 * i, with the clock at 0, and the edge after it at 10 * i + 5.
abbrev pub row_time : ℕ → ℕ
row_time i = 10 * i

abbrev pub edge_time : ℕ → ℕ
edge_time i = 10 * i + 5

-- the edge after row i
unfoldable pub edge_block : ℕ → List (List ℕ)
edge_block i = time_line (edge_time i) ∷ scalar_line true clock_code ∷ []

-- the first row: all variables
unfoldable pub first_block : List PortLabel → Option Bool → List Bool → List (List ℕ)
first_block ports check row =
    time_line (row_time 0) ∷ codes "$dumpvars" ∷ scalar_line false clock_code ∷ []
    ++ check_lines check
    ++ port_value_lines first_port ports row
    ++ codes "$end" ∷ []

-- row i, a later one: the clock and what differs from the row before
unfoldable pub row_block : List PortLabel → ℕ → Option Bool → List Bool → Option Bool → List Bool → List (List ℕ)
row_block ports i check_before before check row =
    time_line (row_time i) ∷ scalar_line false clock_code ∷ []
    ++ check_change_lines check_before check
    ++ port_change_lines first_port ports before row

-- the checker bit of row i, where there are checker bits
abbrev pub check_of : Option (List Bool) → ℕ → Option Bool
check_of checks i = option_and_then (λ bits. slice_get bits i) checks

-- the rows after row i, which is the row before them: before each of them the edge
abbrev pub later_blocks : List PortLabel → Option (List Bool) → ℕ → List Bool → List (List Bool) → List (List ℕ)
later_blocks ports checks i before [] = []
later_blocks ports checks i before (row ∷ rows) =
    edge_block i
    ++ row_block ports (i + 1) (check_of checks i) before (check_of checks (i + 1)) row
    ++ later_blocks ports checks (i + 1) row rows

abbrev pub blocks : List PortLabel → Option (List Bool) → List (List Bool) → List (List ℕ)
blocks ports checks [] = []
blocks ports checks (row ∷ rows) = first_block ports (check_of checks 0) row ++ later_blocks ports checks 0 row rows

-- the whole text: the rows, their labels and, where there are any, the checker's bit of each row
unfoldable pub vcd : List (List Bool) → Labels → Option (List Bool) → List ℕ
vcd rows labels checks = text_of (header labels (is_some checks) ++ blocks labels.ports checks rows)
