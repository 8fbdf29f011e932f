-- The lines that give values.
use Rattle.std.specs.Prelude.{ℕ, ◌+◌, List, [], ◌∷◌, ◌++◌, Bool, Option, None, Some, if◌then◌else◌, codes, map, reverse, sum_by, take, drop}
use Rattle.std.specs.Bool.{beq}
use Rattle.std.specs.Cmp.Lexicographic.{pointwise}
use Rattle.bm_base.specs.declared.range.Range.{Range}
use Rattle.trace_rows.specs.declared.labels.PortLabel.{PortLabel}
use Rattle.vcd_writer.specs.Code.{code_of, check_code}

abbrev pub bit_digit : Bool → ℕ
bit_digit bit = if bit then 49 else 48

-- the digits of bits that are given from the right end, the left end first
abbrev pub bit_digits : List Bool → List ℕ
bit_digits bits = map bit_digit (reverse bits)

-- the line of a variable's value: a `b` and a space only where it has a range
abbrev pub value_line : Option Range → List Bool → List ℕ → List ℕ
value_line None bits code = bit_digits bits ++ code
value_line (Some range) bits code = codes "b" ++ bit_digits bits ++ codes " " ++ code

-- the line of the clock or the checker
abbrev pub scalar_line : Bool → List ℕ → List ℕ
scalar_line bit code = value_line None (bit ∷ []) code

abbrev pub are_same : List Bool → List Bool → Bool
are_same before now = pointwise beq before now

-- how many bits a row has: each port has the next bits of its width in it
abbrev pub row_width : List PortLabel → ℕ
row_width ports = sum_by (λ port. port.width) ports

-- a line for each port, from this number on
abbrev pub port_value_lines : ℕ → List PortLabel → List Bool → List (List ℕ)
port_value_lines number [] row = []
port_value_lines number (port ∷ ports) row =
    value_line port.range (take port.width row) (code_of number)
    ∷ port_value_lines (number + 1) ports (drop port.width row)

-- the line of a port, where its bits differ from those before
abbrev pub port_change : ℕ → PortLabel → List Bool → List Bool → List (List ℕ)
port_change number port before bits =
    if are_same before bits then [] else value_line port.range bits (code_of number) ∷ []

-- a line for each port that differs from the row before, from this number on
abbrev pub port_change_lines : ℕ → List PortLabel → List Bool → List Bool → List (List ℕ)
port_change_lines number [] before row = []
port_change_lines number (port ∷ ports) before row =
    port_change number port (take port.width before) (take port.width row)
    ++ port_change_lines (number + 1) ports (drop port.width before) (drop port.width row)

-- the checker's line, where there is a checker bit
abbrev pub check_lines : Option Bool → List (List ℕ)
check_lines None = []
check_lines (Some bit) = scalar_line bit check_code ∷ []

-- the same, where it differs from the checker bit before
abbrev pub check_change_lines : Option Bool → Option Bool → List (List ℕ)
check_change_lines None now = check_lines now
check_change_lines (Some before) None = []
check_change_lines (Some before) (Some now) = if beq before now then [] else check_lines (Some now)
