-- The lines before the first row.
use Rattle.std.specs.Prelude.{ℕ, ◌+◌, List, [], ◌∷◌, ◌++◌, Bool, Option, None, Some, if◌then◌else◌, codes, decimal}
use Rattle.bm_base.specs.declared.range.Range.{Range}
use Rattle.trace_rows.specs.declared.labels.Labels.{Labels}
use Rattle.trace_rows.specs.declared.labels.PortLabel.{PortLabel}
use Rattle.vcd_writer.specs.Code.{code_of, clock_code, check_code, first_port}
use Rattle.vcd_writer.specs.WrittenName.{written_name}

-- the part of a declaration that only a variable with a range has, with a space before it
abbrev pub range_part : Option Range → List ℕ
range_part None = []
range_part (Some range) = codes " [" ++ decimal range.left ++ codes ":" ++ decimal range.right ++ codes "]"

-- the declaration of a variable: its width, code, name and range
unfoldable pub variable_line : ℕ → List ℕ → List ℕ → Option Range → List ℕ
variable_line width code name range =
    codes "$var wire " ++ decimal width ++ codes " " ++ code ++ codes " " ++ written_name name ++ range_part range
    ++ codes " $end"

-- a declaration for each port, from this number on
abbrev pub port_lines : ℕ → List PortLabel → List (List ℕ)
port_lines number [] = []
port_lines number (port ∷ ports) =
    variable_line port.width (code_of number) port.name port.range ∷ port_lines (number + 1) ports

-- up to the scope of the top
abbrev pub opening_lines : List ℕ → List (List ℕ)
opening_lines top =
    codes "$version butramin 1 $end"
    ∷ codes "$timescale 1ns $end"
    ∷ (codes "$scope module " ++ written_name top ++ codes " $end")
    ∷ []

abbrev pub check_declaration : List ℕ → Bool → List (List ℕ)
check_declaration name checked = if checked then variable_line 1 check_code name None ∷ [] else []

abbrev pub closing_lines : List (List ℕ)
closing_lines = codes "$upscope $end" ∷ codes "$enddefinitions $end" ∷ []

-- `checked`: whether there are checker bits
abbrev pub header : Labels → Bool → List (List ℕ)
header labels checked =
    opening_lines labels.top
    ++ variable_line 1 clock_code labels.clock None ∷ []
    ++ check_declaration labels.check checked
    ++ port_lines first_port labels.ports
    ++ closing_lines
