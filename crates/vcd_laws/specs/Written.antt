-- What is read of the header and of the body that are written.
use Rattle.std.specs.Prelude.{ℕ, ◌+◌, List, [], ◌∷◌, ◌++◌, Bool, map, Option, is_some}
use Rattle.std.specs.List.{range_with_len}
use Rattle.trace_rows.specs.declared.labels.Labels.{Labels}
use Rattle.trace_rows.specs.declared.labels.PortLabel.{PortLabel}
use Rattle.vcd_header.specs.Matching.{Source, source_at}
use Rattle.vcd_header.specs.Tokens.{Tok, tokens_from}
use Rattle.vcd_writer.specs.Code.{clock_code, code_of, first_port}
use Rattle.vcd_writer.specs.Header.{header}
use Rattle.vcd_writer.specs.Line.{text_of}
use Rattle.vcd_writer.specs.Waveform.{blocks}

-- the text of the header, and that of the body
abbrev pub header_text : Labels → Bool → List ℕ
header_text labels checked = text_of (header labels checked)

abbrev pub body_text : List PortLabel → Option (List Bool) → List (List Bool) → List ℕ
body_text ports checks rows = text_of (blocks ports checks rows)

-- the clock's bit
abbrev pub clock_source : Source
clock_source = source_at clock_code 0

-- the bits of each port, where the variables' numbers go on from this one
abbrev pub port_sources : ℕ → List PortLabel → List Source
port_sources number [] = []
port_sources number (port ∷ ports) =
    map (source_at (code_of number)) (range_with_len 0 port.width) ++ port_sources (number + 1) ports

-- the bits of the rows
abbrev pub input_sources : Labels → List Source
input_sources labels = port_sources first_port labels.ports
