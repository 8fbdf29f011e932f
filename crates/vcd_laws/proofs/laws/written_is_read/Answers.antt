use Rattle.std.proofs.Common.{◌≡◌, ℕ, ◌+◌, ◌++◌, ◌∷◌, List, Bool, All, Option, None, Some, Ok, length, is_some, ap, sym, ◌∙◌, arith}
use Rattle.trace_rows.specs.declared.labels.Labels.{Labels}
use Rattle.vcd_header.specs.Declares.{Declared, declared_by_groups}
use Rattle.vcd_header.specs.Header.{header_fault}
use Rattle.vcd_header.specs.Sections.{body, groups, header}
use Rattle.vcd_header.specs.Tokens.{Tok, tokens, tokens_from}
use Rattle.vcd_reader.specs.Body.{items}
use Rattle.vcd_reader.specs.Rows.{Reading}
use Rattle.vcd_reader.specs.Waveform.{body_of, body_reading, sourced, unless, waveform, whole_reading}
use Rattle.vcd_writer.specs.Header as writer
use Rattle.vcd_writer.specs.Line.{text_of}
use Rattle.vcd_writer.specs.Value.{row_width}
use Rattle.vcd_writer.specs.Waveform.{blocks, vcd}
use Rattle.vcd_laws.specs.Laws.{AreRowsOf}
use Rattle.trace_rows.specs.Writable.{AreWritable}
use Rattle.vcd_laws.specs.Written.{body_text, clock_source, header_text, input_sources}
use Rattle.vcd_laws.proofs.HeaderLaw.{HeaderIs, header_is_read}
use Rattle.vcd_laws.proofs.ReadLaw.{body_is_read}
use Rattle.vcd_laws.proofs.SaidLaw.{body_says}
use Rattle.vcd_laws.proofs.TextTokens.{lines_parted}
use Rattle.vcd_laws.proofs.laws.written_is_read.Goals as goal

module _ (labels : Labels) (rows : List (List Bool)) (checks : Option (List Bool)) (writable : AreWritable labels) (are : AreRowsOf labels rows) where
  abbrev front : List Tok
  front = tokens_from 0 (header_text labels (is_some checks))

  abbrev behind : List Tok
  behind = tokens_from (0 + length (header_text labels (is_some checks))) (body_text labels.ports checks rows)

  abbrev read : Reading
  read = record { trace = record { width = row_width labels.ports; rows = rows }; unknown = 0 }

  is_header : HeaderIs labels (is_some checks) front
  is_header = header_is_read labels (is_some checks) writable (omega (arith, writable.few))

  is_read : body_reading (declared_by_groups (groups front)).variables (items behind) (clock_source ∷ input_sources labels) ≡ Ok read
  is_read =
      body_is_read (declared_by_groups (groups front)).variables (items behind) labels rows checks writable are is_header.sizes
      (body_says labels.ports checks rows _ writable.ports are.width are.times)

  all_read : (size : ℕ) → whole_reading size (front ++ behind) labels None ≡ Ok read
  all_read size =
      ap (λ fault. unless fault (body_of (declared_by_groups (header (front ++ behind))) (items (body (front ++ behind))) labels None)) (is_header.faultless size behind)
      ∙ ap (λ sections. body_of (declared_by_groups sections) (items (body (front ++ behind))) labels None) (is_header.whole behind)
      ∙ ap (λ said. body_of (declared_by_groups (groups front)) (items said) labels None) (is_header.behind behind)
      ∙ ap (sourced (declared_by_groups (groups front)).variables (items behind)) is_header.matched
      ∙ is_read

  text_read : waveform (vcd rows labels checks) labels None ≡ Ok read
  unfolding waveform vcd
  text_read =
      ap (λ toks. whole_reading (length (vcd rows labels checks)) toks labels None) (lines_parted 0 (writer.header labels (is_some checks)) (blocks labels.ports checks rows))
      ∙ all_read (length (vcd rows labels checks))

pub returns : goal.returns
returns c = λ labels rows checks writable are. text_read labels rows checks writable are
