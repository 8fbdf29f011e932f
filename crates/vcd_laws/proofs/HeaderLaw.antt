-- What the header that is written says, in front of any tokens.
use Rattle.std.proofs.Common.{◌≡◌, ℕ, ◌+◌, ◌≤◌, List, [], ◌∷◌, ◌++◌, Bool, length, map, None, Ok, arith, subst, sym, ap, ◌∙◌}
use Rattle.std.proofs.lemmas.List.{append-nil, append_cancel_right}
use Rattle.trace_rows.specs.declared.labels.Labels.{Labels}
use Rattle.vcd_header.specs.Declares.{Declared, declared_by_groups, matched_in}
use Rattle.vcd_header.specs.Header.{header_fault}
use Rattle.vcd_header.specs.Sections.{body, groups, header}
use Rattle.vcd_header.specs.Tokens.{Tok, tokens_from}
use Rattle.vcd_writer.specs.Code.{first_port}
use Rattle.trace_rows.specs.Writable.{AreWritable}
use Rattle.vcd_laws.specs.Written.{clock_source, header_text, input_sources}
use Rattle.vcd_laws.proofs.HeaderGroups.{line_groups, lines_groups}
use Rattle.vcd_laws.proofs.HeaderLines.{AreFew, closed, header_sections, header_tokens, header_words}
use Rattle.vcd_laws.proofs.HeaderMatching.{header_matched, header_sized}
use Rattle.vcd_laws.proofs.HeaderReading.{all_declared, header_done}
use Rattle.vcd_laws.proofs.Joint.{HasSizes}
use Rattle.vcd_laws.proofs.TextTokens.{placed_lines}

-- These tokens are a header, whatever stands behind them: it has no fault, its one scope gives every bit that the labels ask for, and
-- each code has its size.
pub record HeaderIs (labels : Labels) (checked : Bool) (front : List Tok) : Type 0 where
  pub whole : (rest : List Tok) → header (front ++ rest) ≡ groups front
  pub behind : (rest : List Tok) → body (front ++ rest) ≡ rest
  pub faultless : (size : ℕ) (rest : List Tok) → header_fault size (front ++ rest) ≡ None
  pub matched : matched_in (declared_by_groups (groups front)) labels None ≡ Ok (clock_source ∷ input_sources labels)
  pub sizes : HasSizes (declared_by_groups (groups front)).variables labels checked

module _ (labels : Labels) (checked : Bool) (are : AreWritable labels) (few : AreFew first_port (length labels.ports)) where
  abbrev lines : List Tok
  lines = placed_lines 0 (map closed (header_words labels checked))

  -- the same groups, whatever stands behind them
  parts : (rest : List Tok) → groups (lines ++ rest) ≡ line_groups 0 (header_words labels checked) ++ groups rest
  parts rest = lines_groups 0 (header_words labels checked) rest (header_sections labels checked are few)

  alone : groups lines ≡ line_groups 0 (header_words labels checked)
  alone =
      ap groups (sym (append-nil lines))
      ∙ parts []
      ∙ append-nil (line_groups 0 (header_words labels checked))

  all_of_it : (rest : List Tok) → header (lines ++ rest) ≡ groups lines
  all_of_it rest =
      let done = header_done labels checked rest are few 0 in
      append_cancel_right (header (lines ++ rest)) (line_groups 0 (header_words labels checked)) (groups rest) (sym done.all_groups ∙ parts rest)
      ∙ sym alone

  declares : declared_by_groups (groups lines) ≡ all_declared labels checked
  declares = ap declared_by_groups (sym (all_of_it [])) ∙ (header_done labels checked [] are few 0).declares

  lines_are : HeaderIs labels checked lines
  lines_are = record {
    whole = all_of_it;
    behind = λ rest. (header_done labels checked rest are few 0).behind_it;
    faultless = λ size rest. (header_done labels checked rest are few size).faultless;
    matched = ap (λ (all : Declared). matched_in all labels None) declares ∙ header_matched labels checked are;
    sizes = subst (λ (all : Declared). HasSizes all.variables labels checked) (sym declares) (header_sized labels checked);
  }

  read : HeaderIs labels checked (tokens_from 0 (header_text labels checked))
  read = subst (HeaderIs labels checked) (sym (header_tokens labels checked (header_sections labels checked are few))) lines_are

-- The header that is written is read as it was meant. With 56335894 ports or more one of them would have the code `$end`.
pub header_is_read : (labels : Labels) (checked : Bool) → AreWritable labels → length labels.ports ≤ 56335893
    → HeaderIs labels checked (tokens_from 0 (header_text labels checked))
header_is_read labels checked are few = read labels checked are (omega arith)
