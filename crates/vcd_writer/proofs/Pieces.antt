-- A text that is written piece by piece.
use Rattle.std.proofs.Common.{◌≡◌, ℕ, ◌+◌, ◌-◌, ◌≤◌, List, [], ◌∷◌, ◌++◌, Bool, false, Option, None, Some, codes, decimal, drop, sym, ap, ◌∙◌, arith}
use Rattle.std.specs.List.{slice_get}
use Rattle.std.proofs.lemmas.List.{append_assoc, drop_more}
use Rattle.std.proofs.lemmas.Grind.{flat_map-append}
use Rattle.std.proofs.lemmas.Option.{get_or_from_slice_get, slice_get_within}
use Rattle.bm_base.specs.declared.range.Range.{Range}
use Rattle.trace_rows.specs.declared.labels.Labels.{Labels}
use Rattle.trace_rows.specs.declared.labels.PortLabel.{PortLabel}
use Rattle.vcd_writer.specs.Code.{clock_code, first_port}
use Rattle.vcd_writer.specs.Header.{check_declaration, closing_lines, header, opening_lines, port_lines, range_part, variable_line}
use Rattle.vcd_writer.specs.Line.{text_of}
use Rattle.vcd_writer.specs.Value.{check_lines, port_value_lines, scalar_line}
use Rattle.vcd_writer.specs.Waveform.{check_of, edge_block, first_block, later_blocks, row_block, row_time, time_line}
use Rattle.vcd_writer.specs.WrittenName.{written_name}

-- more lines after those that were written from a start on
pub text_of_more : (start text : List ℕ) (lines more : List (List ℕ)) → text ≡ start ++ text_of lines → text ++ text_of more ≡ start ++ text_of (lines ++ more)
text_of_more start text lines more wrote =
    ap (λ t. t ++ text_of more) wrote
    ∙ append_assoc start (text_of lines) (text_of more)
    ∙ ap (λ t. start ++ t) (sym (flat_map-append (λ line. line ++ codes "\n") lines more))

pub variable_whole : (start a b c d e f g : List ℕ) (width : ℕ) (code name : List ℕ) (range : Option Range)
    → a ≡ start ++ codes "$var wire "
    → b ≡ a ++ decimal width
    → c ≡ b ++ codes " "
    → d ≡ c ++ code
    → e ≡ d ++ codes " "
    → f ≡ e ++ written_name name
    → g ≡ f ++ range_part range
    → g ++ codes " $end\n" ≡ start ++ text_of (variable_line width code name range ∷ [])
unfolding variable_line
variable_whole start a b c d e f g width code name range ea eb ec ed ee ef eg =
    rw (eg, ef, ee, ed, ec, eb, ea) (simp append_assoc)

pub header_whole : (start a b c d : List ℕ) (labels : Labels) (checked : Bool)
    → a ≡ start ++ text_of (opening_lines labels.top)
    → b ≡ a ++ text_of (variable_line 1 clock_code labels.clock None ∷ [])
    → c ≡ b ++ text_of (check_declaration labels.check checked)
    → d ≡ c ++ text_of (port_lines first_port labels.ports)
    → d ++ text_of closing_lines ≡ start ++ text_of (header labels checked)
header_whole start a b c d labels checked ea eb ec ed =
    let clock = variable_line 1 clock_code labels.clock None ∷ [] in
    let check = check_declaration labels.check checked in
    let ports = port_lines first_port labels.ports in
    let two = opening_lines labels.top ++ clock in
    let at_two = eb ∙ text_of_more start a (opening_lines labels.top) clock ea in
    let at_three = ec ∙ text_of_more start b two check at_two in
    let at_four = ed ∙ text_of_more start c (two ++ check) ports at_three in
    text_of_more start d (two ++ check ++ ports) closing_lines at_four

pub first_whole : (start a b c d e : List ℕ) (ports : List PortLabel) (check : Option Bool) (row : List Bool)
    → a ≡ start ++ text_of (time_line (row_time 0) ∷ [])
    → b ≡ a ++ text_of (codes "$dumpvars" ∷ [])
    → c ≡ b ++ text_of (scalar_line false clock_code ∷ [])
    → d ≡ c ++ text_of (check_lines check)
    → e ≡ d ++ text_of (port_value_lines first_port ports row)
    → e ++ text_of (codes "$end" ∷ []) ≡ start ++ text_of (first_block ports check row)
unfolding first_block
first_whole start a b c d e ports check row ea eb ec ed ee =
    let time = time_line (row_time 0) in
    let clock = scalar_line false clock_code in
    let checks = check_lines check in
    let values = port_value_lines first_port ports row in
    let three = time ∷ codes "$dumpvars" ∷ clock ∷ [] in
    let at_two = eb ∙ text_of_more start a (time ∷ []) (codes "$dumpvars" ∷ []) ea in
    let at_three = ec ∙ text_of_more start b (time ∷ codes "$dumpvars" ∷ []) (clock ∷ []) at_two in
    let at_four = ed ∙ text_of_more start c three checks at_three in
    let at_five = ee ∙ text_of_more start d (three ++ checks) values at_four in
    text_of_more start e (three ++ checks ++ values) (codes "$end" ∷ []) at_five

drop_at : (rows : List (List Bool)) (i : ℕ) (row : List Bool) → slice_get rows i ≡ Some row → drop i rows ≡ row ∷ drop (i + 1) rows
drop_at rows i row there =
    drop_more rows i row (slice_get_within rows i row there)
    ∙ ap (λ first. first ∷ drop (i + 1) rows) (get_or_from_slice_get rows i row row there)

-- one row more, where what is still to come makes the whole text
pub rows_more : (whole text a b : List ℕ) (ports : List PortLabel) (checks : Option (List Bool)) (rows : List (List Bool)) (i : ℕ) (before row : List Bool) (check_before check : Option Bool)
    → 1 ≤ i → slice_get rows i ≡ Some row → check_before ≡ check_of checks (i - 1) → check ≡ check_of checks i
    → text ++ text_of (later_blocks ports checks (i - 1) before (drop i rows)) ≡ whole
    → a ≡ text ++ text_of (edge_block (i - 1))
    → b ≡ a ++ text_of (row_block ports i check_before before check row)
    → b ++ text_of (later_blocks ports checks (i + 1 - 1) row (drop (i + 1) rows)) ≡ whole
rows_more whole text a b ports checks rows i before row check_before check some there is_before is_now to_come ea eb =
    let edge = edge_block (i - 1) in
    let block = λ (n : ℕ) (old now : Option Bool). row_block ports n old before now row in
    let later = λ (n : ℕ). later_blocks ports checks n row (drop (i + 1) rows) in
    let next : i - 1 + 1 ≡ i = omega arith in
    let same : i + 1 - 1 ≡ i = omega arith in
    let at_block = eb ∙ text_of_more text a edge (block i check_before check) ea in
    ap (λ n. b ++ text_of (later n)) same
    ∙ text_of_more text b (edge ++ block i check_before check) (later i) at_block
    ∙ ap (λ old. text ++ text_of (edge ++ block i old check ++ later i)) is_before
    ∙ ap (λ now. text ++ text_of (edge ++ block i (check_of checks (i - 1)) now ++ later i)) is_now
    ∙ ap (λ n. text ++ text_of (edge ++ block n (check_of checks (i - 1)) (check_of checks n) ++ later n)) (sym next)
    ∙ ap (λ rest. text ++ text_of (later_blocks ports checks (i - 1) before rest)) (sym (drop_at rows i row there))
    ∙ to_come
