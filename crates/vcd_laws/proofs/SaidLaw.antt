-- What a body says.
use Rattle.std.proofs.Common.{◌≡◌, ℕ, ◌+◌, ◌*◌, ◌^◌, ◌<◌, suc, List, [], ◌∷◌, Bool, true, false, All, Option, None, Some, inl, inr, drop, take, length, map, append-nil, arith, refl, subst, sym, ap, ◌∙◌}
use Rattle.std.proofs.lemmas.Bool.{cases_Bool}
use Rattle.std.proofs.lemmas.List.{length-drop, length-take-le}
use Rattle.std.proofs.lemmas.List.Elements.{All-from_recursion, recursion_from_All}
use Rattle.std.proofs.lemmas.List.Sums.{sum_by-cons}
use Rattle.trace_rows.specs.declared.labels.PortLabel.{PortLabel}
use Rattle.vcd_header.specs.Tokens.{tokens_from}
use Rattle.vcd_reader.specs.Body.{items}
use Rattle.vcd_writer.specs.Code.{code_of, first_port}
use Rattle.vcd_writer.specs.Value.{are_same, check_change_lines, check_lines, port_change, port_change_lines, port_value_lines, row_width, scalar_line}
use Rattle.vcd_writer.specs.Waveform.{blocks, check_of, edge_block, edge_time, first_block, later_blocks, row_block, row_time}
use Rattle.trace_rows.specs.Writable.{IsPort}
use Rattle.vcd_laws.specs.Written.{body_text}
use Rattle.vcd_laws.proofs.Joint.{bare, block_items, check_change_items, check_items, edge_items, first_items, later_items, port_change as port_change_item, port_change_items, port_items, row_items, scalar_item}
use Rattle.vcd_laws.proofs.SaidForms.{code_has_bytes, code_is_graphic}
use Rattle.vcd_laws.proofs.SaidLines.{LinesSay, both_say, dumpvars_says, end_says, nothing_says, saying, scalar_says, time_says, value_says}

-- a bit of the variable of this number
bit_says : (number : ℕ) (bit : Bool) → LinesSay (scalar_line bit (code_of number) ∷ []) (scalar_item (code_of number) bit ∷ [])
bit_says number bit = scalar_says (code_of number) (code_is_graphic number) (code_has_bytes number) bit

check_says : (check : Option Bool) → LinesSay (check_lines check) (check_items check)
check_says None = nothing_says
check_says (Some bit) = bit_says 1 bit

check_change_says : (before now : Option Bool) → LinesSay (check_change_lines before now) (check_change_items before now)
check_change_says None now = check_says now
check_change_says (Some before) None = nothing_says
check_change_says (Some true) (Some true) = nothing_says
check_change_says (Some true) (Some false) = check_says (Some false)
check_change_says (Some false) (Some true) = check_says (Some true)
check_change_says (Some false) (Some false) = nothing_says

-- ---- ports

-- the row's first bits, of the first port, and the others
front_fits : (port : PortLabel) (ports : List PortLabel) (row : List Bool) → length row ≡ row_width (port ∷ ports) → length (take port.width row) ≡ port.width
front_fits port ports row fits = length-take-le port.width row (omega (arith, sum_by-cons (λ (port : PortLabel). port.width) port ports))

rest_fits : (port : PortLabel) (ports : List PortLabel) (row : List Bool) → length row ≡ row_width (port ∷ ports) → length (drop port.width row) ≡ row_width ports
rest_fits port ports row fits = omega (arith, length-drop port.width row, sum_by-cons (λ (port : PortLabel). port.width) port ports)

ports_say : (number : ℕ) (ports : List PortLabel) (row : List Bool) → All IsPort ports → length row ≡ row_width ports
    → LinesSay (port_value_lines number ports row) (port_items number ports row)
ports_say number [] row are fits = nothing_says
ports_say number (port ∷ ports) row are fits =
    let parts = recursion_from_All IsPort (port ∷ ports) are in
    both_say (value_says port.range port.width number (take port.width row) parts.0.1 (front_fits port ports row fits))
    (ports_say (number + 1) ports (drop port.width row) (All-from_recursion IsPort ports parts.1) (rest_fits port ports row fits))

port_change_says : (number : ℕ) (port : PortLabel) (before bits : List Bool) → IsPort port → length bits ≡ port.width
    → LinesSay (port_change number port before bits) (port_change_item number before bits)
port_change_says number port before bits is long = elim (cases_Bool (are_same before bits)) [
  | inl same ↦ rw same nothing_says
  | inr other ↦ rw other (value_says port.range port.width number bits is.1 long)
]

port_changes_say : (number : ℕ) (ports : List PortLabel) (before row : List Bool) → All IsPort ports → length row ≡ row_width ports
    → LinesSay (port_change_lines number ports before row) (port_change_items number ports before row)
port_changes_say number [] before row are fits = nothing_says
port_changes_say number (port ∷ ports) before row are fits =
    let parts = recursion_from_All IsPort (port ∷ ports) are in
    both_say (port_change_says number port (take port.width before) (take port.width row) parts.0 (front_fits port ports row fits))
    (port_changes_say (number + 1) ports (drop port.width before) (drop port.width row) (All-from_recursion IsPort ports parts.1) (rest_fits port ports row fits))

-- ---- blocks

edge_says : (i : ℕ) → edge_time i < 2 ^ 64 → LinesSay (edge_block i) (edge_items i)
unfolding edge_block
edge_says i small = both_say (time_says (edge_time i) small) (bit_says 0 true)

module _ (ports : List PortLabel) (are : All IsPort ports) where
  first_says : (check : Option Bool) (row : List Bool) → length row ≡ row_width ports → LinesSay (first_block ports check row) (first_items ports check row)
  unfolding first_block
  first_says check row fits =
      let three = both_say (time_says (row_time 0) (omega arith)) (both_say dumpvars_says (bit_says 0 false)) in
      let values = both_say (both_say three (check_says check)) (ports_say first_port ports row are fits) in
      subst (LinesSay (first_block ports check row)) (append-nil (first_items ports check row)) (both_say values end_says)

  row_says : (i : ℕ) (check_before check : Option Bool) (before row : List Bool) → row_time i < 2 ^ 64 → length row ≡ row_width ports
      → LinesSay (row_block ports i check_before before check row) (row_items ports i check_before before check row)
  unfolding row_block
  row_says i check_before check before row small fits =
      both_say (time_says (row_time i) small) (both_say (bit_says 0 false)
      (both_say (check_change_says check_before check) (port_changes_say first_port ports before row are fits)))

  later_say : (checks : Option (List Bool)) (i : ℕ) (before : List Bool) (rows : List (List Bool))
      → All (λ row. length row ≡ row_width ports) rows → 10 * (i + suc (length rows)) < 2 ^ 64
      → LinesSay (later_blocks ports checks i before rows) (later_items ports checks i before rows)
  later_say checks i before [] fit small = nothing_says
  later_say checks i before (row ∷ rows) fit small =
      let parts = recursion_from_All (λ row. length row ≡ row_width ports) (row ∷ rows) fit in
      let rest = All-from_recursion (λ row. length row ≡ row_width ports) rows parts.1 in
      let now = row_says (i + 1) (check_of checks i) (check_of checks (i + 1)) before row (omega arith) parts.0 in
      both_say (both_say (edge_says i (omega arith)) now) (later_say checks (i + 1) row rows rest (omega arith))

  blocks_say : (checks : Option (List Bool)) (rows : List (List Bool))
      → All (λ row. length row ≡ row_width ports) rows → 10 * length rows < 2 ^ 64
      → LinesSay (blocks ports checks rows) (block_items ports checks rows)
  blocks_say checks [] fit small = nothing_says
  blocks_say checks (row ∷ rows) fit small =
      let parts = recursion_from_All (λ row. length row ≡ row_width ports) (row ∷ rows) fit in
      let rest = All-from_recursion (λ row. length row ≡ row_width ports) rows parts.1 in
      both_say (first_says (check_of checks 0) row parts.0) (later_say checks 0 row rows rest (omega arith))

pub body_says : (ports : List PortLabel) (checks : Option (List Bool)) (rows : List (List Bool)) (at : ℕ)
    → All IsPort ports → All (λ row. length row ≡ row_width ports) rows → 10 * length rows < 2 ^ 64
    → map bare (items (tokens_from at (body_text ports checks rows))) ≡ block_items ports checks rows
body_says ports checks rows at are fit small =
    let says = (blocks_say ports are checks rows fit small).says [] [] (λ to. refl) at in
    ap (saying at) (sym (append-nil (body_text ports checks rows))) ∙ says ∙ append-nil (block_items ports checks rows)
