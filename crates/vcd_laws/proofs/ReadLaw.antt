-- The reading of what is written of rows: it has no fault, and is these rows.
use Rattle.std.proofs.Common.{◌≡◌, ℕ, ◌<◌, ◌==◌, List, [], ◌∷◌, ◌++◌, All, Bool, map, length, Option, None, Ok, is_some, unwrap_or, suc, sym, ap, ◌∙◌, arith}
use Rattle.std.specs.List.{dedup, last_or}
use Rattle.trace_rows.specs.declared.labels.Labels.{Labels}
use Rattle.trace_rows.specs.declared.labels.PortLabel.{PortLabel}
use Rattle.vcd_header.specs.Matching.{Source}
use Rattle.vcd_header.specs.Variables.{Variable}
use Rattle.vcd_reader.specs.Body.{Item}
use Rattle.vcd_reader.specs.Changes.{Triple, all_times, first_time, last_time, times, triples, triples_from}
use Rattle.vcd_reader.specs.Rows.{Reading, reading, rows_by}
use Rattle.vcd_reader.specs.Values.{unknown_count}
use Rattle.vcd_reader.specs.Waveform.{body_fault, body_reading, unless}
use Rattle.vcd_writer.specs.Code.{first_port}
use Rattle.vcd_writer.specs.Value.{row_width}
use Rattle.vcd_writer.specs.Waveform.{check_of, row_time}
use Rattle.vcd_laws.specs.Laws.{AreRowsOf}
use Rattle.trace_rows.specs.Writable.{AreWritable}
use Rattle.vcd_laws.specs.Written.{clock_source, input_sources, port_sources}
use Rattle.vcd_laws.proofs.Joint.{HasSizes, bare, block_items}
use Rattle.vcd_laws.proofs.ReadFaults.{bare_fault, blocks_have_no_fault}
use Rattle.vcd_laws.proofs.ReadItems.{bare_times, bare_triples, first_triples, last_time_is, later_times, later_triples, times_are, triples_are}
use Rattle.vcd_laws.proofs.ReadPorts.{sources_wide}
use Rattle.vcd_laws.proofs.ReadRows.{Wide, rows_behind, settled_first}
use Rattle.vcd_laws.proofs.ReadUnknown.{all_known, have_bits, none_unknown}

-- readings with the same parts
same_reading : (width width_now unknown unknown_now : ℕ) (rows rows_now : List (List Bool)) → width ≡ width_now → rows ≡ rows_now → unknown ≡ unknown_now
    → ◌≡◌ {A = Reading} (record { trace = record { width = width; rows = rows }; unknown = unknown }) (record { trace = record { width = width_now; rows = rows_now }; unknown = unknown_now })
same_reading width width_now unknown unknown_now rows rows_now same_width same_rows same_unknown =
    let of : ℕ → List (List Bool) → ℕ → Reading = λ width rows unknown. record { trace = record { width = width; rows = rows }; unknown = unknown } in
    ap (λ width. of width rows unknown) same_width ∙ ap (λ rows. of width_now rows unknown) same_rows ∙ ap (λ unknown. of width_now rows_now unknown) same_unknown

-- ---- places do not matter

abbrev equal : ℕ → ℕ → Bool
equal left right = left == right

bare_all : (items : List Item) → triples (map bare items) ≡ triples items
bare_all items = ap (λ all. triples_from (first_time all) (map bare items)) (bare_times items) ∙ bare_triples (first_time (all_times items)) items

pub bare_reading : (items : List Item) (clock : Source) (inputs : List Source) → reading (map bare items) clock inputs ≡ reading items clock inputs
bare_reading items clock inputs =
    let of : List Triple → List ℕ → Reading = λ changes all.
    record {
      trace = record { width = length inputs; rows = rows_by changes clock inputs (dedup equal all) (unwrap_or (last_or None all) 0) };
      unknown = unknown_count changes (clock ∷ inputs);
    } in
    ap (λ changes. of changes (all_times (map bare items))) (bare_all items) ∙ ap (of (triples items)) (bare_times items)

pub bare_no_fault : (declared : List Variable) (items : List Item) → body_fault declared (map bare items) ≡ None → body_fault declared items ≡ None
bare_no_fault declared items none = bare_fault declared items none

-- ---- what is written has no fault

pub no_fault : (declared : List Variable) (labels : Labels) (rows : List (List Bool)) (checks : Option (List Bool)) → AreWritable labels → AreRowsOf labels rows → HasSizes declared labels (is_some checks)
    → body_fault declared (block_items labels.ports checks rows) ≡ None
no_fault declared labels rows checks writable are sizes = blocks_have_no_fault declared labels checks sizes rows are.some

-- ---- and is the rows

all_wide : (ports : List PortLabel) (rows : List (List Bool)) → All (λ row. length row ≡ row_width ports) rows → Wide ports rows
all_wide ports [] all = tt
all_wide ports (row ∷ rows) all = (all 0 row (omega arith), all_wide ports rows (λ k d h. all (suc k) d (omega arith)))

rows_read : (ports : List PortLabel) (checks : Option (List Bool)) (row : List Bool) (rows : List (List Bool)) → Wide ports (row ∷ rows)
    → rows_by (triples (block_items ports checks (row ∷ rows))) clock_source (port_sources first_port ports) (times (block_items ports checks (row ∷ rows))) (last_time (block_items ports checks (row ∷ rows))) ≡ row ∷ rows
rows_read ports checks row rows wide =
    let sources = port_sources first_port ports in
    let said = block_items ports checks (row ∷ rows) in
    let front = first_triples ports (check_of checks 0) row in
    let all = front ++ later_triples ports checks 0 row rows in
    ap (λ changes. rows_by changes clock_source sources (times said) (last_time said)) (triples_are ports checks row rows)
    ∙ ap (λ times. rows_by all clock_source sources times (last_time said)) (times_are ports checks row rows)
    ∙ ap (λ last. rows_by all clock_source sources (row_time 0 ∷ later_times 0 rows) last) (last_time_is ports checks row rows)
    ∙ rows_behind ports checks 0 row rows front (settled_first ports (check_of checks 0) row wide.0) wide.1

pub rows_are_read : (labels : Labels) (rows : List (List Bool)) (checks : Option (List Bool)) → AreWritable labels → AreRowsOf labels rows
    → reading (block_items labels.ports checks rows) clock_source (input_sources labels) ≡ record { trace = record { width = row_width labels.ports; rows = rows }; unknown = 0 }
rows_are_read labels [] checks writable are = let some : 0 < length {A = List Bool} [] = are.some in absurd (omega (arith, some))
rows_are_read labels (row ∷ rows) checks writable are =
    let ports = labels.ports in
    let said = block_items ports checks (row ∷ rows) in
    let sources = port_sources first_port ports in
    let wide = all_wide ports (row ∷ rows) are.width in
    same_reading (length sources) (row_width ports) (unknown_count (triples said) (clock_source ∷ sources)) 0
    (rows_by (triples said) clock_source sources (times said) (last_time said)) (row ∷ rows)
    (sources_wide first_port ports)
    (rows_read ports checks row rows wide)
    (ap (λ changes. unknown_count changes (clock_source ∷ sources)) (triples_are ports checks row rows)
    ∙ none_unknown (first_triples ports (check_of checks 0) row ++ later_triples ports checks 0 row rows) (clock_source ∷ sources)
    (all_known ports checks row rows (have_bits ports writable.ports) wide))

-- ---- a body that says this, places aside

pub body_is_read : (declared : List Variable) (items : List Item) (labels : Labels) (rows : List (List Bool)) (checks : Option (List Bool)) → AreWritable labels → AreRowsOf labels rows
    → HasSizes declared labels (is_some checks)
    → map bare items ≡ block_items labels.ports checks rows
    → body_reading declared items (clock_source ∷ input_sources labels) ≡ Ok (record { trace = record { width = row_width labels.ports; rows = rows }; unknown = 0 })
body_is_read declared items labels rows checks writable are sizes said =
    ap (λ fault. unless fault (Ok (reading items clock_source (input_sources labels))))
    (bare_no_fault declared items (ap (body_fault declared) said ∙ no_fault declared labels rows checks writable are sizes))
    ∙ ap Ok
    (sym (bare_reading items clock_source (input_sources labels))
    ∙ ap (λ items. reading items clock_source (input_sources labels)) said
    ∙ rows_are_read labels rows checks writable are)
