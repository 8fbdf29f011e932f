-- The rows of what is written of rows.
use Rattle.std.proofs.Common.{◌≡◌, ◌≢◌, ℕ, ◌+◌, ◌<◌, List, [], ◌∷◌, ◌++◌, Bool, true, false, not, ◌&&◌, map, length, Option, Some, None, if◌then◌else◌, refl, sym, ap, subst, ◌∙◌, arith}
use Rattle.std.proofs.lemmas.List.{append_assoc}
use Rattle.trace_rows.specs.declared.labels.PortLabel.{PortLabel}
use Rattle.vcd_header.specs.Matching.{Source, source_at}
use Rattle.vcd_reader.specs.Body.{Item}
use Rattle.vcd_reader.specs.Changes.{Triple, triples_from}
use Rattle.vcd_reader.specs.Rows.{is_edge, rows_by, sampled}
use Rattle.vcd_reader.specs.Values.{digit_at, digit_given, value_after, value_at, values_at}
use Rattle.vcd_writer.specs.Code.{clock_code, code_of, first_port}
use Rattle.vcd_writer.specs.Value.{bit_digits, row_width}
use Rattle.vcd_writer.specs.Waveform.{check_of, edge_time, row_time}
use Rattle.vcd_laws.specs.Written.{clock_source, port_sources}
use Rattle.vcd_laws.proofs.Joint.{check_change_items, check_items, port_change_items, port_items}
use Rattle.vcd_laws.proofs.ReadCodes.{codes_differ, codes_same}
use Rattle.vcd_laws.proofs.ReadItems.{AreChanges, check_change_is, check_is_change, clock_change, come_by, end_time, first_are_changes, first_changes, first_triples, later_come_later, later_times, later_triples, row_are_changes, row_changes, row_triples, rows_come_later, triples_append}
use Rattle.vcd_laws.proofs.ReadPorts.{check_change_missed, check_missed, port_changes_missed, ports_agree, ports_changed, ports_given, ports_missed, same_map}
use Rattle.vcd_laws.proofs.ReadValues.{ComeBy, ComeLater, Misses, after, after_append, by_append, by_more, digit_is, missed, misses_append, value_split}

-- a change of the clock gives its bit
clock_set : (value : Bool) (now : ℕ) (bit : Bool) → value_after value (digit_given clock_source (clock_change now bit)) ≡ bit
clock_set value now bit =
    ap (λ test. value_after value (if test then Some (digit_at (bit_digits (bit ∷ [])) 0) else None)) (codes_same 0)
    ∙ digit_is (bit ∷ []) 0 (omega arith)

clock_missed : (now other : ℕ) (bit : Bool) (changes : List Triple) → 0 < other → Misses (code_of other) changes → Misses (code_of other) (clock_change now bit ∷ changes)
clock_missed now other bit changes h later = (codes_differ 0 other (omega arith), later)

-- ---- a row's changes: the clock's, the checker's and those of the ports

module _ (now : ℕ) (ports : List PortLabel) (checks values : List Item) (are : AreChanges checks)
    (checks_miss : (other : ℕ) → other ≢ 1 → Misses (code_of other) (triples_from now checks)) where
  parts : clock_change now false ∷ triples_from now (checks ++ values) ≡ (clock_change now false ∷ triples_from now checks) ++ triples_from now values
  parts = ap (λ rest. clock_change now false ∷ rest) (triples_append now checks values are)

  -- the clock is 0 behind them
  clock_low : (value : Bool) → Misses clock_code (triples_from now values) → after value (clock_change now false ∷ triples_from now (checks ++ values)) clock_source ≡ false
  clock_low value values_miss =
      missed (triples_from now (checks ++ values)) (value_after value (digit_given clock_source (clock_change now false))) clock_source
      (subst (Misses clock_code) (sym (triples_append now checks values are)) (misses_append clock_code (triples_from now checks) (triples_from now values) (checks_miss 0 (omega arith)) values_miss))
      ∙ clock_set value now false

  -- the ports' bits are those that the ports' changes give
  bits_behind : (value : Source → Bool) (row : List Bool)
      → map (λ source. after (value source) (triples_from now values) source) (port_sources first_port ports) ≡ row
      → map (λ source. after (value source) (clock_change now false ∷ triples_from now (checks ++ values)) source) (port_sources first_port ports) ≡ row
  bits_behind value row are_row =
      let front = clock_change now false ∷ triples_from now checks in
      let back = triples_from now values in
      ap (λ changes. map (λ source. after (value source) changes source) (port_sources first_port ports)) parts
      ∙ ports_agree (λ source. after (value source) (front ++ back) source) (λ source. after (value source) back source) first_port ports
      (λ other digit h.
      let source = source_at (code_of other) digit in
      after_append front back (value source) source
      ∙ ap (λ now. after now back source) (missed front (value source) source (clock_missed now other false (triples_from now checks) (omega arith) (checks_miss other (omega arith)))))
      ∙ are_row

-- ---- behind a row

-- These changes end with those of row i: the clock is 0 behind them, and the ports' bits are the row.
pub record Settled (ports : List PortLabel) (i : ℕ) (changes : List Triple) (row : List Bool) : Type 0 where
  pub in_time : ComeBy (row_time i) changes
  pub low : after false changes clock_source ≡ false
  pub bits : map (λ source. after false changes source) (port_sources first_port ports) ≡ row

pub settled_first : (ports : List PortLabel) (check : Option Bool) (row : List Bool) → length row ≡ row_width ports → Settled ports 0 (first_triples ports check row) row
settled_first ports check row wide = record {
  in_time = (omega arith, come_by (row_time 0) (first_changes ports check row) (first_are_changes ports check row));
  low = clock_low (row_time 0) ports (check_items check) (port_items first_port ports row) (check_is_change check) (λ other. check_missed (row_time 0) other check) false (ports_missed (row_time 0) first_port 0 ports row (omega arith));
  bits = bits_behind (row_time 0) ports (check_items check) (port_items first_port ports row) (check_is_change check) (λ other. check_missed (row_time 0) other check) (λ source. false) row (ports_given (λ source. false) (row_time 0) first_port ports row wide);
}

module _ (ports : List PortLabel) (checks : Option (List Bool)) (i : ℕ) (before row : List Bool) (changes : List Triple) where
  -- a bit's value behind the edge
  abbrev at_edge : Source → Bool
  at_edge source = value_after (after false changes source) (digit_given source (clock_change (edge_time i) true))

  edge_keeps : Settled ports i changes before → map at_edge (port_sources first_port ports) ≡ before
  edge_keeps settled =
      ports_agree at_edge (λ source. after false changes source) first_port ports
      (λ other digit h. missed (clock_change (edge_time i) true ∷ []) (after false changes (source_at (code_of other) digit)) (source_at (code_of other) digit) (clock_missed (edge_time i) other true [] (omega arith) tt))
      ∙ settled.bits

  pub settled_more : Settled ports i changes before → length row ≡ row_width ports → Settled ports (i + 1) (changes ++ clock_change (edge_time i) true ∷ row_triples ports checks i before row) row
  settled_more settled wide =
      let now = row_time (i + 1) in
      let check_changes = check_change_items (check_of checks i) (check_of checks (i + 1)) in
      let values = port_change_items first_port ports before row in
      let are = check_change_is (check_of checks i) (check_of checks (i + 1)) in
      let miss = λ (other : ℕ). check_change_missed now other (check_of checks i) (check_of checks (i + 1)) in
      let next = clock_change (edge_time i) true ∷ row_triples ports checks i before row in
      record {
        in_time = by_append now changes next (by_more (row_time i) now changes (omega arith) settled.in_time)
            (omega arith, (omega arith, come_by now (row_changes ports (check_of checks i) before (check_of checks (i + 1)) row) (row_are_changes ports (check_of checks i) before (check_of checks (i + 1)) row)));
        low = after_append changes next false clock_source
            ∙ clock_low now ports check_changes values are miss (at_edge clock_source) (port_changes_missed now first_port 0 ports before row (omega arith));
        bits = same_map (λ source. after false (changes ++ next) source) (λ source. after (at_edge source) (row_triples ports checks i before row) source)
            (λ source. after_append changes next false source) (port_sources first_port ports)
            ∙ bits_behind now ports check_changes values are miss at_edge row (ports_changed at_edge now first_port ports before row wide (edge_keeps settled));
      }

-- the values at a row's time are the row
values_now : (ports : List PortLabel) (i : ℕ) (changes later : List Triple) (row : List Bool) → Settled ports i changes row → ComeLater (row_time i) later
    → values_at (changes ++ later) (port_sources first_port ports) (row_time i) ≡ row
values_now ports i changes later row settled behind =
    same_map (value_at (changes ++ later) (row_time i)) (λ source. after false changes source) (λ source. value_split (row_time i) source changes later settled.in_time behind) (port_sources first_port ports)
    ∙ settled.bits

-- ---- edges

rises : (changes : List Triple) (clock : Source) (before now : ℕ) (times : List ℕ) → is_edge changes clock (before, now) ≡ true
    → sampled changes clock (before ∷ now ∷ times) ≡ before ∷ sampled changes clock (now ∷ times)
rises changes clock before now times is = rw is refl

does_not_rise : (changes : List Triple) (clock : Source) (before now : ℕ) (times : List ℕ) → is_edge changes clock (before, now) ≡ false
    → sampled changes clock (before ∷ now ∷ times) ≡ sampled changes clock (now ∷ times)
does_not_rise changes clock before now times is = rw is refl

-- rows that are as wide as the ports together
abbrev pub Wide : List PortLabel → List (List Bool) → Type 0
Wide ports [] = Unit {0}
Wide ports (row ∷ rows) = (length row ≡ row_width ports) × Wide ports rows

module _ (ports : List PortLabel) (checks : Option (List Bool)) where
  module _ (i : ℕ) (before row : List Bool) (rows : List (List Bool)) (changes : List Triple) (settled : Settled ports i changes before) where
    high : value_at (changes ++ later_triples ports checks i before (row ∷ rows)) (edge_time i) clock_source ≡ true
    high =
        let edge = clock_change (edge_time i) true in
        let later = row_triples ports checks i before row ++ later_triples ports checks (i + 1) row rows in
        ap (λ all. value_at all (edge_time i) clock_source) (sym (append_assoc changes (edge ∷ []) later))
        ∙ value_split (edge_time i) clock_source (changes ++ edge ∷ []) later
        (by_append (edge_time i) changes (edge ∷ []) (by_more (row_time i) (edge_time i) changes (omega arith) settled.in_time) (omega arith, tt))
        (rows_come_later ports checks (edge_time i) i before row rows (omega arith) (later_come_later ports checks (edge_time i) (i + 1) row rows (omega arith)))
        ∙ after_append changes (edge ∷ []) false clock_source
        ∙ clock_set (after false changes clock_source) (edge_time i) true

    sampled_next : sampled (changes ++ later_triples ports checks i before (row ∷ rows)) clock_source (row_time i ∷ later_times i (row ∷ rows))
        ≡ row_time i ∷ sampled (changes ++ later_triples ports checks i before (row ∷ rows)) clock_source (row_time (i + 1) ∷ later_times (i + 1) rows)
    sampled_next =
        let later = later_triples ports checks i before (row ∷ rows) in
        let all = changes ++ later in
        let low : value_at all (row_time i) clock_source ≡ false =
        value_split (row_time i) clock_source changes later settled.in_time (later_come_later ports checks (row_time i) i before (row ∷ rows) (omega arith)) ∙ settled.low in
        rises all clock_source (row_time i) (edge_time i) (row_time (i + 1) ∷ later_times (i + 1) rows)
        (ap (λ was. not was && value_at all (edge_time i) clock_source) low ∙ high)
        ∙ ap (λ times. row_time i ∷ times)
        (does_not_rise all clock_source (edge_time i) (row_time (i + 1)) (later_times (i + 1) rows) (ap (λ was. not was && value_at all (row_time (i + 1)) clock_source) high))

  -- the rows behind changes that end with row i are this row and the later ones
  pub rows_behind : (i : ℕ) (before : List Bool) (rows : List (List Bool)) (changes : List Triple) → Settled ports i changes before → Wide ports rows
      → rows_by (changes ++ later_triples ports checks i before rows) clock_source (port_sources first_port ports) (row_time i ∷ later_times i rows) (end_time i rows) ≡ before ∷ rows
  rows_behind i before [] changes settled wide = ap (λ row. row ∷ []) (values_now ports i changes [] before settled tt)
  rows_behind i before (row ∷ rows) changes settled wide =
      let next = clock_change (edge_time i) true ∷ row_triples ports checks i before row in
      let later = later_triples ports checks i before (row ∷ rows) in
      let all = changes ++ later in
      let sources = port_sources first_port ports in
      ap (λ times. map (values_at all sources) times ++ values_at all sources (end_time (i + 1) rows) ∷ []) (sampled_next i before row rows changes settled)
      ∙ ap (λ first. first ∷ rows_by all clock_source sources (row_time (i + 1) ∷ later_times (i + 1) rows) (end_time (i + 1) rows))
      (values_now ports i changes later before settled (later_come_later ports checks (row_time i) i before (row ∷ rows) (omega arith)))
      ∙ ap (λ all. before ∷ rows_by all clock_source sources (row_time (i + 1) ∷ later_times (i + 1) rows) (end_time (i + 1) rows))
      (sym (append_assoc changes next (later_triples ports checks (i + 1) row rows)))
      ∙ ap (λ rest. before ∷ rest)
      (rows_behind (i + 1) row rows (changes ++ next) (settled_more ports checks i before row changes settled wide.0) wide.1)
