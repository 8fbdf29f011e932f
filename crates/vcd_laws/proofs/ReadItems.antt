-- The changes and the times of what is written of rows.
use Rattle.std.proofs.Common.{◌≡◌, ℕ, ◌+◌, ◌<◌, ◌==◌, List, [], ◌∷◌, ◌++◌, Bool, true, false, cond, map, take, drop, Option, Some, None, unwrap_or, if◌then◌else◌, refl, ap, ◌∙◌, arith}
use Rattle.std.specs.Bool.{beq}
use Rattle.std.specs.List.{dedup, dedup_from, last_or}
use Rattle.trace_rows.specs.declared.labels.PortLabel.{PortLabel}
use Rattle.vcd_reader.specs.Body.{Item}
use Rattle.vcd_reader.specs.Body.Item.{time, change, misplaced, unfinished}
use Rattle.vcd_reader.specs.Changes.{Triple, all_times, last_time, times, triples, triples_from}
use Rattle.vcd_writer.specs.Code.{clock_code, code_of, first_port}
use Rattle.vcd_writer.specs.Value.{are_same, bit_digits}
use Rattle.vcd_writer.specs.Waveform.{check_of, edge_time, row_time}
use Rattle.vcd_laws.proofs.Joint.{bare, block_items, check_change_items, check_items, later_items, port_change, port_change_items, port_items, value_item}
use Rattle.vcd_laws.proofs.ReadValues.{ComeBy, ComeLater, later_append}

-- ---- places

pub bare_times : (items : List Item) → all_times (map bare items) ≡ all_times items
bare_times [] = refl
bare_times (time at value ∷ items) = ap (λ later. value ∷ later) (bare_times items)
bare_times (change at code digits ∷ items) = bare_times items
bare_times (misplaced at ∷ items) = bare_times items
bare_times (unfinished at ∷ items) = bare_times items

pub bare_triples : (now : ℕ) (items : List Item) → triples_from now (map bare items) ≡ triples_from now items
bare_triples now [] = refl
bare_triples now (time at value ∷ items) = bare_triples value items
bare_triples now (change at code digits ∷ items) = ap (λ later. record { time = now; code = code; digits = digits } ∷ later) (bare_triples now items)
bare_triples now (misplaced at ∷ items) = bare_triples now items
bare_triples now (unfinished at ∷ items) = bare_triples now items

-- ---- items that are changes

abbrev pub AreChanges : List Item → Type 0
AreChanges [] = Unit {0}
AreChanges (time at value ∷ items) = ⊥
AreChanges (change at code digits ∷ items) = AreChanges items
AreChanges (misplaced at ∷ items) = ⊥
AreChanges (unfinished at ∷ items) = ⊥

pub changes_append : (front back : List Item) → AreChanges front → AreChanges back → AreChanges (front ++ back)
changes_append [] back left right = right
changes_append (time at value ∷ front) back left right = absurd left
changes_append (change at code digits ∷ front) back left right = changes_append front back left right
changes_append (misplaced at ∷ front) back left right = absurd left
changes_append (unfinished at ∷ front) back left right = absurd left

pub triples_append : (now : ℕ) (front back : List Item) → AreChanges front → triples_from now (front ++ back) ≡ triples_from now front ++ triples_from now back
triples_append now [] back all = refl
triples_append now (time at value ∷ front) back all = absurd all
triples_append now (change at code digits ∷ front) back all = ap (λ later. record { time = now; code = code; digits = digits } ∷ later) (triples_append now front back all)
triples_append now (misplaced at ∷ front) back all = absurd all
triples_append now (unfinished at ∷ front) back all = absurd all

times_behind : (front back : List Item) → AreChanges front → all_times (front ++ back) ≡ all_times back
times_behind [] back all = refl
times_behind (time at value ∷ front) back all = absurd all
times_behind (change at code digits ∷ front) back all = times_behind front back all
times_behind (misplaced at ∷ front) back all = absurd all
times_behind (unfinished at ∷ front) back all = absurd all

pub come_by : (now : ℕ) (items : List Item) → AreChanges items → ComeBy now (triples_from now items)
come_by now [] all = tt
come_by now (time at value ∷ items) all = absurd all
come_by now (change at code digits ∷ items) all = (omega arith, come_by now items all)
come_by now (misplaced at ∷ items) all = absurd all
come_by now (unfinished at ∷ items) all = absurd all

pub come_later : (before now : ℕ) (items : List Item) → before < now → AreChanges items → ComeLater before (triples_from now items)
come_later before now [] h all = tt
come_later before now (time at value ∷ items) h all = absurd all
come_later before now (change at code digits ∷ items) h all = (h, come_later before now items h all)
come_later before now (misplaced at ∷ items) h all = absurd all
come_later before now (unfinished at ∷ items) h all = absurd all

-- ---- a row's values

pub check_is_change : (check : Option Bool) → AreChanges (check_items check)
check_is_change None = tt
check_is_change (Some bit) = tt

pub check_change_is : (before now : Option Bool) → AreChanges (check_change_items before now)
check_change_is None now = check_is_change now
check_change_is (Some before) None = tt
check_change_is (Some before) (Some now) = by (beq before now)
  where
    by : (test : Bool) → AreChanges (if test then [] else check_items (Some now))
    by true = tt
    by false = tt

pub ports_are_changes : (number : ℕ) (ports : List PortLabel) (row : List Bool) → AreChanges (port_items number ports row)
ports_are_changes number [] row = tt
ports_are_changes number (port ∷ ports) row = ports_are_changes (number + 1) ports (drop port.width row)

pub port_change_is : (number : ℕ) (before bits : List Bool) → AreChanges (port_change number before bits)
port_change_is number before bits = by (are_same before bits)
  where
    by : (test : Bool) → AreChanges (if test then [] else value_item (code_of number) bits ∷ [])
    by true = tt
    by false = tt

pub port_changes_are : (number : ℕ) (ports : List PortLabel) (before row : List Bool) → AreChanges (port_change_items number ports before row)
port_changes_are number [] before row = tt
port_changes_are number (port ∷ ports) before row =
    changes_append (port_change number (take port.width before) (take port.width row)) (port_change_items (number + 1) ports (drop port.width before) (drop port.width row))
    (port_change_is number (take port.width before) (take port.width row)) (port_changes_are (number + 1) ports (drop port.width before) (drop port.width row))

-- a first row's changes, and a later one's, those of the clock aside
abbrev pub first_changes : List PortLabel → Option Bool → List Bool → List Item
first_changes ports check row = check_items check ++ port_items first_port ports row

abbrev pub row_changes : List PortLabel → Option Bool → List Bool → Option Bool → List Bool → List Item
row_changes ports check_before before check row = check_change_items check_before check ++ port_change_items first_port ports before row

pub first_are_changes : (ports : List PortLabel) (check : Option Bool) (row : List Bool) → AreChanges (first_changes ports check row)
first_are_changes ports check row = changes_append (check_items check) (port_items first_port ports row) (check_is_change check) (ports_are_changes first_port ports row)

pub row_are_changes : (ports : List PortLabel) (check_before : Option Bool) (before : List Bool) (check : Option Bool) (row : List Bool) → AreChanges (row_changes ports check_before before check row)
row_are_changes ports check_before before check row =
    changes_append (check_change_items check_before check) (port_change_items first_port ports before row) (check_change_is check_before check) (port_changes_are first_port ports before row)

-- ---- the changes of all rows

-- the clock's change
abbrev pub clock_change : ℕ → Bool → Triple
clock_change now bit = record { time = now; code = clock_code; digits = bit_digits (bit ∷ []) }

-- the changes of a first row, and of a later one
abbrev pub first_triples : List PortLabel → Option Bool → List Bool → List Triple
first_triples ports check row = clock_change (row_time 0) false ∷ triples_from (row_time 0) (first_changes ports check row)

abbrev pub row_triples : List PortLabel → Option (List Bool) → ℕ → List Bool → List Bool → List Triple
row_triples ports checks i before row =
    clock_change (row_time (i + 1)) false ∷ triples_from (row_time (i + 1)) (row_changes ports (check_of checks i) before (check_of checks (i + 1)) row)

-- the changes of the rows behind row i, with the edge before each
abbrev pub later_triples : List PortLabel → Option (List Bool) → ℕ → List Bool → List (List Bool) → List Triple
later_triples ports checks i before [] = []
later_triples ports checks i before (row ∷ rows) =
    clock_change (edge_time i) true ∷ row_triples ports checks i before row ++ later_triples ports checks (i + 1) row rows

later_are : (now : ℕ) (ports : List PortLabel) (checks : Option (List Bool)) (i : ℕ) (before : List Bool) (rows : List (List Bool))
    → triples_from now (later_items ports checks i before rows) ≡ later_triples ports checks i before rows
later_are now ports checks i before [] = refl
later_are now ports checks i before (row ∷ rows) =
    let changes = row_changes ports (check_of checks i) before (check_of checks (i + 1)) row in
    ap (λ rest. clock_change (edge_time i) true ∷ clock_change (row_time (i + 1)) false ∷ rest)
    (triples_append (row_time (i + 1)) changes (later_items ports checks (i + 1) row rows) (row_are_changes ports (check_of checks i) before (check_of checks (i + 1)) row)
    ∙ ap (λ rest. triples_from (row_time (i + 1)) changes ++ rest) (later_are (row_time (i + 1)) ports checks (i + 1) row rows))

pub triples_are : (ports : List PortLabel) (checks : Option (List Bool)) (row : List Bool) (rows : List (List Bool))
    → triples (block_items ports checks (row ∷ rows)) ≡ first_triples ports (check_of checks 0) row ++ later_triples ports checks 0 row rows
triples_are ports checks row rows =
    let changes = first_changes ports (check_of checks 0) row in
    ap (λ rest. clock_change (row_time 0) false ∷ rest)
    (triples_append (row_time 0) changes (later_items ports checks 0 row rows) (first_are_changes ports (check_of checks 0) row)
    ∙ ap (λ rest. triples_from (row_time 0) changes ++ rest) (later_are (row_time 0) ports checks 0 row rows))

row_come_later : (ports : List PortLabel) (checks : Option (List Bool)) (now i : ℕ) (before row : List Bool) → now < row_time (i + 1) → ComeLater now (row_triples ports checks i before row)
row_come_later ports checks now i before row h =
    (h, come_later now (row_time (i + 1)) (row_changes ports (check_of checks i) before (check_of checks (i + 1)) row) h (row_are_changes ports (check_of checks i) before (check_of checks (i + 1)) row))

-- what comes with the next row and behind it, and what comes with the next edge and behind it
pub rows_come_later : (ports : List PortLabel) (checks : Option (List Bool)) (now i : ℕ) (before row : List Bool) (rows : List (List Bool)) → now < row_time (i + 1)
    → ComeLater now (later_triples ports checks (i + 1) row rows)
    → ComeLater now (row_triples ports checks i before row ++ later_triples ports checks (i + 1) row rows)
rows_come_later ports checks now i before row rows h later =
    later_append now (row_triples ports checks i before row) (later_triples ports checks (i + 1) row rows) (row_come_later ports checks now i before row h) later

pub later_come_later : (ports : List PortLabel) (checks : Option (List Bool)) (now i : ℕ) (before : List Bool) (rows : List (List Bool)) → now < edge_time i → ComeLater now (later_triples ports checks i before rows)
later_come_later ports checks now i before [] h = tt
later_come_later ports checks now i before (row ∷ rows) h =
    (h, rows_come_later ports checks now i before row rows (omega arith) (later_come_later ports checks now (i + 1) row rows (omega arith)))

-- ---- the times of all rows

abbrev pub later_times : ℕ → List (List Bool) → List ℕ
later_times i [] = []
later_times i (row ∷ rows) = edge_time i ∷ row_time (i + 1) ∷ later_times (i + 1) rows

-- the time of the last row
abbrev pub end_time : ℕ → List (List Bool) → ℕ
end_time i [] = row_time i
end_time i (row ∷ rows) = end_time (i + 1) rows

later_times_are : (ports : List PortLabel) (checks : Option (List Bool)) (i : ℕ) (before : List Bool) (rows : List (List Bool)) → all_times (later_items ports checks i before rows) ≡ later_times i rows
later_times_are ports checks i before [] = refl
later_times_are ports checks i before (row ∷ rows) =
    ap (λ rest. edge_time i ∷ row_time (i + 1) ∷ rest)
    (times_behind (row_changes ports (check_of checks i) before (check_of checks (i + 1)) row) (later_items ports checks (i + 1) row rows) (row_are_changes ports (check_of checks i) before (check_of checks (i + 1)) row)
    ∙ later_times_are ports checks (i + 1) row rows)

pub all_times_are : (ports : List PortLabel) (checks : Option (List Bool)) (row : List Bool) (rows : List (List Bool)) → all_times (block_items ports checks (row ∷ rows)) ≡ row_time 0 ∷ later_times 0 rows
all_times_are ports checks row rows =
    ap (λ rest. row_time 0 ∷ rest)
    (times_behind (first_changes ports (check_of checks 0) row) (later_items ports checks 0 row rows) (first_are_changes ports (check_of checks 0) row)
    ∙ later_times_are ports checks 0 row rows)

abbrev equal : ℕ → ℕ → Bool
equal left right = left == right

apart : (left right : ℕ) → right < left → (left == right) ≡ false
apart left right h = grind arith

dedup_next : (k x : ℕ) (xs : List ℕ) → k < x → dedup_from equal k (x ∷ xs) ≡ k ∷ dedup_from equal x xs
dedup_next k x xs h = ap (λ test. cond test (dedup_from equal k xs) (k ∷ dedup_from equal x xs)) (apart x k h)

each_once : (i : ℕ) (rows : List (List Bool)) → dedup_from equal (row_time i) (later_times i rows) ≡ row_time i ∷ later_times i rows
each_once i [] = refl
each_once i (row ∷ rows) =
    dedup_next (row_time i) (edge_time i) (row_time (i + 1) ∷ later_times (i + 1) rows) (omega arith)
    ∙ ap (λ rest. row_time i ∷ rest) (dedup_next (edge_time i) (row_time (i + 1)) (later_times (i + 1) rows) (omega arith))
    ∙ ap (λ rest. row_time i ∷ edge_time i ∷ rest) (each_once (i + 1) rows)

pub times_are : (ports : List PortLabel) (checks : Option (List Bool)) (row : List Bool) (rows : List (List Bool)) → times (block_items ports checks (row ∷ rows)) ≡ row_time 0 ∷ later_times 0 rows
times_are ports checks row rows = ap (dedup equal) (all_times_are ports checks row rows) ∙ each_once 0 rows

last_is_end : (i : ℕ) (rows : List (List Bool)) → last_or (Some (row_time i)) (later_times i rows) ≡ Some (end_time i rows)
last_is_end i [] = refl
last_is_end i (row ∷ rows) = last_is_end (i + 1) rows

pub last_time_is : (ports : List PortLabel) (checks : Option (List Bool)) (row : List Bool) (rows : List (List Bool)) → last_time (block_items ports checks (row ∷ rows)) ≡ end_time 0 rows
last_time_is ports checks row rows =
    ap (λ all. unwrap_or (last_or None all) 0) (all_times_are ports checks row rows)
    ∙ ap (λ last. unwrap_or last 0) (last_is_end 0 rows)
