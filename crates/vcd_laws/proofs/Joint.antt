-- What the three parts of the law share: what the body that is written says, places aside, and with which sizes the header
-- that is written declares the codes.
use Rattle.std.proofs.Common.{◌≡◌, ℕ, ◌+◌, List, [], ◌∷◌, ◌++◌, Bool, true, false, map, take, drop, Option, None, Some, if◌then◌else◌}
use Rattle.std.specs.Bool.{beq}
use Rattle.trace_rows.specs.declared.labels.Labels.{Labels}
use Rattle.trace_rows.specs.declared.labels.PortLabel.{PortLabel}
use Rattle.vcd_header.specs.Variables.{Variable, size_of}
use Rattle.vcd_reader.specs.Body.{Item}
use Rattle.vcd_reader.specs.Body.Item.{time, change, misplaced, unfinished}
use Rattle.vcd_writer.specs.Code.{check_code, clock_code, code_of, first_port}
use Rattle.vcd_writer.specs.Value.{are_same, bit_digit, bit_digits}
use Rattle.vcd_writer.specs.Waveform.{check_of, edge_time, row_time}

-- ---- what a body says, places aside

-- an item at place 0
abbrev pub bare : Item → Item
bare (time at value) = time 0 value
bare (change at code digits) = change 0 code digits
bare (misplaced at) = misplaced 0
bare (unfinished at) = unfinished 0

abbrev pub value_item : List ℕ → List Bool → Item
value_item code bits = change 0 code (bit_digits bits)

abbrev pub scalar_item : List ℕ → Bool → Item
scalar_item code bit = value_item code (bit ∷ [])

abbrev pub check_items : Option Bool → List Item
check_items None = []
check_items (Some bit) = scalar_item check_code bit ∷ []

abbrev pub check_change_items : Option Bool → Option Bool → List Item
check_change_items None now = check_items now
check_change_items (Some before) None = []
check_change_items (Some before) (Some now) = if beq before now then [] else check_items (Some now)

abbrev pub port_items : ℕ → List PortLabel → List Bool → List Item
port_items number [] row = []
port_items number (port ∷ ports) row =
    value_item (code_of number) (take port.width row) ∷ port_items (number + 1) ports (drop port.width row)

abbrev pub port_change : ℕ → List Bool → List Bool → List Item
port_change number before bits = if are_same before bits then [] else value_item (code_of number) bits ∷ []

abbrev pub port_change_items : ℕ → List PortLabel → List Bool → List Bool → List Item
port_change_items number [] before row = []
port_change_items number (port ∷ ports) before row =
    port_change number (take port.width before) (take port.width row)
    ++ port_change_items (number + 1) ports (drop port.width before) (drop port.width row)

abbrev pub first_items : List PortLabel → Option Bool → List Bool → List Item
first_items ports check row =
    time 0 (row_time 0) ∷ scalar_item clock_code false ∷ [] ++ check_items check ++ port_items first_port ports row

abbrev pub edge_items : ℕ → List Item
edge_items i = time 0 (edge_time i) ∷ scalar_item clock_code true ∷ []

abbrev pub row_items : List PortLabel → ℕ → Option Bool → List Bool → Option Bool → List Bool → List Item
row_items ports i check_before before check row =
    time 0 (row_time i) ∷ scalar_item clock_code false ∷ []
    ++ check_change_items check_before check
    ++ port_change_items first_port ports before row

abbrev pub later_items : List PortLabel → Option (List Bool) → ℕ → List Bool → List (List Bool) → List Item
later_items ports checks i before [] = []
later_items ports checks i before (row ∷ rows) =
    edge_items i
    ++ row_items ports (i + 1) (check_of checks i) before (check_of checks (i + 1)) row
    ++ later_items ports checks (i + 1) row rows

abbrev pub block_items : List PortLabel → Option (List Bool) → List (List Bool) → List Item
block_items ports checks [] = []
block_items ports checks (row ∷ rows) = first_items ports (check_of checks 0) row ++ later_items ports checks 0 row rows

-- ---- with which sizes codes are declared

abbrev pub PortSizes : List Variable → ℕ → List PortLabel → Type 0
PortSizes declared number [] = Unit {0}
PortSizes declared number (port ∷ ports) =
    (size_of declared (code_of number) ≡ Some port.width) × PortSizes declared (number + 1) ports

pub record HasSizes (declared : List Variable) (labels : Labels) (checked : Bool) : Type 0 where
  pub clock : size_of declared clock_code ≡ Some 1
  pub check : checked ≡ true → size_of declared check_code ≡ Some 1
  pub ports : PortSizes declared first_port labels.ports
