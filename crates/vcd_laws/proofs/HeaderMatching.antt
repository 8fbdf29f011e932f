-- Which variables of the written header give which bits, and with which sizes it declares the codes.
use Rattle.std.proofs.Common.{◌≡◌, ◌≢◌, ℕ, ◌+◌, ◌-◌, ◌<◌, ◌≤◌, ◌==◌, ◌&&◌, zero, suc, List, [], ◌∷◌, ◌++◌, All, Bool, true, false, cond, map, max, min, nat_le, Option, Some, None, Result, Ok, is_some, if◌then◌else◌, arith, refl, subst, sym, ap, ◌∙◌}
use Rattle.std.specs.List.{AllPairs, flat_map, list_all, range_with_len}
use Rattle.std.specs.Option.{option_map, option_or}
use Rattle.std.proofs.lemmas.List.{append_assoc, map-append}
use Rattle.bm_base.specs.declared.range.Range.{Range}
use Rattle.trace_rows.specs.declared.labels.Labels.{Labels}
use Rattle.trace_rows.specs.declared.labels.PortLabel.{PortLabel}
use Rattle.vcd_header.specs.declared.fault.VcdFault.{VcdFault}
use Rattle.vcd_header.specs.Declares.{matched_in}
use Rattle.vcd_header.specs.Matching.{Source, Wanted, clock_bit, digit_by, gives_all, index_at, port_bit, port_bits, source_at, source_of, sources_in, sources_of, wanted, with_source, within}
use Rattle.vcd_header.specs.Scopes.{Path, same_path, without_backslash}
use Rattle.vcd_header.specs.Variables.{Variable, size_of}
use Rattle.vcd_writer.specs.Code.{check_code, clock_code, code_of, first_port}
use Rattle.vcd_writer.specs.WrittenName.{written_name}
use Rattle.trace_rows.specs.Writable.{AreWritable, HasWidth, IsPort}
use Rattle.vcd_laws.specs.Written.{clock_source, input_sources, port_sources}
use Rattle.vcd_laws.proofs.HeaderNames.{select_for}
use Rattle.vcd_laws.proofs.HeaderReading.{all_declared, all_variables, no_code_after_first}
use Rattle.vcd_laws.proofs.HeaderVariables.{NoCodeFrom, check_variables, first_variables, no_code_more, path_of, port_variables, size_behind, size_here, size_of_other, variable_at}
use Rattle.vcd_laws.proofs.Joint.{HasSizes, PortSizes}
use Rattle.vcd_laws.proofs.TextWords.{other_bytes, same_bytes}

-- ---- the digit of a bit

at_most : (a b : ℕ) → a ≤ b → nat_le a b ≡ true
at_most a b h = grind arith

same_number : (a b : ℕ) → a ≡ b → (a == b) ≡ true
same_number a b h = grind arith

digit_there : (left right index width position : ℕ) → min left right ≤ index → index ≤ max left right → max left right - min left right + 1 ≡ width
    → max index right - min index right ≡ position
    → (if nat_le (min left right) index && nat_le index (max left right) && max left right - min left right + 1 == width
    then Some (max index right - min index right) else None) ≡ Some position
digit_there left right index width position low high size digit =
    rw (at_most (min left right) index low, at_most index (max left right) high, same_number (max left right - min left right + 1) width size, digit) refl

part_digit : (range : Range) (name : List ℕ) (width position : ℕ) → width ≡ max range.left range.right - min range.left range.right + 1 → position < width
    → (b : Bool) → nat_le range.right range.left ≡ b
    → digit_by (select_for (Some range)) width (record { name = name; width = width; index = cond b (range.right + position) (range.right - position); position = position })
    ≡ Some position
part_digit range name width position has small true down =
    let le : range.right ≤ range.left = grind arith in
    digit_there range.left range.right (range.right + position) width position (omega arith) (omega arith) (sym has) (omega arith)
part_digit range name width position has small false up =
    let lt : range.left < range.right = grind arith in
    digit_there range.left range.right (range.right - position) width position (omega arith) (omega arith) (sym has) (omega arith)

digit_read : (range : Option Range) (name : List ℕ) (width position : ℕ) → HasWidth range width → position < width
    → digit_by (select_for range) width (record { name = name; width = width; index = index_at range position; position = position }) ≡ Some position
digit_read None name width position has small = rw (same_number width width refl) refl
digit_read (Some range) name width position (has, left, right) small =
    part_digit range name width position has small (nat_le range.right range.left) refl

-- ---- the source of a bit

-- no variable has the name
abbrev Passed : List Variable → List ℕ → Type 0
Passed [] name = Unit {0}
Passed (variable ∷ variables) name = (variable.name ≢ name) × Passed variables name

source_past : (front back : List Variable) (bit : Wanted) → Passed front bit.name → source_of (front ++ back) bit ≡ source_of back bit
source_past [] back bit passed = refl
source_past (variable ∷ front) back bit (other, passed) =
    ap (λ (test : Bool). option_or (if test then option_map (source_at variable.code) (digit_by variable.select variable.size bit) else None) (source_of (front ++ back) bit))
    (other_bytes variable.name bit.name other)
    ∙ source_past front back bit passed

own_source : (path : Path) (number : ℕ) (port : PortLabel) (back : List Variable) (position : ℕ) → IsPort port → position < port.width
    → source_of (variable_at path number port.width port.name port.range ∷ back) (port_bit port position) ≡ Some (source_at (code_of number) position)
own_source path number port back position (printable, has, small) within =
    let digit = digit_by (select_for port.range) port.width (port_bit port position) in
    let others = source_of back (port_bit port position) in
    ap (λ (test : Bool). option_or (if test then option_map (source_at (code_of number)) digit else None) others) (same_bytes port.name)
    ∙ ap (λ digit. option_or (option_map (source_at (code_of number)) digit) others) (digit_read port.range port.name port.width position has within)

-- ---- the sources of all ports

mapped : {X Y Z : Type 0} (f : Y → Z) (g : X → Y) (xs : List X) → map f (map g xs) ≡ map (λ x. f (g x)) xs
mapped f g [] = refl
mapped f g (x ∷ xs) = ap (λ ys. f (g x) ∷ ys) (mapped f g xs)

map_range : {X : Type 0} (f g : ℕ → X) (from count : ℕ) → ((k : ℕ) → k < from + count → f k ≡ g k) → map f (range_with_len from count) ≡ map g (range_with_len from count)
map_range f g from zero same = refl
map_range f g from (suc count) same =
    ap (λ first. first ∷ map f (range_with_len (from + 1) count)) (same from (omega arith))
    ∙ ap (λ later. g from ∷ later) (map_range f g (from + 1) count (λ k h. same k (omega arith)))

abbrev found : List Source → List (Option Source)
found sources = map (λ (source : Source). Some source) sources

abbrev PassedBy : List Variable → List PortLabel → Type 0
PassedBy front [] = Unit {0}
PassedBy front (port ∷ ports) = Passed front port.name × PassedBy front ports

abbrev Others : List ℕ → List PortLabel → Type 0
Others name [] = Unit {0}
Others name (port ∷ ports) = (name ≢ port.name) × Others name ports

abbrev AreApart : List PortLabel → Type 0
AreApart [] = Unit {0}
AreApart (port ∷ ports) = Others port.name ports × AreApart ports

passed_more : (front : List Variable) (variable : Variable) (name : List ℕ) → Passed front name → variable.name ≢ name → Passed (front ++ variable ∷ []) name
passed_more [] variable name passed other = (other, tt)
passed_more (first ∷ front) variable name (here, passed) other = (here, passed_more front variable name passed other)

passed_by_more : (front : List Variable) (variable : Variable) (ports : List PortLabel) → PassedBy front ports → Others variable.name ports → PassedBy (front ++ variable ∷ []) ports
passed_by_more front variable [] passed others = tt
passed_by_more front variable (port ∷ ports) (here, passed) (other, others) =
    (passed_more front variable port.name here other, passed_by_more front variable ports passed others)

port_found : (path : Path) (number : ℕ) (port : PortLabel) (front back : List Variable) → Passed front port.name → IsPort port
    → map (source_of (front ++ variable_at path number port.width port.name port.range ∷ back)) (port_bits port) ≡ found (map (source_at (code_of number)) (range_with_len 0 port.width))
port_found path number port front back passed is =
    let here = variable_at path number port.width port.name port.range in
    let range = range_with_len 0 port.width in
    mapped (source_of (front ++ here ∷ back)) (port_bit port) range
    ∙ map_range (λ k. source_of (front ++ here ∷ back) (port_bit port k)) (λ k. Some (source_at (code_of number) k)) 0 port.width
    (λ k h. source_past front (here ∷ back) (port_bit port k) passed ∙ own_source path number port back k is (omega arith))
    ∙ sym (mapped (λ (source : Source). Some source) (source_at (code_of number)) range)

ports_found : (path : Path) (number : ℕ) (ports : List PortLabel) (front : List Variable) → PassedBy front ports → AreApart ports → All IsPort ports
    → map (source_of (front ++ port_variables path number ports)) (flat_map port_bits ports) ≡ found (port_sources number ports)
ports_found path number [] front passed apart are = refl
ports_found path number (port ∷ ports) front (here_passed, passed) (others, apart) are =
    let here = variable_at path number port.width port.name port.range in
    let more = port_variables path (number + 1) ports in
    let later = flat_map port_bits ports in
    let own = map (source_at (code_of number)) (range_with_len 0 port.width) in
    map-append (source_of (front ++ here ∷ more)) (port_bits port) later
    ∙ ap (λ first. first ++ map (source_of (front ++ here ∷ more)) later) (port_found path number port front more here_passed (are 0 port (omega arith)))
    ∙ ap (λ all. found own ++ map (source_of all) later) (sym (append_assoc front (here ∷ []) more))
    ∙ ap (λ rest. found own ++ rest) (ports_found path (number + 1) ports (front ++ here ∷ []) (passed_by_more front here ports passed others) apart (λ k d h. are (suc k) d (omega arith)))
    ∙ sym (map-append (λ (source : Source). Some source) own (port_sources (number + 1) ports))

-- ---- names that are apart

head_apart : (name : List ℕ) (later : List (List ℕ)) → AllPairs (λ (left right : List ℕ). left ≢ right) (name ∷ later) → All (λ other. name ≢ other) later
head_apart name later pairs = λ k d h. pairs 0 (suc k) d (omega arith) (omega arith)

tail_apart : (name : List ℕ) (later : List (List ℕ)) → AllPairs (λ (left right : List ℕ). left ≢ right) (name ∷ later) → AllPairs (λ (left right : List ℕ). left ≢ right) later
tail_apart name later pairs = λ i j d lt within. pairs (suc i) (suc j) d (omega arith) (omega arith)

others_of : (name : List ℕ) (ports : List PortLabel) → All (λ other. name ≢ other) (map (λ (port : PortLabel). port.name) ports) → Others name ports
others_of name [] all = tt
others_of name (port ∷ ports) all = (all 0 port.name (omega arith), others_of name ports (λ k d h. all (suc k) d (omega arith)))

apart_of : (ports : List PortLabel) → AllPairs (λ (left right : List ℕ). left ≢ right) (map (λ (port : PortLabel). port.name) ports) → AreApart ports
apart_of [] pairs = tt
apart_of (port ∷ ports) pairs =
    let later = map (λ (port : PortLabel). port.name) ports in
    (others_of port.name ports (head_apart port.name later pairs), apart_of ports (tail_apart port.name later pairs))

passed_by_two : (path : Path) (labels : Labels) (ports : List PortLabel) → Others labels.clock ports → Others labels.check ports → PassedBy (first_variables path labels true) ports
passed_by_two path labels [] clock check = tt
passed_by_two path labels (port ∷ ports) (clock, clocks) (check, checks) = ((clock, (check, tt)), passed_by_two path labels ports clocks checks)

passed_by_one : (path : Path) (labels : Labels) (ports : List PortLabel) → Others labels.clock ports → PassedBy (first_variables path labels false) ports
passed_by_one path labels [] clock = tt
passed_by_one path labels (port ∷ ports) (clock, clocks) = ((clock, tt), passed_by_one path labels ports clocks)

passed_by_first : (path : Path) (labels : Labels) (checked : Bool) (ports : List PortLabel) → Others labels.clock ports → Others labels.check ports → PassedBy (first_variables path labels checked) ports
passed_by_first path labels true ports clock check = passed_by_two path labels ports clock check
passed_by_first path labels false ports clock check = passed_by_one path labels ports clock

all_found : (labels : Labels) (checked : Bool) → AreWritable labels → map (source_of (all_variables labels checked)) (wanted labels) ≡ found (clock_source ∷ input_sources labels)
all_found labels checked are =
    let path = path_of labels.top in
    let later = map (λ (port : PortLabel). port.name) labels.ports in
    let behind_clock = tail_apart labels.clock (labels.check ∷ later) are.apart in
    let clock = others_of labels.clock labels.ports (λ k d h. head_apart labels.clock (labels.check ∷ later) are.apart (suc k) d (omega arith)) in
    let check = others_of labels.check labels.ports (head_apart labels.check later behind_clock) in
    let apart = apart_of labels.ports (tail_apart labels.check later behind_clock) in
    let front = first_variables path labels checked in
    let others = source_of (check_variables path labels.check checked ++ port_variables path first_port labels.ports) (clock_bit labels) in
    ap (λ (test : Bool). option_or (if test then Some (source_at clock_code 0) else None) others ∷ map (source_of (all_variables labels checked)) (flat_map port_bits labels.ports)) (same_bytes labels.clock)
    ∙ ap (λ rest. Some clock_source ∷ rest) (ports_found path first_port labels.ports front (passed_by_first path labels checked labels.ports clock check) apart are.ports)

-- ---- all in the one scope

abbrev AllAt : Path → List Variable → Type 0
AllAt path [] = Unit {0}
AllAt path (variable ∷ variables) = (variable.path ≡ path) × AllAt path variables

kept : (path : Path) (variables : List Variable) → same_path path path ≡ true → AllAt path variables → within path variables ≡ variables
kept path [] same at = refl
kept path (variable ∷ variables) same (here, at) =
    ap (λ (first : Path). cond (same_path first path) (variable ∷ within path variables) (within path variables)) here
    ∙ ap (λ (test : Bool). cond test (variable ∷ within path variables) (within path variables)) same
    ∙ ap (λ rest. variable ∷ rest) (kept path variables same at)

ports_at : (path : Path) (number : ℕ) (ports : List PortLabel) → AllAt path (port_variables path number ports)
ports_at path number [] = tt
ports_at path number (port ∷ ports) = (refl, ports_at path (number + 1) ports)

all_at : (path : Path) (labels : Labels) (checked : Bool) → AllAt path (first_variables path labels checked ++ port_variables path first_port labels.ports)
all_at path labels true = (refl, (refl, ports_at path first_port labels.ports))
all_at path labels false = (refl, ports_at path first_port labels.ports)

all_kept : (labels : Labels) (checked : Bool) → within (path_of labels.top) (all_variables labels checked) ≡ all_variables labels checked
all_kept labels checked =
    kept (path_of labels.top) (all_variables labels checked) (rw (same_bytes (without_backslash (written_name labels.top))) refl) (all_at (path_of labels.top) labels checked)

sources_found : (variables : List Variable) (bits : List Wanted) (sources : List Source) → map (source_of variables) bits ≡ found sources
    → (sources_of variables bits ≡ Ok sources) × (list_all (λ bit. is_some (source_of variables bit)) bits ≡ true)
sources_found variables [] [] same = (refl, refl)
sources_found variables [] (source ∷ sources) same = absurd (cc)
sources_found variables (bit ∷ bits) [] same = absurd (cc)
sources_found variables (bit ∷ bits) (source ∷ sources) same =
    let here : source_of variables bit ≡ Some source = cc in
    let later : map (source_of variables) bits ≡ found sources = cc in
    let (all, give) = sources_found variables bits sources later in (
      ap (λ first. with_source bit.name first (sources_of variables bits)) here ∙ ap (λ (rest : Result (List Source) VcdFault). with_source bit.name (Some source) rest) all,
      ap (λ (first : Option Source). is_some first && list_all (λ bit. is_some (source_of variables bit)) bits) here ∙ give,
    )

pub header_matched : (labels : Labels) (checked : Bool) → AreWritable labels → matched_in (all_declared labels checked) labels None ≡ Ok (clock_source ∷ input_sources labels)
header_matched labels checked are =
    let variables = all_variables labels checked in
    let path = path_of labels.top in
    let bits = wanted labels in
    let (all, give) = sources_found variables bits (clock_source ∷ input_sources labels) (all_found labels checked are) in
    let gives : gives_all variables bits path ≡ true =
    ap (λ (inside : List Variable). list_all (λ bit. is_some (source_of inside bit)) bits) (all_kept labels checked) ∙ give in
    ap (λ (test : Bool). sources_in variables bits (cond test (Some path) None)) gives
    ∙ ap (λ (inside : List Variable). sources_of inside bits) (all_kept labels checked)
    ∙ all

-- ---- sizes

ports_sized : (path : Path) (number : ℕ) (ports : List PortLabel) (front : List Variable) → NoCodeFrom number front → PortSizes (front ++ port_variables path number ports) number ports
ports_sized path number [] front none = tt
ports_sized path number (port ∷ ports) front none =
    let here = variable_at path number port.width port.name port.range in
    let more = port_variables path (number + 1) ports in
    let later = ports_sized path (number + 1) ports (front ++ here ∷ []) (no_code_more path number port.width port.name port.range front none) in (
      size_behind front (here ∷ more) (code_of number) (none number (omega arith)) ∙ size_here path number port.width port.name port.range more,
      subst (λ all. PortSizes all (number + 1) ports) (append_assoc front (here ∷ []) more) later,
    )

check_sized : (labels : Labels) (checked : Bool) → checked ≡ true → size_of (all_variables labels checked) check_code ≡ Some 1
check_sized labels true is =
    let path = path_of labels.top in
    let ports = port_variables path first_port labels.ports in
    size_of_other path 0 1 1 labels.clock None (variable_at path 1 1 labels.check None ∷ ports) (λ same. omega arith)
    ∙ size_here path 1 1 labels.check None ports
check_sized labels false is = absurd (cc)

pub header_sized : (labels : Labels) (checked : Bool) → HasSizes (all_variables labels checked) labels checked
header_sized labels checked =
    let path = path_of labels.top in
    record {
      clock = size_here path 0 1 labels.clock None (check_variables path labels.check checked ++ port_variables path first_port labels.ports);
      check = check_sized labels checked;
      ports = ports_sized path first_port labels.ports (first_variables path labels checked) (no_code_after_first path labels checked);
    }
