-- No bit of what is written of rows is unknown.
use Rattle.std.proofs.Common.{◌≡◌, ℕ, ◌+◌, ◌-◌, ◌<◌, suc, List, [], ◌∷◌, ◌++◌, All, Bool, true, false, cond, max, min, take, drop, length, Option, Some, None, if◌then◌else◌, refl, sym, ap, subst, ◌∙◌, arith}
use Rattle.std.specs.Bool.{beq}
use Rattle.std.specs.Str.{bytes_eq}
use Rattle.std.proofs.lemmas.List.Sums.{sum_by-cons}
use Rattle.bm_base.specs.declared.range.Range.{Range}
use Rattle.trace_rows.specs.declared.labels.PortLabel.{PortLabel}
use Rattle.vcd_header.specs.Matching.{Source}
use Rattle.vcd_reader.specs.Changes.{Triple, triples_from}
use Rattle.vcd_reader.specs.Values.{digit_at, digit_given, is_unknown, is_unknown_digit, unknown_by, unknown_count}
use Rattle.vcd_writer.specs.Code.{code_of, first_port}
use Rattle.vcd_writer.specs.Value.{are_same, bit_digits, row_width}
use Rattle.vcd_writer.specs.Waveform.{check_of, row_time}
use Rattle.trace_rows.specs.Writable.{HasWidth, IsPort}
use Rattle.vcd_laws.proofs.Joint.{check_change_items, check_items, port_change, port_change_items, port_items, value_item}
use Rattle.vcd_laws.proofs.ReadItems.{check_change_is, check_is_change, first_triples, later_triples, port_change_is, row_triples, triples_append}
use Rattle.vcd_laws.proofs.ReadPorts.{width_first, width_rest}
use Rattle.vcd_laws.proofs.ReadRows.{Wide}
use Rattle.vcd_laws.proofs.ReadValues.{digit_known}

-- no digit that a change gives is unknown
abbrev pub AreKnown : List Triple → Type 0
AreKnown [] = Unit {0}
AreKnown (change ∷ changes) = ((position : ℕ) → is_unknown_digit (digit_at change.digits position) ≡ false) × AreKnown changes

known_append : (front back : List Triple) → AreKnown front → AreKnown back → AreKnown (front ++ back)
known_append [] back left right = right
known_append (change ∷ front) back left right = (left.0, known_append front back left.1 right)

-- ---- the count of what is unknown

given_known : (test : Bool) (digit : ℕ) → is_unknown_digit digit ≡ false → is_unknown (if test then Some digit else None) ≡ false
given_known true digit known = known
given_known false digit known = refl

known_by : (change : Triple) (sources : List Source) → ((position : ℕ) → is_unknown_digit (digit_at change.digits position) ≡ false) → unknown_by sources change ≡ 0
known_by change [] known = refl
known_by change (source ∷ sources) known =
    sum_by-cons (λ (source : Source). cond (is_unknown (digit_given source change)) 1 0) source sources
    ∙ ap (λ test. cond test 1 0 + unknown_by sources change) (given_known (bytes_eq change.code source.code) (digit_at change.digits source.digit) (known source.digit))
    ∙ omega (arith, known_by change sources known)

pub none_unknown : (changes : List Triple) (sources : List Source) → AreKnown changes → unknown_count changes sources ≡ 0
none_unknown [] sources known = refl
none_unknown (change ∷ changes) sources known =
    sum_by-cons (unknown_by sources) change changes
    ∙ omega (arith, known_by change sources known.0, none_unknown changes sources known.1)

-- ---- what is written

-- each port has a bit
abbrev pub HaveBits : List PortLabel → Type 0
HaveBits [] = Unit {0}
HaveBits (port ∷ ports) = (0 < port.width) × HaveBits ports

width_some : (range : Option Range) (width : ℕ) → HasWidth range width → 0 < width
width_some None width is = omega arith
width_some (Some range) width is = let width_is : width ≡ max range.left range.right - min range.left range.right + 1 = is.0 in omega (arith, width_is)

pub have_bits : (ports : List PortLabel) → All IsPort ports → HaveBits ports
have_bits [] all = tt
have_bits (port ∷ ports) all =
    let first : IsPort port = all 0 port (omega arith) in
    (width_some port.range port.width first.1, have_bits ports (λ k d h. all (suc k) d (omega arith)))

one_known : (bit : Bool) (position : ℕ) → is_unknown_digit (digit_at (bit_digits (bit ∷ [])) position) ≡ false
one_known bit position = digit_known (bit ∷ []) position (omega arith)

check_known : (now : ℕ) (check : Option Bool) → AreKnown (triples_from now (check_items check))
check_known now None = tt
check_known now (Some bit) = (one_known bit, tt)

check_change_known : (now : ℕ) (before check : Option Bool) → AreKnown (triples_from now (check_change_items before check))
check_change_known now None check = check_known now check
check_change_known now (Some before) None = tt
check_change_known now (Some before) (Some bit) = by (beq before bit)
  where
    by : (test : Bool) → AreKnown (triples_from now (if test then [] else check_items (Some bit)))
    by true = tt
    by false = (one_known bit, tt)

bits_known : (port : PortLabel) (ports : List PortLabel) (row : List Bool) → 0 < port.width → length row ≡ row_width (port ∷ ports) → (position : ℕ) → is_unknown_digit (digit_at (bit_digits (take port.width row)) position) ≡ false
bits_known port ports row some wide position = digit_known (take port.width row) position (omega (arith, width_first port ports row wide))

ports_known : (now number : ℕ) (ports : List PortLabel) (row : List Bool) → HaveBits ports → length row ≡ row_width ports → AreKnown (triples_from now (port_items number ports row))
ports_known now number [] row some wide = tt
ports_known now number (port ∷ ports) row some wide =
    (bits_known port ports row some.0 wide, ports_known now (number + 1) ports (drop port.width row) some.1 (width_rest port ports row wide))

port_change_known : (now number : ℕ) (before bits : List Bool) → ((position : ℕ) → is_unknown_digit (digit_at (bit_digits bits) position) ≡ false) → AreKnown (triples_from now (port_change number before bits))
port_change_known now number before bits known = by (are_same before bits)
  where
    by : (test : Bool) → AreKnown (triples_from now (if test then [] else value_item (code_of number) bits ∷ []))
    by true = tt
    by false = (known, tt)

port_changes_known : (now number : ℕ) (ports : List PortLabel) (before row : List Bool) → HaveBits ports → length row ≡ row_width ports → AreKnown (triples_from now (port_change_items number ports before row))
port_changes_known now number [] before row some wide = tt
port_changes_known now number (port ∷ ports) before row some wide =
    let here = port_change number (take port.width before) (take port.width row) in
    let rest = port_change_items (number + 1) ports (drop port.width before) (drop port.width row) in
    subst AreKnown (sym (triples_append now here rest (port_change_is number (take port.width before) (take port.width row))))
    (known_append (triples_from now here) (triples_from now rest)
    (port_change_known now number (take port.width before) (take port.width row) (bits_known port ports row some.0 wide))
    (port_changes_known now (number + 1) ports (drop port.width before) (drop port.width row) some.1 (width_rest port ports row wide)))

first_known : (ports : List PortLabel) (check : Option Bool) (row : List Bool) → HaveBits ports → length row ≡ row_width ports → AreKnown (first_triples ports check row)
first_known ports check row some wide =
    let now = row_time 0 in (
      one_known false,
      subst AreKnown (sym (triples_append now (check_items check) (port_items first_port ports row) (check_is_change check)))
          (known_append (triples_from now (check_items check)) (triples_from now (port_items first_port ports row)) (check_known now check) (ports_known now first_port ports row some wide)),
    )

row_known : (ports : List PortLabel) (checks : Option (List Bool)) (i : ℕ) (before row : List Bool) → HaveBits ports → length row ≡ row_width ports → AreKnown (row_triples ports checks i before row)
row_known ports checks i before row some wide =
    let now = row_time (i + 1) in
    let check_changes = check_change_items (check_of checks i) (check_of checks (i + 1)) in
    let values = port_change_items first_port ports before row in (
      one_known false,
      subst AreKnown (sym (triples_append now check_changes values (check_change_is (check_of checks i) (check_of checks (i + 1)))))
          (known_append (triples_from now check_changes) (triples_from now values) (check_change_known now (check_of checks i) (check_of checks (i + 1))) (port_changes_known now first_port ports before row some wide)),
    )

later_known : (ports : List PortLabel) (checks : Option (List Bool)) (i : ℕ) (before : List Bool) (rows : List (List Bool)) → HaveBits ports → Wide ports rows → AreKnown (later_triples ports checks i before rows)
later_known ports checks i before [] some wide = tt
later_known ports checks i before (row ∷ rows) some wide = (
  one_known true,
  known_append (row_triples ports checks i before row) (later_triples ports checks (i + 1) row rows) (row_known ports checks i before row some wide.0) (later_known ports checks (i + 1) row rows some wide.1),
)

pub all_known : (ports : List PortLabel) (checks : Option (List Bool)) (row : List Bool) (rows : List (List Bool)) → HaveBits ports → Wide ports (row ∷ rows)
    → AreKnown (first_triples ports (check_of checks 0) row ++ later_triples ports checks 0 row rows)
all_known ports checks row rows some wide =
    known_append (first_triples ports (check_of checks 0) row) (later_triples ports checks 0 row rows) (first_known ports (check_of checks 0) row some wide.0) (later_known ports checks 0 row rows some wide.1)
