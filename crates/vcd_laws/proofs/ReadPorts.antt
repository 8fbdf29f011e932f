-- The bits of the ports behind the changes of a row.
use Rattle.std.proofs.Common.{◌≡◌, ◌≢◌, ℕ, ◌+◌, ◌-◌, ◌<◌, ◌≤◌, ◌==◌, List, [], ◌∷◌, ◌++◌, Bool, true, false, map, take, drop, length, Option, Some, None, if◌then◌else◌, refl, sym, ap, subst, ◌∙◌, arith}
use Rattle.std.specs.Bool.{beq}
use Rattle.std.specs.Cmp.{booleans_Decides}
use Rattle.std.specs.List.{range_with_len}
use Rattle.std.proofs.lemmas.List.{drop_at, length-append, length-drop, length-map, length-take-le, map-append, take-append-drop, take_at}
use Rattle.std.proofs.lemmas.List.FromFn.{length-map-range_with_len}
use Rattle.std.proofs.lemmas.List.Sums.{sum_by-cons}
use Rattle.std.proofs.lemmas.Slice.Eq.{slice_eq-Decides}
use Rattle.trace_rows.specs.declared.labels.PortLabel.{PortLabel}
use Rattle.vcd_header.specs.Matching.{Source, source_at}
use Rattle.vcd_reader.specs.Changes.{Triple, triples_from}
use Rattle.vcd_reader.specs.Values.{digit_at, value_after}
use Rattle.vcd_writer.specs.Code.{code_of}
use Rattle.vcd_writer.specs.Value.{are_same, bit_digits, row_width}
use Rattle.vcd_laws.specs.Written.{port_sources}
use Rattle.vcd_laws.proofs.Joint.{check_change_items, check_items, port_change, port_change_items, port_items, value_item}
use Rattle.vcd_laws.proofs.ReadCodes.{codes_differ, codes_same}
use Rattle.vcd_laws.proofs.ReadItems.{port_change_is, triples_append}
use Rattle.vcd_laws.proofs.ReadValues.{Misses, after, after_append, digit_is, missed, misses_append, sources_give}

-- ---- tests of sources

pub same_map : (f g : Source → Bool) → ((source : Source) → f source ≡ g source) → (sources : List Source) → map f sources ≡ map g sources
same_map f g same [] = refl
same_map f g same (source ∷ sources) = ap (λ first. first ∷ map f sources) (same source) ∙ ap (λ rest. g source ∷ rest) (same_map f g same sources)

same_at : (f g : Source → Bool) (code : List ℕ) → ((digit : ℕ) → f (source_at code digit) ≡ g (source_at code digit)) → (digits : List ℕ)
    → map f (map (source_at code) digits) ≡ map g (map (source_at code) digits)
same_at f g code same [] = refl
same_at f g code same (digit ∷ digits) =
    ap (λ first. first ∷ map f (map (source_at code) digits)) (same digit)
    ∙ ap (λ rest. g (source_at code digit) ∷ rest) (same_at f g code same digits)

-- two tests that agree on the bits of each code from this one on give the same of the ports' bits
pub ports_agree : (f g : Source → Bool) (number : ℕ) (ports : List PortLabel)
    → ((other digit : ℕ) → number ≤ other → f (source_at (code_of other) digit) ≡ g (source_at (code_of other) digit))
    → map f (port_sources number ports) ≡ map g (port_sources number ports)
ports_agree f g number [] same = refl
ports_agree f g number (port ∷ ports) same =
    let here = map (source_at (code_of number)) (range_with_len 0 port.width) in
    let rest = port_sources (number + 1) ports in
    map-append f here rest
    ∙ ap (λ first. first ++ map f rest) (same_at f g (code_of number) (λ digit. same number digit (omega arith)) (range_with_len 0 port.width))
    ∙ ap (λ later. map g here ++ later) (ports_agree f g (number + 1) ports (λ other digit h. same other digit (omega arith)))
    ∙ sym (map-append g here rest)

-- ---- which codes change

pub check_missed : (now number : ℕ) (check : Option Bool) → number ≢ 1 → Misses (code_of number) (triples_from now (check_items check))
check_missed now number None other = tt
check_missed now number (Some bit) other = (codes_differ 1 number (λ same. other (sym same)), tt)

pub check_change_missed : (now number : ℕ) (before check : Option Bool) → number ≢ 1 → Misses (code_of number) (triples_from now (check_change_items before check))
check_change_missed now number None check other = check_missed now number check other
check_change_missed now number (Some before) None other = tt
check_change_missed now number (Some before) (Some bit) other = by (beq before bit)
  where
    by : (test : Bool) → Misses (code_of number) (triples_from now (if test then [] else check_items (Some bit)))
    by true = tt
    by false = (codes_differ 1 number (λ same. other (sym same)), tt)

pub ports_missed : (now number other : ℕ) (ports : List PortLabel) (row : List Bool) → other < number → Misses (code_of other) (triples_from now (port_items number ports row))
ports_missed now number other [] row h = tt
ports_missed now number other (port ∷ ports) row h = (codes_differ number other (omega arith), ports_missed now (number + 1) other ports (drop port.width row) (omega arith))

port_change_missed : (now number other : ℕ) (before bits : List Bool) → other ≢ number → Misses (code_of other) (triples_from now (port_change number before bits))
port_change_missed now number other before bits apart = by (are_same before bits)
  where
    by : (test : Bool) → Misses (code_of other) (triples_from now (if test then [] else value_item (code_of number) bits ∷ []))
    by true = tt
    by false = (codes_differ number other (λ same. apart (sym same)), tt)

pub port_changes_missed : (now number other : ℕ) (ports : List PortLabel) (before row : List Bool) → other < number → Misses (code_of other) (triples_from now (port_change_items number ports before row))
port_changes_missed now number other [] before row h = tt
port_changes_missed now number other (port ∷ ports) before row h =
    let here = port_change number (take port.width before) (take port.width row) in
    let rest = port_change_items (number + 1) ports (drop port.width before) (drop port.width row) in
    subst (Misses (code_of other)) (sym (triples_append now here rest (port_change_is number (take port.width before) (take port.width row))))
    (misses_append (code_of other) (triples_from now here) (triples_from now rest)
    (port_change_missed now number other (take port.width before) (take port.width row) (omega arith))
    (port_changes_missed now (number + 1) other ports (drop port.width before) (drop port.width row) (omega arith)))

-- ---- the bits of one port

-- a change of a code gives the bits of the code
bits_given : (value : Source → Bool) (now number : ℕ) (bits : List Bool)
    → map (λ source. after (value source) (triples_from now (value_item (code_of number) bits ∷ [])) source) (map (source_at (code_of number)) (range_with_len 0 (length bits))) ≡ bits
bits_given value now number bits =
    sources_give (λ source. after (value source) (triples_from now (value_item (code_of number) bits ∷ [])) source) (code_of number) bits 0
    (λ position at is h.
    ap (λ test. value_after (value (source_at (code_of number) at)) (if test then Some (digit_at (bit_digits bits) at) else None)) (codes_same number)
    ∙ ap (λ at. digit_at (bit_digits bits) at == 49) (let same : at ≡ position = omega arith in same)
    ∙ digit_is bits position h)

same_bits : (before now : List Bool) → are_same before now ≡ true → before ≡ now
same_bits before now same = (slice_eq-Decides booleans_Decides before now (are_same before now) refl).0 same

-- where the bits before are the port's, those now are, whether they change or not
bits_changed : (value : Source → Bool) (now number : ℕ) (before bits : List Bool)
    → map value (map (source_at (code_of number)) (range_with_len 0 (length bits))) ≡ before
    → map (λ source. after (value source) (triples_from now (port_change number before bits)) source) (map (source_at (code_of number)) (range_with_len 0 (length bits))) ≡ bits
bits_changed value now number before bits was = by (are_same before bits) refl
  where
    by : (test : Bool) → are_same before bits ≡ test
        → map (λ source. after (value source) (triples_from now (if test then [] else value_item (code_of number) bits ∷ [])) source) (map (source_at (code_of number)) (range_with_len 0 (length bits))) ≡ bits
    by true same = was ∙ same_bits before bits same
    by false same = bits_given value now number bits

one_changed : (value : Source → Bool) (now number width : ℕ) (before bits : List Bool) → length bits ≡ width
    → map value (map (source_at (code_of number)) (range_with_len 0 width)) ≡ before
    → map (λ source. after (value source) (triples_from now (port_change number before bits)) source) (map (source_at (code_of number)) (range_with_len 0 width)) ≡ bits
one_changed value now number width before bits is was =
    ap (λ width. map (λ source. after (value source) (triples_from now (port_change number before bits)) source) (map (source_at (code_of number)) (range_with_len 0 width))) (sym is)
    ∙ bits_changed value now number before bits (ap (λ width. map value (map (source_at (code_of number)) (range_with_len 0 width))) is ∙ was)

-- ---- the bits of all ports

-- the changes of one port give its bits, and those of the later ports theirs
port_step : (value : Source → Bool) (number : ℕ) (port : PortLabel) (ports : List PortLabel) (here rest : List Triple) (bits later : List Bool)
    → ((other : ℕ) → number < other → Misses (code_of other) here)
    → Misses (code_of number) rest
    → map (λ source. after (value source) here source) (map (source_at (code_of number)) (range_with_len 0 port.width)) ≡ bits
    → map (λ source. after (value source) rest source) (port_sources (number + 1) ports) ≡ later
    → map (λ source. after (value source) (here ++ rest) source) (port_sources number (port ∷ ports)) ≡ bits ++ later
port_step value number port ports here rest bits later miss_here miss_rest bits_are later_are =
    let all = λ (source : Source). after (value source) (here ++ rest) source in
    let one = map (source_at (code_of number)) (range_with_len 0 port.width) in
    let others = port_sources (number + 1) ports in
    map-append all one others
    ∙ ap (λ first. first ++ map all others)
    (same_at all (λ source. after (value source) here source) (code_of number)
    (λ digit.
    let source = source_at (code_of number) digit in
    after_append here rest (value source) source ∙ missed rest (after (value source) here source) source miss_rest)
    (range_with_len 0 port.width)
    ∙ bits_are)
    ∙ ap (λ last. bits ++ last)
    (ports_agree all (λ source. after (value source) rest source) (number + 1) ports
    (λ other digit h.
    let source = source_at (code_of other) digit in
    after_append here rest (value source) source
    ∙ ap (λ now. after now rest source) (missed here (value source) source (miss_here other (omega arith))))
    ∙ later_are)

width_more : (port : PortLabel) (ports : List PortLabel) → row_width (port ∷ ports) ≡ port.width + row_width ports
width_more port ports = sum_by-cons (λ (port : PortLabel). port.width) port ports

pub width_first : (port : PortLabel) (ports : List PortLabel) (row : List Bool) → length row ≡ row_width (port ∷ ports) → length (take port.width row) ≡ port.width
width_first port ports row is = length-take-le port.width row (omega (arith, width_more port ports))

pub width_rest : (port : PortLabel) (ports : List PortLabel) (row : List Bool) → length row ≡ row_width (port ∷ ports) → length (drop port.width row) ≡ row_width ports
width_rest port ports row is = omega (arith, width_more port ports, length-drop port.width row)

nothing : (row : List Bool) → length row ≡ 0 → [] ≡ row
nothing [] is = refl
nothing (bit ∷ row) is = absurd (omega arith)

-- the first row's changes give the row
pub ports_given : (value : Source → Bool) (now number : ℕ) (ports : List PortLabel) (row : List Bool) → length row ≡ row_width ports
    → map (λ source. after (value source) (triples_from now (port_items number ports row)) source) (port_sources number ports) ≡ row
ports_given value now number [] row is = nothing row is
ports_given value now number (port ∷ ports) row is =
    let bits = take port.width row in
    let later = drop port.width row in
    let here = triples_from now (value_item (code_of number) bits ∷ []) in
    port_step value number port ports here (triples_from now (port_items (number + 1) ports later)) bits later
    (λ other h. (codes_differ number other (omega arith), tt))
    (ports_missed now (number + 1) number ports later (omega arith))
    (ap (λ width. map (λ source. after (value source) here source) (map (source_at (code_of number)) (range_with_len 0 width))) (sym (width_first port ports row is))
    ∙ bits_given value now number bits)
    (ports_given value now (number + 1) ports later (width_rest port ports row is))
    ∙ take-append-drop port.width row

-- what is before is that of the first port, and that of the later ones
front_is : (front back row : List Bool) (width : ℕ) → length front ≡ width → front ++ back ≡ row → front ≡ take width row
front_is front back row width is same = sym (take_at front back width is) ∙ ap (take width) same

back_is : (front back row : List Bool) (width : ℕ) → length front ≡ width → front ++ back ≡ row → back ≡ drop width row
back_is front back row width is same = sym (drop_at front back width is) ∙ ap (drop width) same

-- where the bits before are the ports', a later row's changes give the row
pub ports_changed : (value : Source → Bool) (now number : ℕ) (ports : List PortLabel) (before row : List Bool) → length row ≡ row_width ports
    → map value (port_sources number ports) ≡ before
    → map (λ source. after (value source) (triples_from now (port_change_items number ports before row)) source) (port_sources number ports) ≡ row
ports_changed value now number [] before row is was = nothing row is
ports_changed value now number (port ∷ ports) before row is was =
    let bits = take port.width row in
    let later = drop port.width row in
    let one = map (source_at (code_of number)) (range_with_len 0 port.width) in
    let others = port_sources (number + 1) ports in
    let here = port_change number (take port.width before) bits in
    let rest = port_change_items (number + 1) ports (drop port.width before) later in
    let parts : map value one ++ map value others ≡ before = sym (map-append value one others) ∙ was in
    let long : length (map value one) ≡ port.width = length-map one value ∙ length-map-range_with_len (source_at (code_of number)) 0 port.width in
    ap (λ changes. map (λ source. after (value source) changes source) (port_sources number (port ∷ ports))) (triples_append now here rest (port_change_is number (take port.width before) bits))
    ∙ port_step value number port ports (triples_from now here) (triples_from now rest) bits later
    (λ other h. port_change_missed now number other (take port.width before) bits (omega arith))
    (port_changes_missed now (number + 1) number ports (drop port.width before) later (omega arith))
    (one_changed value now number port.width (take port.width before) bits (width_first port ports row is) (front_is (map value one) (map value others) before port.width long parts))
    (ports_changed value now (number + 1) ports (drop port.width before) later (width_rest port ports row is) (back_is (map value one) (map value others) before port.width long parts))
    ∙ take-append-drop port.width row

-- there are as many sources as bits
pub sources_wide : (number : ℕ) (ports : List PortLabel) → length (port_sources number ports) ≡ row_width ports
sources_wide number [] = refl
sources_wide number (port ∷ ports) =
    length-append (map (source_at (code_of number)) (range_with_len 0 port.width)) (port_sources (number + 1) ports)
    ∙ omega (arith, length-map-range_with_len (source_at (code_of number)) 0 port.width, sources_wide (number + 1) ports, width_more port ports)
