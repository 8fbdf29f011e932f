-- What is written of rows has no fault.
use Rattle.std.proofs.Common.{◌≡◌, ℕ, ◌+◌, ◌<◌, ◌≤◌, ◌==◌, List, [], ◌∷◌, ◌++◌, Bool, true, false, map, take, drop, length, nat_lt, Option, Some, None, is_some, unwrap_or, if◌then◌else◌, refl, sym, ap, subst, ◌∙◌, arith}
use Rattle.std.specs.Bool.{beq}
use Rattle.std.specs.Option.{option_or}
use Rattle.std.proofs.lemmas.Bool.{le-ltb}
use Rattle.std.proofs.lemmas.List.{length-take}
use Rattle.trace_rows.specs.declared.labels.Labels.{Labels}
use Rattle.trace_rows.specs.declared.labels.PortLabel.{PortLabel}
use Rattle.vcd_header.specs.declared.fault.VcdFault.{VcdFault}
use Rattle.vcd_header.specs.declared.fault.VcdFault.TheVariants.{NoTime, TimeBack, TooWide}
use Rattle.vcd_header.specs.Faults.{fault_if, first_fault}
use Rattle.vcd_header.specs.Variables.{Variable, size_of}
use Rattle.vcd_reader.specs.Body.{Item}
use Rattle.vcd_reader.specs.Body.Item.{time, change, misplaced, unfinished}
use Rattle.vcd_reader.specs.Changes.{all_times, last_time}
use Rattle.vcd_reader.specs.Waveform.{body_fault, change_fault, item_fault}
use Rattle.vcd_reader.proofs.SaidLemmas.{last_time_more}
use Rattle.vcd_writer.specs.Code.{check_code, clock_code, code_of, first_port}
use Rattle.vcd_writer.specs.Value.{are_same, bit_digits}
use Rattle.vcd_writer.specs.Waveform.{check_of, edge_time, row_time}
use Rattle.vcd_laws.proofs.Joint.{HasSizes, PortSizes, bare, block_items, check_change_items, check_items, later_items, port_change, port_change_items, port_items, value_item}
use Rattle.vcd_laws.proofs.ReadItems.{AreChanges, all_times_are, bare_times, check_change_is, check_is_change, first_are_changes, first_changes, later_times, port_change_is, row_are_changes, row_changes}
use Rattle.vcd_laws.proofs.ReadValues.{length_digits}

-- ---- items without a fault

-- so many digits fit a size, if there is one
abbrev Fits : List ℕ → Option ℕ → Type 0
Fits digits None = ⊥
Fits digits (Some size) = nat_lt size (length digits) ≡ false

-- no item has a fault, behind this time
abbrev pub Faultless : List Variable → ℕ → List Item → Type 0
Faultless declared now [] = Unit {0}
Faultless declared now (time at value ∷ items) = (nat_lt value now ≡ false) × Faultless declared value items
Faultless declared now (change at code digits ∷ items) = Fits digits (size_of declared code) × Faultless declared now items
Faultless declared now (misplaced at ∷ items) = ⊥
Faultless declared now (unfinished at ∷ items) = ⊥

fits_gives : (at : ℕ) (digits : List ℕ) (size : Option ℕ) → Fits digits size → change_fault at digits size ≡ None
fits_gives at digits None fits = absurd fits
fits_gives at digits (Some size) fits = ap (λ test. fault_if test (TooWide at)) fits

test_fails : (test : Bool) (fault : VcdFault) → fault_if test fault ≡ None → test ≡ false
test_fails true fault none = absurd (cc)
test_fails false fault none = refl

gives_fits : (at : ℕ) (digits : List ℕ) (size : Option ℕ) → change_fault at digits size ≡ None → Fits digits size
gives_fits at digits None none = absurd (cc)
gives_fits at digits (Some size) none = test_fails (nat_lt size (length digits)) (TooWide at) none

first_none : (first later : Option VcdFault) → option_or first later ≡ None → first ≡ None
first_none None later none = refl
first_none (Some fault) later none = absurd (cc)

later_none : (first later : Option VcdFault) → option_or first later ≡ None → later ≡ None
later_none None later none = none
later_none (Some fault) later none = absurd (cc)

has_time : (n : ℕ) (ns : List ℕ) → (length (n ∷ ns) == 0) ≡ false
has_time n ns = grind arith

module _ (declared : List Variable) where
  none_first : (items before : List Item) (now : ℕ) → last_time before ≡ now → Faultless declared now items → first_fault (item_fault declared) before items ≡ None
  none_first [] before now last all = refl
  none_first (time at value ∷ items) before now last all =
      ap (λ fault. option_or fault (first_fault (item_fault declared) (before ++ time at value ∷ []) items))
      (ap (λ n. fault_if (nat_lt value n) (TimeBack at)) last ∙ ap (λ test. fault_if test (TimeBack at)) all.0)
      ∙ none_first items (before ++ time at value ∷ []) value (ap (λ o. unwrap_or o 0) (last_time_more before (time at value))) all.1
  none_first (change at code digits ∷ items) before now last all =
      ap (λ fault. option_or fault (first_fault (item_fault declared) (before ++ change at code digits ∷ []) items))
      (fits_gives at digits (size_of declared code) all.0)
      ∙ none_first items (before ++ change at code digits ∷ []) now (ap (λ o. unwrap_or o 0) (last_time_more before (change at code digits)) ∙ last) all.1
  none_first (misplaced at ∷ items) before now last all = absurd all
  none_first (unfinished at ∷ items) before now last all = absurd all

  first_faultless : (items before : List Item) (now : ℕ) → last_time before ≡ now → first_fault (item_fault declared) before items ≡ None → Faultless declared now items
  first_faultless [] before now last none = tt
  first_faultless (time at value ∷ items) before now last none =
      let later = first_fault (item_fault declared) (before ++ time at value ∷ []) items in (
        ap (nat_lt value) (sym last) ∙ test_fails (nat_lt value (last_time before)) (TimeBack at) (first_none (item_fault declared before (time at value)) later none),
        first_faultless items (before ++ time at value ∷ []) value (ap (λ o. unwrap_or o 0) (last_time_more before (time at value))) (later_none (item_fault declared before (time at value)) later none),
      )
  first_faultless (change at code digits ∷ items) before now last none =
      let later = first_fault (item_fault declared) (before ++ change at code digits ∷ []) items in (
        gives_fits at digits (size_of declared code) (first_none (item_fault declared before (change at code digits)) later none),
        first_faultless items (before ++ change at code digits ∷ []) now (ap (λ o. unwrap_or o 0) (last_time_more before (change at code digits)) ∙ last) (later_none (item_fault declared before (change at code digits)) later none),
      )
  first_faultless (misplaced at ∷ items) before now last none = absurd (cc)
  first_faultless (unfinished at ∷ items) before now last none = absurd (cc)

  -- places do not matter
  bare_faultless : (items : List Item) (now : ℕ) → Faultless declared now (map bare items) → Faultless declared now items
  bare_faultless [] now all = tt
  bare_faultless (time at value ∷ items) now all = (all.0, bare_faultless items value all.1)
  bare_faultless (change at code digits ∷ items) now all = (all.0, bare_faultless items now all.1)
  bare_faultless (misplaced at ∷ items) now all = absurd all
  bare_faultless (unfinished at ∷ items) now all = absurd all

  pub bare_fault : (items : List Item) → body_fault declared (map bare items) ≡ None → body_fault declared items ≡ None
  bare_fault items none =
      let first = first_fault (item_fault declared) [] (map bare items) in
      let no_time = fault_if (length (all_times (map bare items)) == 0) NoTime in
      ap (λ fault. option_or fault (fault_if (length (all_times items) == 0) NoTime))
      (none_first items [] 0 refl (bare_faultless items 0 (first_faultless (map bare items) [] 0 refl (first_none first no_time none))))
      ∙ ap (λ all. fault_if (length all == 0) NoTime) (sym (bare_times items))
      ∙ later_none first no_time none

  -- ---- what is written

  faultless_append : (now : ℕ) (front back : List Item) → AreChanges front → Faultless declared now front → Faultless declared now back → Faultless declared now (front ++ back)
  faultless_append now [] back are left right = right
  faultless_append now (time at value ∷ front) back are left right = absurd are
  faultless_append now (change at code digits ∷ front) back are left right = (left.0, faultless_append now front back are left.1 right)
  faultless_append now (misplaced at ∷ front) back are left right = absurd are
  faultless_append now (unfinished at ∷ front) back are left right = absurd are

  fits : (code digits : List ℕ) (size : ℕ) → size_of declared code ≡ Some size → length digits ≤ size → Fits digits (size_of declared code)
  fits code digits size is h = subst (Fits digits) (sym is) (le-ltb size (length digits) h)

  bit_fits : (code : List ℕ) (bit : Bool) → size_of declared code ≡ Some 1 → Fits (bit_digits (bit ∷ [])) (size_of declared code)
  bit_fits code bit is = fits code (bit_digits (bit ∷ [])) 1 is (omega arith)

  -- a check's bit has a size, where there is one
  abbrev pub CheckFits : Option Bool → Type 0
  CheckFits check = is_some check ≡ true → size_of declared check_code ≡ Some 1

  check_faultless : (now : ℕ) (check : Option Bool) → CheckFits check → Faultless declared now (check_items check)
  check_faultless now None is = tt
  check_faultless now (Some bit) is = (bit_fits check_code bit (is refl), tt)

  check_change_faultless : (now : ℕ) (before check : Option Bool) → CheckFits check → Faultless declared now (check_change_items before check)
  check_change_faultless now None check is = check_faultless now check is
  check_change_faultless now (Some before) None is = tt
  check_change_faultless now (Some before) (Some bit) is = by (beq before bit)
    where
      by : (test : Bool) → Faultless declared now (if test then [] else check_items (Some bit))
      by true = tt
      by false = (bit_fits check_code bit (is refl), tt)

  bits_fit : (code : List ℕ) (width : ℕ) (row : List Bool) → size_of declared code ≡ Some width → Fits (bit_digits (take width row)) (size_of declared code)
  bits_fit code width row is = fits code (bit_digits (take width row)) width is (omega (arith, length_digits (take width row), length-take width row))

  ports_faultless : (now number : ℕ) (ports : List PortLabel) (row : List Bool) → PortSizes declared number ports → Faultless declared now (port_items number ports row)
  ports_faultless now number [] row sizes = tt
  ports_faultless now number (port ∷ ports) row sizes = (bits_fit (code_of number) port.width row sizes.0, ports_faultless now (number + 1) ports (drop port.width row) sizes.1)

  port_change_faultless : (now number width : ℕ) (before row : List Bool) → size_of declared (code_of number) ≡ Some width → Faultless declared now (port_change number before (take width row))
  port_change_faultless now number width before row is = by (are_same before (take width row))
    where
      by : (test : Bool) → Faultless declared now (if test then [] else value_item (code_of number) (take width row) ∷ [])
      by true = tt
      by false = (bits_fit (code_of number) width row is, tt)

  port_changes_faultless : (now number : ℕ) (ports : List PortLabel) (before row : List Bool) → PortSizes declared number ports → Faultless declared now (port_change_items number ports before row)
  port_changes_faultless now number [] before row sizes = tt
  port_changes_faultless now number (port ∷ ports) before row sizes =
      faultless_append now (port_change number (take port.width before) (take port.width row)) (port_change_items (number + 1) ports (drop port.width before) (drop port.width row))
      (port_change_is number (take port.width before) (take port.width row))
      (port_change_faultless now number port.width (take port.width before) row sizes.0)
      (port_changes_faultless now (number + 1) ports (drop port.width before) (drop port.width row) sizes.1)

  check_of_fits : (labels : Labels) (checks : Option (List Bool)) (i : ℕ) → HasSizes declared labels (is_some checks) → CheckFits (check_of checks i)
  check_of_fits labels None i sizes some = absurd (cc)
  check_of_fits labels (Some bits) i sizes some = sizes.check refl

  module _ (labels : Labels) (checks : Option (List Bool)) (sizes : HasSizes declared labels (is_some checks)) where
    later_faultless : (i : ℕ) (before : List Bool) (rows : List (List Bool)) → Faultless declared (row_time i) (later_items labels.ports checks i before rows)
    later_faultless i before [] = tt
    later_faultless i before (row ∷ rows) =
        let changes = row_changes labels.ports (check_of checks i) before (check_of checks (i + 1)) row in
        let next = row_time (i + 1) in (
          le-ltb (edge_time i) (row_time i) (omega arith),
          (
            bit_fits clock_code true sizes.clock,
            (
              le-ltb (row_time (i + 1)) (edge_time i) (omega arith),
              (
                bit_fits clock_code false sizes.clock,
                faultless_append next changes (later_items labels.ports checks (i + 1) row rows)
                    (row_are_changes labels.ports (check_of checks i) before (check_of checks (i + 1)) row)
                    (faultless_append next (check_change_items (check_of checks i) (check_of checks (i + 1))) (port_change_items first_port labels.ports before row)
                    (check_change_is (check_of checks i) (check_of checks (i + 1)))
                    (check_change_faultless next (check_of checks i) (check_of checks (i + 1)) (check_of_fits labels checks (i + 1) sizes))
                    (port_changes_faultless next first_port labels.ports before row sizes.ports))
                    (later_faultless (i + 1) row rows),
              ),
            ),
          ),
        )

    blocks_faultless : (row : List Bool) (rows : List (List Bool)) → Faultless declared 0 (block_items labels.ports checks (row ∷ rows))
    blocks_faultless row rows =
        let changes = first_changes labels.ports (check_of checks 0) row in (
          le-ltb (row_time 0) 0 (omega arith),
          (
            bit_fits clock_code false sizes.clock,
            faultless_append (row_time 0) changes (later_items labels.ports checks 0 row rows)
                (first_are_changes labels.ports (check_of checks 0) row)
                (faultless_append (row_time 0) (check_items (check_of checks 0)) (port_items first_port labels.ports row)
                (check_is_change (check_of checks 0))
                (check_faultless (row_time 0) (check_of checks 0) (check_of_fits labels checks 0 sizes))
                (ports_faultless (row_time 0) first_port labels.ports row sizes.ports))
                (later_faultless 0 row rows),
          ),
        )

    pub blocks_have_no_fault : (rows : List (List Bool)) → 0 < length rows → body_fault declared (block_items labels.ports checks rows) ≡ None
    blocks_have_no_fault [] some = absurd (omega arith)
    blocks_have_no_fault (row ∷ rows) some =
        ap (λ fault. option_or fault (fault_if (length (all_times (block_items labels.ports checks (row ∷ rows))) == 0) NoTime))
        (none_first (block_items labels.ports checks (row ∷ rows)) [] 0 refl (blocks_faultless row rows))
        ∙ ap (λ all. fault_if (length all == 0) NoTime) (all_times_are labels.ports checks row rows)
        ∙ ap (λ test. fault_if test NoTime) (has_time (row_time 0) (later_times 0 rows))
