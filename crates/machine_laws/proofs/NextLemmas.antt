-- The next states and the checkers of a design and of its flat netlist.
use Rattle.std.proofs.Common.{◌≡◌, ◌<◌, ℕ, zero, suc, List, [], ◌∷◌, Bool, false, ◌&&◌, ◌==◌, fold, replicate, Option, None, Some, ap, arith, length, not, option_map, refl, slice_get, sym, ◌∙◌}
use Rattle.std.specs.List.{zip}
use Rattle.std.specs.Option.{option_and_then}
use Rattle.elab.specs.Plans.{reset_at, reset_of}
use Rattle.flat_design.specs.Values.{HasValues}
use Rattle.machine_laws.specs.Machines.{AreSame, level_of}
use Rattle.rule_laws.specs.Reset.{IsResetOf}
use Rattle.machine_laws.proofs.RowLemmas.{no_row, place_is, row_is}
use Rattle.vlog_tree.specs.declared.design.Module.{Module}
use Rattle.vlog_tree.specs.Meaning.Instances.{top_module}
use Rattle.vlog_tree.specs.Meaning.Uses.{Text}
use Rattle.std.proofs.lemmas.List.{length-map}
use Rattle.std.proofs.lemmas.List.FromFn.{length-map-range_with_len}
use Rattle.std.proofs.lemmas.Option.{same_Some, slice_get-map, slice_get_within}
use Rattle.flat_design.specs.Flat.{flat}
use Rattle.flat_net.specs.declared.edge.Edge.{Edge}
use Rattle.flat_net.specs.declared.setup.Reset.{Reset}
use Rattle.flat_net.specs.Values.{edge_value_of}
use Rattle.levelise.specs.Machine.{known}
use Rattle.levelise.specs.Machine as net
use Rattle.loop_laws.specs.Loops.{IsClockedDesign, LoopsAreOfNodes}
use Rattle.vlog_tree.specs.Meaning.Keys.{input_keys, register_keys}
use Rattle.vlog_tree.specs.Meaning.Setting.{Setting}
use Rattle.vlog_tree.specs.Meaning.Step as design
use Rattle.vlog_tree.specs.Meaning.Value.{IsLoopFree}

-- ---- lists

pub same_lists : {X : Type 0} (xs ys : List X) → length xs ≡ length ys
    → ((i : ℕ) (x : X) → slice_get xs i ≡ Some x → slice_get ys i ≡ Some x) → xs ≡ ys
same_lists [] [] count each = refl
same_lists [] (y ∷ ys) count each = absurd (omega (arith, count))
same_lists (x ∷ xs) [] count each = absurd (omega (arith, count))
same_lists (x ∷ xs) (y ∷ ys) count each =
    λ j. same_Some x y (sym (each 0 x refl)) j
    ∷ same_lists xs ys (let same : length xs ≡ length ys = omega (arith, count) in same) (λ i z at. each (suc i) z at) j

some_at : {X : Type 0} (xs : List X) (i : ℕ) → i < length xs → (x : X) × (slice_get xs i ≡ Some x)
some_at [] i below = absurd (omega arith)
some_at (x ∷ xs) zero below = (x, refl)
some_at (x ∷ xs) (suc i) below = some_at xs i (omega arith)

pub zip_count : {X Y : Type 0} (xs : List X) (ys : List Y) → length xs ≡ length ys → length (zip xs ys) ≡ length xs
zip_count [] ys count = refl
zip_count (x ∷ xs) [] count = absurd (omega (arith, count))
zip_count (x ∷ xs) (y ∷ ys) count =
    let rest : length (zip xs ys) ≡ length xs = zip_count xs ys (let same : length xs ≡ length ys = omega (arith, count) in same) in
    omega (arith, rest)

-- ---- next states

module _ (loops : LoopsAreOfNodes) (setting : Setting) (clocked : IsClockedDesign setting) (few : length (flat setting).nodes < 4294967296) (free : IsLoopFree setting) (counted : length (flat setting).next ≡ length (register_keys setting)) where
  module _ (state row : List Bool) (state_count : length state ≡ length (register_keys setting)) (row_count : length row ≡ length (input_keys setting)) where
    abbrev after : List Bool
    after = design.next setting state row

    abbrev value_of : Edge → Bool
    value_of edge = known (edge_value_of (flat setting) state row edge)

    pub after_count : length after ≡ length (register_keys setting)
    after_count =
        length-map (zip (register_keys setting) state) _ ∙ zip_count (register_keys setting) state (sym state_count)

    at : (i : ℕ) (edge : Edge) → slice_get (flat setting).next i ≡ Some edge → slice_get after i ≡ Some (value_of edge)
    at i edge there =
        let below : i < length after =
        omega (arith, slice_get_within (flat setting).next i edge there, after_count, counted) in
        let found : (bit : Bool) × (slice_get after i ≡ Some bit) = some_at after i below in
        let valued : edge_value_of (flat setting) state row edge ≡ Some found.0 =
        loops.steps setting clocked few free state row state_count row_count i edge there ∙ found.1 in
        found.1 ∙ ap Some (sym (ap known valued))

    of_map : (i : ℕ) (bit : Bool) (found : Option Edge) → slice_get (flat setting).next i ≡ found → option_map value_of found ≡ Some bit
        → slice_get after i ≡ Some bit
    of_map i bit None there is = absurd (cc)
    of_map i bit (Some edge) there is = at i edge there ∙ is

    pub next_same : net.next (flat setting) state row ≡ after
    next_same =
        same_lists (net.next (flat setting) state row) after
        (length-map (flat setting).next value_of ∙ counted ∙ sym after_count)
        (λ i bit there. of_map i bit (slice_get (flat setting).next i) refl (sym (slice_get-map value_of (flat setting).next i) ∙ there))

  -- ---- reset cycles

  folded : (row : List Bool) → length row ≡ length (input_keys setting) → (cycles : ℕ) (state : List Bool)
      → length state ≡ length (register_keys setting)
      → (fold (net.next (flat setting)) state (replicate cycles row) ≡ fold (design.next setting) state (replicate cycles row))
      × (length (fold (design.next setting) state (replicate cycles row)) ≡ length (register_keys setting))
  folded row row_count zero state state_count = (refl, state_count)
  folded row row_count (suc cycles) state state_count =
      let rest = folded row row_count cycles (design.next setting state row) (after_count state row state_count row_count) in (
        ap (λ state. fold (net.next (flat setting)) state (replicate cycles row)) (next_same state row state_count row_count) ∙ rest.0,
        rest.1,
      )

  power_count : length (design.power_up setting) ≡ length (register_keys setting)
  power_count = length-map (register_keys setting) (design.power_up_bit setting)

  module _ (m : Module) (top : top_module setting ≡ Some m) (is : IsResetOf setting m) where
    started : (reset : Option (Text × Bool)) → setting.reset ≡ reset
        → (fold (net.next (flat setting)) (design.power_up setting)
        (net.reset_rows (flat setting) setting.reset_cycles (option_and_then (reset_of setting) reset))
        ≡ fold (design.next setting) (design.power_up setting) (design.reset_rows setting reset))
        × (length (fold (design.next setting) (design.power_up setting) (design.reset_rows setting reset)) ≡ length (register_keys setting))
    started None there = (refl, power_count)
    started (Some (name, active)) there =
        let rows = row_is setting m top name (is.input name active there) (is.apart name active there) (is.one_bit name active there) active in
        let both = folded (design.row_with setting name active) (length-map (input_keys setting) _) setting.reset_cycles
        (design.power_up setting) power_count in (
          ap (λ rows. fold (net.next (flat setting)) (design.power_up setting) rows)
              (ap (λ place. net.reset_rows (flat setting) setting.reset_cycles (option_map (reset_at active) place))
              (place_is setting m top name (is.input name active there) (is.apart name active there) (is.one_bit name active there))
              ∙ ap (λ row. replicate setting.reset_cycles row) rows)
              ∙ both.0,
          both.1,
        )

    based : (reset : Option (Text × Bool)) → setting.reset ≡ reset
        → net.base_row (flat setting) (option_and_then (reset_of setting) reset) ≡ design.base_row setting reset
    based None there = no_row setting
    based (Some (name, active)) there =
        ap (λ place. net.base_row (flat setting) (option_map (reset_at active) place))
        (place_is setting m top name (is.input name active there) (is.apart name active there) (is.one_bit name active there))
        ∙ row_is setting m top name (is.input name active there) (is.apart name active there) (is.one_bit name active there) (not active)

    base_width : (reset : Option Reset) → length (net.base_row (flat setting) reset) ≡ length (input_keys setting)
    base_width None = length-map-range_with_len (λ (place : ℕ). false) 0 (length (input_keys setting))
    base_width (Some reset) =
        length-map-range_with_len (λ (place : ℕ). (place == reset.bit) && not reset.active) 0 (length (input_keys setting))

    pub machines_same : HasValues setting (flat setting)
        → AreSame (length (register_keys setting)) (length (input_keys setting)) (net.machine (level_of setting)) (design.machine setting)
    machines_same values = record {
      start = (started setting.reset refl).0;
      started = ap length (started setting.reset refl).0 ∙ (started setting.reset refl).1;
      next = next_same;
      stays = λ state row state_count row_count. ap length (next_same state row state_count row_count) ∙ after_count state row state_count row_count;
      bad = values.check;
      base = based setting.reset refl;
      width = base_width (option_and_then (reset_of setting) setting.reset);
    }
