-- The runs of machines that are the same.
use Rattle.std.proofs.Common.{◌≡◌, ◌↔◌, ◌<◌, ℕ, zero, suc, List, [], ◌∷◌, All, Bool, true, false, Some, ap, arith, cond, get_or, length, refl, set, slice_get, subst, sym, take, ◌∙◌}
use Rattle.std.proofs.lemmas.List.{length-set}
use Rattle.std.proofs.lemmas.List.FromFn.{get_or-map-range_with_len, length-map-range_with_len}
use Rattle.std.proofs.lemmas.Option.{get_or_from_slice_get, slice_get-get_or, slice_get_within}
use Rattle.trace_rows.specs.Cut.{cut}
use Rattle.trace_rows.specs.Drop.{dropped, dropped_row, is_held, value_before}
use Rattle.trace_rows.specs.Events.{IsEvent}
use Rattle.trace_rows.specs.Minimal.{IsDistinct, IsMinimal, IsTight, NoCutViolates, NoDropViolates}
use Rattle.trace_rows.proofs.CutLemmas.{All-cut}
use Rattle.machine_laws.specs.Machines.{AreSame}
use Rattle.machine_laws.specs.Runs.{AreWide, HaveSameRuns}
use Rattle.trace_rows.specs.Machine.{Machine}
use Rattle.trace_rows.specs.Run.{IsFirstAtLast, Violates, ViolatesAt, checks_from, state_after, state_at}

-- the first rows are as wide as all
first_wide : (inputs : ℕ) (rows : List (List Bool)) → AreWide inputs rows → (count : ℕ) → AreWide inputs (take count rows)
first_wide inputs rows wide zero cycle row at = absurd (cc)
first_wide inputs [] wide (suc count) cycle row at = absurd (cc)
first_wide inputs (first ∷ rows) wide (suc count) zero row at = wide zero row at
first_wide inputs (first ∷ rows) wide (suc count) (suc cycle) row at =
    first_wide inputs rows (λ cycle row at. wide (suc cycle) row at) count cycle row at

-- ---- the width of rows

all_wide : (inputs : ℕ) (rows : List (List Bool)) → AreWide inputs rows → All (λ row. length row ≡ inputs) rows
all_wide inputs rows wide i d within = wide i (get_or rows i d) (slice_get-get_or rows i d within)

wide_all : (inputs : ℕ) (rows : List (List Bool)) → All (λ row. length row ≡ inputs) rows → AreWide inputs rows
wide_all inputs rows all cycle row at =
    subst (λ r. length r ≡ inputs) (get_or_from_slice_get rows cycle row row at)
    (all cycle row (slice_get_within rows cycle row at))

-- the rows but one are as wide
cut_wide : (inputs : ℕ) (rows : List (List Bool)) (i : ℕ) → AreWide inputs rows → AreWide inputs (cut rows i)
cut_wide inputs rows i wide =
    wide_all inputs (cut rows i) (All-cut (λ row. length row ≡ inputs) rows i (all_wide inputs rows wide))

-- a bit is set, or not
held_count : (held value : Bool) (row : List Bool) (b : ℕ) → length (cond held (set row b value) row) ≡ length row
held_count true value row b = length-set row b value
held_count false value row b = refl

-- and so are the rows without an event
drop_wide : (inputs : ℕ) (base : List Bool) (rows : List (List Bool)) (i b : ℕ) → AreWide inputs rows
    → AreWide inputs (dropped base rows i b)
drop_wide inputs base rows i b wide =
    wide_all inputs (dropped base rows i b) (λ j d within.
    let below : j < length rows = omega (arith, within, length-map-range_with_len (dropped_row base rows i b) 0 (length rows)) in
    subst (λ row. length row ≡ inputs)
    (sym (get_or-map-range_with_len (dropped_row base rows i b) 0 (length rows) j j d below (omega arith)))
    (held_count (is_held base rows i b j) (value_before base rows i b) (get_or rows j []) b
    ∙ all_wide inputs rows wide j [] below))

module _ (registers inputs : ℕ) (one other : Machine) (same : AreSame registers inputs one other) where
  after_same : (rows : List (List Bool)) → AreWide inputs rows → (state : List Bool) → length state ≡ registers
      → (state_after one state rows ≡ state_after other state rows) × (length (state_after one state rows) ≡ registers)
  after_same [] wide state count = (refl, count)
  after_same (row ∷ rows) wide state count =
      let row_count : length row ≡ inputs = wide zero row refl in
      let rest = after_same rows (λ cycle row at. wide (suc cycle) row at) (one.next state row) (same.stays state row count row_count) in
      (rest.0 ∙ ap (λ state. state_after other state rows) (same.next state row count row_count), rest.1)

  checks_same : (rows : List (List Bool)) → AreWide inputs rows → (state : List Bool) → length state ≡ registers
      → checks_from one state rows ≡ checks_from other state rows
  checks_same [] wide state count = refl
  checks_same (row ∷ rows) wide state count =
      let row_count : length row ≡ inputs = wide zero row refl in
      let rest = checks_same rows (λ cycle row at. wide (suc cycle) row at) (one.next state row) (same.stays state row count row_count) in
      λ j. same.bad state row count row_count j
      ∷ (rest ∙ ap (λ state. checks_from other state rows) (same.next state row count row_count)) j

  module _ (rows : List (List Bool)) (wide : AreWide inputs rows) where
    begun : (cycle : ℕ) → (state_at one rows cycle ≡ state_at other rows cycle) × (length (state_at one rows cycle) ≡ registers)
    begun cycle =
        let both = after_same (take cycle rows) (first_wide inputs rows wide cycle) one.start same.started in
        (both.0 ∙ ap (λ state. state_after other state (take cycle rows)) same.start, both.1)

    bad_same : (cycle : ℕ) (row : List Bool) → slice_get rows cycle ≡ Some row
        → one.bad (state_at one rows cycle) row ≡ other.bad (state_at other rows cycle) row
    bad_same cycle row at =
        same.bad (state_at one rows cycle) row (begun cycle).1 (wide cycle row at)
        ∙ ap (λ state. other.bad state row) (begun cycle).0

    there : (cycle : ℕ) → ViolatesAt one rows cycle → ViolatesAt other rows cycle
    there cycle (row, at, bad) = (row, at, sym (bad_same cycle row at) ∙ bad)

    back : (cycle : ℕ) → ViolatesAt other rows cycle → ViolatesAt one rows cycle
    back cycle (row, at, bad) = (row, at, bad_same cycle row at ∙ bad)

    last_there : IsFirstAtLast one rows → IsFirstAtLast other rows
    last_there is = record {
      last = is.last;
      is_last = is.is_last;
      violates = there is.last is.violates;
      first = λ cycle below violates. is.first cycle below (back cycle violates);
    }

    last_back : IsFirstAtLast other rows → IsFirstAtLast one rows
    last_back is = record {
      last = is.last;
      is_last = is.is_last;
      violates = back is.last is.violates;
      first = λ cycle below violates. is.first cycle below (there cycle violates);
    }

  both_violate : (rows : List (List Bool)) → AreWide inputs rows → Violates one rows ↔ Violates other rows
  both_violate rows wide = (
    λ violates. (violates.0, there rows wide violates.0 violates.1),
    λ violates. (violates.0, back rows wide violates.0 violates.1),
  )

  cuts : (rows : List (List Bool)) → AreWide inputs rows → (i : ℕ) → Violates one (cut rows i) ↔ Violates other (cut rows i)
  cuts rows wide i = both_violate (cut rows i) (cut_wide inputs rows i wide)

  no_cuts : (rows : List (List Bool)) → AreWide inputs rows → NoCutViolates one rows ↔ NoCutViolates other rows
  no_cuts rows wide = (
    λ none i within violates. none i within ((cuts rows wide i).1 violates),
    λ none i within violates. none i within ((cuts rows wide i).0 violates),
  )

  -- the trace without an event, by the base row of either
  drops : (rows : List (List Bool)) → AreWide inputs rows → (i b : ℕ)
      → Violates one (dropped one.base rows i b) ↔ Violates other (dropped other.base rows i b)
  drops rows wide i b =
      subst (λ base. Violates one (dropped one.base rows i b) ↔ Violates other (dropped base rows i b)) same.base
      (both_violate (dropped one.base rows i b) (drop_wide inputs one.base rows i b wide))

  no_drops : (rows : List (List Bool)) → AreWide inputs rows → NoDropViolates one rows ↔ NoDropViolates other rows
  no_drops rows wide = (
    λ none i b is violates.
        none i b (subst (λ base. IsEvent base rows i b) (sym same.base) is) ((drops rows wide i b).1 violates),
    λ none i b is violates.
        none i b (subst (λ base. IsEvent base rows i b) same.base is) ((drops rows wide i b).0 violates),
  )

  minimals : (rows : List (List Bool)) → AreWide inputs rows → IsMinimal one rows ↔ IsMinimal other rows
  minimals rows wide = (
    λ is. record { no_cut = (no_cuts rows wide).0 is.no_cut; no_drop = (no_drops rows wide).0 is.no_drop },
    λ is. record { no_cut = (no_cuts rows wide).1 is.no_cut; no_drop = (no_drops rows wide).1 is.no_drop },
  )

  distincts : (rows : List (List Bool)) → AreWide inputs rows → IsDistinct one rows ↔ IsDistinct other rows
  distincts rows wide = (
    λ apart i j before within equal.
        apart i j before within ((begun rows wide i).0 ∙ equal ∙ sym (begun rows wide j).0),
    λ apart i j before within equal.
        apart i j before within (sym (begun rows wide i).0 ∙ equal ∙ (begun rows wide j).0),
  )

  -- the rows of another way are as wide as those of a trace
  way_wide : (others : List (List Bool)) → All (λ row. length row ≡ length one.base) others → AreWide inputs others
  way_wide others all = wide_all inputs others (subst (λ n. All (λ row. length row ≡ n) others) same.width all)

  -- another way ends alike
  ways : (rows : List (List Bool)) → AreWide inputs rows → (a : ℕ) (others : List (List Bool)) → AreWide inputs others
      → state_after one (state_at one rows a) others ≡ state_after other (state_at other rows a) others
  ways rows wide a others wide_others =
      (after_same others wide_others (state_at one rows a) (begun rows wide a).1).0
      ∙ ap (λ state. state_after other state others) (begun rows wide a).0

  tights : (rows : List (List Bool)) → AreWide inputs rows → (a b : ℕ) → IsTight one rows a b ↔ IsTight other rows a b
  tights rows wide a b = (
    λ tight others all fewer ends.
        let all_one : All (λ row. length row ≡ length one.base) others =
        subst (λ (base : List Bool). All (λ row. length row ≡ length base) others) (sym same.base) all in
        tight others all_one fewer (ways rows wide a others (way_wide others all_one) ∙ ends ∙ sym (begun rows wide b).0),
    λ tight others all fewer ends.
        tight others (subst (λ (base : List Bool). All (λ row. length row ≡ length base) others) same.base all) fewer
        (sym (ways rows wide a others (way_wide others all)) ∙ ends ∙ (begun rows wide b).0),
  )

  pub same_runs : HaveSameRuns registers inputs one other
  same_runs = record {
    after = λ rows wide state count. (after_same rows wide state count).0;
    states = λ rows wide cycle. (begun rows wide cycle).0;
    checks =
        λ rows wide. checks_same rows wide one.start same.started ∙ ap (λ state. checks_from other state rows) same.start;
    violates_at = λ rows wide cycle. (there rows wide cycle, back rows wide cycle);
    violates = both_violate;
    first_at_last = λ rows wide. (last_there rows wide, last_back rows wide);
    cut = cuts;
    no_cut = no_cuts;
    minimal = minimals;
    distinct = distincts;
    tight = tights;
  }
