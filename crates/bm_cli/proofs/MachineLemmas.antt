-- What one machine says of a trace, the same machine says.
use Rattle.std.proofs.Common.{◌≡◌, ◌⊎◌, inl, inr, ℕ, zero, suc, ◌==◌, ◌&&◌, not, Option, None, ◌-◌, ◌<◌, ◌≤◌, List, [], ◌∷◌, Bool, true, false, All, Some, Ok, ap, arith, get_or, length, position, replicate, set, slice_get, subst, sym, take, ◌∙◌}
use Rattle.std.proofs.lemmas.List.{length-take, take_all}
use Rattle.std.proofs.lemmas.List.Elements.{All-take}
use Rattle.std.proofs.lemmas.List.FromFn.{length-map-range_with_len}
use Rattle.std.proofs.lemmas.List.Quantifiers.{position-Some}
use Rattle.std.proofs.lemmas.Option.{get_or_from_slice_get, none-some, slice_get_within}
use Rattle.bm_check.specs.Verdicts.{IsVerdict}
use Rattle.bm_check.specs.declared.verdict.Reason.TheVariants.{Cut, NotFirstAtLast}
use Rattle.bm_check.specs.declared.verdict.Verdict.{Verdict}
use Rattle.bm_check.specs.declared.verdict.Verdict.TheVariants.{No, Yes}
use Rattle.bm_minimise.specs.Shortened.{IsShortened}
use Rattle.cycle_cut.specs.Cuts.{HasLeastCut, IsAccepted}
use Rattle.flat_net.specs.declared.setup.Reset.{Reset}
use Rattle.flat_net.specs.Nets.{Net}
use Rattle.levelise.specs.Machine.{Level}
use Rattle.levelise.specs.Machine as net
use Rattle.machine_laws.specs.Machines.{AreSame}
use Rattle.machine_laws.specs.Runs.{AreWide, HaveSameRuns, SameHaveRuns}
use Rattle.trace_rows.specs.declared.labels.Labels.{Labels}
use Rattle.trace_rows.specs.Events.{event_count}
use Rattle.trace_rows.specs.Machine.{Machine}
use Rattle.trace_rows.specs.Run.{IsFirstAtLast, Violates, checks}
use Rattle.trace_rows.specs.Writable.{AreWritable}
use Rattle.trace_rows.proofs.ViolationLemmas.{checks-length, checks_cut, last_is_first, violates_entry}
use Rattle.vcd_laws.specs.Laws.{AreRowsOf, WrittenIsRead}
use Rattle.vcd_reader.specs.Rows.{Reading}
use Rattle.vcd_reader.specs.Waveform.{waveform}
use Rattle.vcd_writer.specs.Value.{row_width}
use Rattle.vcd_writer.specs.Waveform.{vcd}
use Rattle.bm_cli.specs.Counted.{events_of, summary_of}
use Rattle.bm_cli.specs.Minimised.{IsMinimised, IsNoMore}
use Rattle.bm_cli.specs.declared.answer.Summary.{Summary}

-- ---- the checker's bits of a trace that violates in its last cycle alone

-- Bits up to the first 1 are 0, but the last.
bits_up_to : (cycle : ℕ) (bits : List Bool) → cycle < length bits → get_or bits cycle false ≡ true
    → ((k : ℕ) → k < cycle → get_or bits k false ≡ false) → set (replicate (suc cycle) false) cycle true ≡ take (suc cycle) bits
bits_up_to cycle [] within at before = absurd (omega arith)
bits_up_to zero (bit ∷ bits) within at before = ap (λ b. b ∷ []) (sym at)
bits_up_to (suc cycle) (bit ∷ bits) within at before =
    let first : bit ≡ false = before 0 (omega arith) in
    let rest : set (replicate (suc cycle) false) cycle true ≡ take (suc cycle) bits =
    bits_up_to cycle bits (omega arith) at (λ k lt. before (suc k) (omega arith)) in
    ap (λ b. b ∷ set (replicate (suc cycle) false) cycle true) (sym first) ∙ ap (λ others. bit ∷ others) rest

bits_cut : (bits : List Bool) (cycle : ℕ) → position (λ bit. bit) bits ≡ Some cycle
    → set (replicate (suc cycle) false) cycle true ≡ take (suc cycle) bits
bits_cut bits cycle e =
    let first = position-Some (λ bit. bit) bits cycle false e in
    bits_up_to cycle bits first.0 first.1 first.2

pub bits_of_end : (machine : Machine) (rows : List (List Bool)) → IsFirstAtLast machine rows
    → set (replicate (length rows) false) (length rows - 1) true ≡ checks machine rows
bits_of_end machine rows first =
    let bits : List Bool = checks machine rows in
    let many : suc (length rows - 1) ≡ length rows = let last = first.is_last in omega (arith, last) in
    subst (λ n. set (replicate n false) (length rows - 1) true ≡ take n bits) many
    (bits_cut bits (length rows - 1) (last_is_first machine rows first))
    ∙ take_all (length rows) bits (omega (arith, checks-length machine rows))

-- ---- violations of the first rows

entry_before : (n : ℕ) (bits : List Bool) (k : ℕ) (bit : Bool) → slice_get (take n bits) k ≡ Some bit → slice_get bits k ≡ Some bit
entry_before zero bits k bit at = absurd (none-some bit at)
entry_before (suc n) [] k bit at = at
entry_before (suc n) (first ∷ bits) zero bit at = at
entry_before (suc n) (first ∷ bits) (suc k) bit at = entry_before n bits k bit at

-- Where the first rows of a run violate, the run does.
pub violated_before : (machine : Machine) (rows : List (List Bool)) (n : ℕ) → IsFirstAtLast machine (take n rows) → Violates machine rows
violated_before machine rows n first =
    let at : slice_get (checks machine (take n rows)) first.last ≡ Some true = (violates_entry machine (take n rows) first.last).1 first.violates in
    let cut : slice_get (take n (checks machine rows)) first.last ≡ Some true =
    ap (λ bits. slice_get bits first.last) (sym (checks_cut machine n rows)) ∙ at in
    (first.last, (violates_entry machine rows first.last).0 (entry_before n (checks machine rows) first.last true cut))

-- ---- what is written

-- a trace that is left of some rows has no more
no_longer : (trace rows : List (List Bool)) (n : ℕ) → (trace ≡ take n rows) ⊎ (length trace < length (take n rows)) → length trace ≤ length rows
no_longer trace rows n (inl same) =
    let many : length trace ≡ length (take n rows) = ap length same in omega (arith, many, length-take n rows)
no_longer trace rows n (inr shorter) = omega (arith, shorter, length-take n rows)

no_more : (machine : Machine) (trace rows : List (List Bool)) → (trace ≡ rows) ⊎ (length trace < length rows) → IsNoMore machine trace rows
no_more machine trace rows (inl same) =
    inr (ap length same, let even : events_of machine trace ≡ events_of machine rows = ap (events_of machine) same in omega (arith, even))
no_more machine trace rows (inr shorter) = inl shorter

-- What is written of a trace is read back.
read_again : WrittenIsRead → (labels : Labels) → AreWritable labels → (trace : List (List Bool)) (bits : List Bool) (text : List ℕ)
    → 0 < length trace → length trace ≤ 1000000 → All (λ row. length row ≡ row_width labels.ports) trace → text ≡ vcd trace labels (Some bits)
    → waveform text labels None ≡ Ok (record { trace = record { width = row_width labels.ports; rows = trace }; unknown = 0 })
read_again law labels writable trace bits text some few widths written =
    let are : AreRowsOf labels trace = record { some = some; width = widths; times = omega (arith, few) } in
    ap (λ bytes. waveform bytes labels None) written ∙ law labels trace (Some bits) writable are

-- What was shortened and written is what is minimised.
pub is_minimised : WrittenIsRead → (machine : Machine) (labels : Labels) → AreWritable labels → (reading : Reading)
    → length reading.trace.rows ≤ 1000000 → (trace : List (List Bool)) → All (λ row. length row ≡ row_width labels.ports) trace
    → IsAccepted machine trace → IsShortened machine reading.trace.rows trace → (text : List ℕ)
    → text ≡ vcd trace labels (Some (checks machine trace)) → (summary : Summary)
    → summary ≡ summary_of machine reading.trace.rows reading.unknown trace → IsMinimised machine labels reading text summary
is_minimised law machine labels writable reading few trace widths accepted shorter text written summary counted = record {
  trace = trace;
  widths = widths;
  accepted = accepted;
  cycles = shorter.cycles;
  cut_off = shorter.cut_off;
  no_more = no_more machine trace (take shorter.cycles reading.trace.rows) shorter.kept;
  written = written;
  read_back =
      read_again law labels writable trace (checks machine trace) text
      (let last = accepted.first_at_last.is_last in omega (arith, last))
      (let fewer = no_longer trace reading.trace.rows shorter.cycles shorter.kept in omega (arith, fewer, few)) widths written;
  counted = counted;
}

-- ---- the row that events are counted from

base_row_width : (of : Net) (reset : Option Reset) → length (net.base_row of reset) ≡ of.inputs
base_row_width of None = length-map-range_with_len (λ (place : ℕ). false) 0 of.inputs
base_row_width of (Some reset) = length-map-range_with_len (λ (place : ℕ). (place == reset.bit) && not reset.active) 0 of.inputs

pub base_width : (level : Level) → length (net.machine level).base ≡ level.net.inputs
base_width level = base_row_width level.net level.setup.reset

-- ---- the other machine

wide_all : (inputs : ℕ) (rows : List (List Bool)) → All (λ row. length row ≡ inputs) rows → AreWide inputs rows
wide_all inputs rows all cycle row at =
    subst (λ r. length r ≡ inputs) (get_or_from_slice_get rows cycle row row at)
    (all cycle row (slice_get_within rows cycle row at))

module _ (law : SameHaveRuns) (registers inputs : ℕ) (one other : Machine) (same : AreSame registers inputs one other) where
  runs : HaveSameRuns registers inputs one other
  runs = law registers inputs one other same

  module _ (rows : List (List Bool)) (all : All (λ row. length row ≡ inputs) rows) where
    wide : AreWide inputs rows
    wide = wide_all inputs rows all

    pub same_violation : Violates other rows → Violates one rows
    same_violation = (runs.violates rows wide).1

    pub same_accepted : IsAccepted one rows → IsAccepted other rows
    same_accepted is = record {
      first_at_last = (runs.first_at_last rows wide).0 is.first_at_last;
      no_cut = (runs.no_cut rows wide).0 is.no_cut;
    }

    same_cut : (i : ℕ) → HasLeastCut one rows i → HasLeastCut other rows i
    same_cut i least = record {
      first_at_last = (runs.first_at_last rows wide).0 least.first_at_last;
      within = least.within;
      violates = (runs.cut rows wide i).0 least.violates;
      least = λ j below violates. least.least j below ((runs.cut rows wide j).1 violates);
    }

    pub same_verdict : (verdict : Verdict) → IsVerdict one rows verdict → IsVerdict other rows verdict
    same_verdict (Yes cycles events) (accepted, long, counted) =
        (same_accepted accepted, long, counted ∙ ap (λ base. event_count base rows) same.base)
    same_verdict (No NotFirstAtLast) none = λ first. none ((runs.first_at_last rows wide).1 first)
    same_verdict (No (Cut cycle)) least = same_cut cycle least

  same_no_more : (trace rows : List (List Bool)) → IsNoMore one trace rows → IsNoMore other trace rows
  same_no_more trace rows (inl shorter) = inl shorter
  same_no_more trace rows (inr (long, events)) =
      inr (long, subst (λ base. event_count base trace ≤ event_count base rows) same.base events)

  pub same_minimised : (labels : Labels) (reading : Reading) (text : List ℕ) (summary : Summary) → row_width labels.ports ≡ inputs
      → All (λ row. length row ≡ inputs) reading.trace.rows → IsMinimised one labels reading text summary
      → IsMinimised other labels reading text summary
  same_minimised labels reading text summary width all made =
      let trace_all : All (λ row. length row ≡ inputs) made.trace =
      subst (λ n. All (λ row. length row ≡ n) made.trace) width made.widths in
      let some_all : All (λ row. length row ≡ inputs) (take made.cycles reading.trace.rows) =
      All-take (λ row. length row ≡ inputs) made.cycles reading.trace.rows all in
      record {
        trace = made.trace;
        widths = made.widths;
        accepted = same_accepted made.trace trace_all made.accepted;
        cycles = made.cycles;
        cut_off =
            (runs.first_at_last (take made.cycles reading.trace.rows) (wide_all inputs (take made.cycles reading.trace.rows) some_all)).0
            made.cut_off;
        no_more = same_no_more made.trace (take made.cycles reading.trace.rows) made.no_more;
        written =
            made.written
            ∙ ap (λ bits. vcd made.trace labels (Some bits)) (runs.checks made.trace (wide_all inputs made.trace trace_all));
        read_back = made.read_back;
        counted =
            made.counted
            ∙ (λ j. record {
              cycles_before = length reading.trace.rows;
              events_before = event_count (same.base j) reading.trace.rows;
              cycles = length made.trace;
              events = event_count (same.base j) made.trace;
              unknown = reading.unknown;
            });
      }
