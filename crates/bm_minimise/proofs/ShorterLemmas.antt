-- What is left of traces.
use Rattle.std.specs.Prelude.{◌≡◌, ◌⊎◌, ℕ, ◌+◌, ◌<◌, List, Bool, Some, length, position, refl, take}
use Rattle.std.proofs.Common.{ap, arith, inl, inr, subst, sym}
use Rattle.std.proofs.lemmas.List.{length-take}
use Rattle.std.proofs.lemmas.Option.{slice_get_within}
use Rattle.trace_rows.specs.Cut.{cut, cut_rows}
use Rattle.trace_rows.specs.Machine.{Machine}
use Rattle.trace_rows.specs.Minimal.{NoCutViolates}
use Rattle.trace_rows.specs.Rows.{Rows, first_rows}
use Rattle.trace_rows.specs.Run.{IsFirstAtLast, Violates, checks}
use Rattle.trace_rows.proofs.CutLemmas.{length-cut}
use Rattle.trace_rows.proofs.ViolationLemmas.{first_at_last, first_violates}
use Rattle.cycle_cut.specs.Cuts.{NoCutFrom}
use Rattle.bm_minimise.specs.Shortened.{IsCutOff, IsNoViolation, IsShortened}
use Rattle.bm_minimise.specs.declared.fault.MinFault.{MinFault}
use Rattle.bm_minimise.specs.declared.fault.MinFault.TheVariants.{Memory, NoViolation}

-- ---- cut off after the first violation

pub cycle_within : (machine : Machine) (rows : List (List Bool)) (cycle : ℕ)
    → position (λ bit. bit) (checks machine rows) ≡ Some cycle → cycle < length rows
cycle_within machine rows cycle e =
    let v = first_violates machine rows cycle e in slice_get_within rows cycle v.0 v.1

pub cut_off_at : (machine : Machine) (before after : Rows) (cycle : ℕ)
    → position (λ bit. bit) (checks machine before.rows) ≡ Some cycle → after ≡ first_rows (cycle + 1) before
    → IsCutOff machine before.rows after.rows
cut_off_at machine before after cycle e made =
    let kept : after.rows ≡ take (cycle + 1) before.rows = ap (λ (trace : Rows). trace.rows) made in
    record {
      cycles = cycle + 1;
      kept = kept;
      first_at_last = subst (IsFirstAtLast machine) (sym kept) (first_at_last machine before.rows cycle e);
    }

-- ---- one cycle less

pub fewer : (machine : Machine) (before copy : Rows) (made : List (List Bool)) (i : ℕ) → i < length before.rows
    → copy ≡ cut_rows i before → IsCutOff machine copy.rows made → length made < length before.rows
fewer machine before copy made i within copied is =
    let many : length copy.rows ≡ length (cut before.rows i) = ap (λ (trace : Rows). length trace.rows) copied in
    omega (arith, within, many, ap length is.kept, length-take is.cycles copy.rows, length-cut before.rows i within)

-- Where there is a violation, memory alone is the reason.
only_memory : (machine : Machine) (rows : List (List Bool)) (fault : MinFault) → Violates machine rows
    → IsNoViolation machine rows fault → fault ≡ Memory
only_memory machine rows NoViolation v none = absurd (none refl v)
only_memory machine rows Memory v none = refl

pub memory_left : (machine : Machine) (before copy : Rows) (i : ℕ) (fault : MinFault) → copy ≡ cut_rows i before
    → Violates machine (cut before.rows i) → IsNoViolation machine copy.rows fault → fault ≡ Memory
memory_left machine before copy i fault copied v none =
    let rows_are : cut before.rows i ≡ copy.rows = ap (λ (trace : Rows). trace.rows) (sym copied) in
    only_memory machine copy.rows fault (subst (Violates machine) rows_are v) none

pub shorter_yet : (initial before after : List (List Bool)) → (before ≡ initial) ⊎ (length before < length initial)
    → length after < length before → length after < length initial
shorter_yet initial before after (inl same) less = subst (λ rows. length after < length rows) same less
shorter_yet initial before after (inr shorter) less = omega arith

-- A search from the first cycle that finds none leaves none.
pub none_goes : (machine : Machine) (rows : List (List Bool)) (place : ℕ) → place ≡ 0
    → NoCutFrom machine rows place (length rows) → NoCutViolates machine rows
none_goes machine rows place is none i within = none i (omega arith) within

-- ---- all of it

pub shortened : (machine : Machine) (rows trace made : List (List Bool)) → IsCutOff machine rows trace
    → (made ≡ trace) ⊎ (length made < length trace) → IsShortened machine rows made
shortened machine rows trace made is kept =
    let P : List (List Bool) → Type 0 = λ list. (made ≡ list) ⊎ (length made < length list) in
    record {
      cycles = is.cycles;
      cut_off = subst (IsFirstAtLast machine) is.kept is.first_at_last;
      kept = subst P is.kept kept;
    }
