-- What is kept of a body, step by step.
use Rattle.std.proofs.Common.{◌≡◌, ℕ, ◌+◌, ◌<◌, ◌≤◌, zero, suc, List, [], ◌∷◌, ◌++◌, All, Bool, true, false, cond, not, ◌&&◌, length, map, replicate, Option, Some, None, Result, Ok, Err, if◌then◌else◌, arith, refl, subst, sym, ap, ◌∙◌}
use Rattle.std.specs.List.{count_by, last_or}
use Rattle.std.specs.Option.{option_map}
use Rattle.std.proofs.lemmas.List.{append_assoc, map-append}
use Rattle.std.proofs.lemmas.List.Elements.{All-append}
use Rattle.std.proofs.lemmas.List.Sums.{sum_by-append, sum_by-cons}
use Rattle.trace_rows.specs.Rows.{Rows}
use Rattle.vcd_header.specs.declared.fault.VcdFault.{VcdFault}
use Rattle.vcd_header.specs.declared.fault.VcdFault.TheVariants.{Limit}
use Rattle.vcd_header.specs.Matching.{Source}
use Rattle.vcd_reader.specs.Changes.{Triple}
use Rattle.vcd_reader.specs.Rows.{Reading, is_edge, sampled}
use Rattle.vcd_reader.specs.Sampling.{HoldsRows, SampledAt, change_at, is_low_at, reading_at, rows_of}
use Rattle.vcd_reader.specs.Sources.{Clocked}
use Rattle.vcd_reader.specs.Targets.{is_unknown_at, targets_from, with_digits}
use Rattle.vcd_reader.specs.Values.{digit_given, is_unknown, unknown_by, unknown_count, value_after, value_at, values_at}
use Rattle.vcd_reader.specs.Waveform.{limit_passed, unless, within_limits}
use Rattle.vcd_reader.specs.declared.sampler.Sampler.{Sampler}
use Rattle.vcd_reader.proofs.TargetLemmas.{unknown_put, values_put}
use Rattle.vcd_reader.proofs.ValueLemmas.{change_gives, earlier_sampled, earlier_stay, edges_grow, last_of, nothing_comes, sampled_step}

-- ---- lists

map_same : {X Y : Type 0} (f g : X → Y) (xs : List X) → ((x : X) → f x ≡ g x) → map f xs ≡ map g xs
map_same f g [] same = refl
map_same f g (x ∷ xs) same = ap (λ y. y ∷ map f xs) (same x) ∙ ap (λ ys. g x ∷ ys) (map_same f g xs same)

some_inside : {X : Type 0} (x y : X) → Some x ≡ Some y → x ≡ y
some_inside x y h = cc

last_from_below : (bound x p : ℕ) (xs : List ℕ) → x < bound → All (λ time. time < bound) xs → last_or (Some x) xs ≡ Some p → p < bound
last_from_below bound x p [] h all is = subst (λ n. n < bound) (some_inside x p is) h
last_from_below bound x p (y ∷ xs) h all is = last_from_below bound y p xs (all 0 y (omega arith)) (λ k d h. all (suc k) d (omega arith)) is

last_below : (bound p : ℕ) (xs : List ℕ) → All (λ time. time < bound) xs → last_or None xs ≡ Some p → p < bound
last_below bound p [] all is = absurd (cc)
last_below bound p (x ∷ xs) all is = last_from_below bound x p xs (all 0 x (omega arith)) (λ k d h. all (suc k) d (omega arith)) is

-- a list of times is empty, or has a last one
data Ends (xs : List ℕ) : Type 0 where
  nothing : (is : xs ≡ []) → Ends xs
  last : (front : List ℕ) (p : ℕ) (is : xs ≡ front ++ p ∷ []) → Ends xs

one_before : (x : ℕ) (xs : List ℕ) → Ends xs → Ends (x ∷ xs)
one_before x xs (nothing is) = last [] x (ap (λ xs. x ∷ xs) is)
one_before x xs (last front p is) = last (x ∷ front) p (ap (λ xs. x ∷ xs) is)

ends : (xs : List ℕ) → Ends xs
ends [] = nothing refl
ends (x ∷ xs) = one_before x xs (ends xs)

-- ---- no change

pub no_values : (sources : List Source) (now n : ℕ) → length sources ≡ n → replicate n false ≡ map (value_at [] now) sources
no_values [] now n is = ap (λ n. replicate n false) (sym is)
no_values (source ∷ sources) now n is = ap (λ n. replicate n false) (sym is) ∙ ap (λ values. false ∷ values) (no_values sources now (length sources) refl)

pub nothing_sampled : (registers : ℕ) (sources : Clocked) (first n : ℕ) (sampler : Sampler) → length sources.inputs ≡ n
    → sampler.clock ≡ false → sampler.inputs ≡ replicate n false → sampler.is_low ≡ false → sampler.unknown ≡ 0 → HoldsRows registers n [] sampler.rows
    → SampledAt registers sources [] [] first sampler
nothing_sampled registers sources first n sampler wide clock inputs low unknown rows = record {
  below = λ k d h. absurd (omega arith);
  come = λ k d h. absurd (omega arith);
  clock_is = clock;
  inputs_are = inputs ∙ no_values sources.inputs first n wide;
  low_is = low;
  before_is = λ is. absurd (cc);
  unknown_is = unknown;
  rows_are = subst (λ n. HoldsRows registers n [] sampler.rows) (sym wide) rows;
}

-- ---- a change

module _ (changes : List Triple) (change : Triple) (sources : List Source) where
  values_stay : (time : ℕ) → time < change.time → values_at (changes ++ change ∷ []) sources time ≡ values_at changes sources time
  values_stay time h = map_same (value_at (changes ++ change ∷ []) time) (value_at changes time) sources (λ source. earlier_stay changes change time source h)

  before_stays : (o : Option ℕ) → ((p : ℕ) → o ≡ Some p → p < change.time) → option_map (values_at (changes ++ change ∷ []) sources) o ≡ option_map (values_at changes sources) o
  before_stays None h = refl
  before_stays (Some p) h = ap (λ values. Some values) (values_stay p (h p refl))

low_stays : (changes : List Triple) (change : Triple) (clock : Source) (o : Option ℕ) → ((p : ℕ) → o ≡ Some p → p < change.time) → is_low_at (changes ++ change ∷ []) clock o ≡ is_low_at changes clock o
low_stays changes change clock None h = refl
low_stays changes change clock (Some p) h = ap not (earlier_stay changes change p clock (h p refl))

module _ (bound : ℕ) (f g : ℕ → List Bool) (same : (time : ℕ) → time < bound → f time ≡ g time) (changes : List Triple) (clock : Source) where
  rows_same : (times : List ℕ) → All (λ time. time < bound) times → map f (sampled changes clock times) ≡ map g (sampled changes clock times)
  rows_same [] all = refl
  rows_same (time ∷ []) all = refl
  rows_same (before ∷ now ∷ times) all =
      ap (map f) (sampled_step changes clock before now times)
      ∙ by (is_edge changes clock (before, now)) (rows_same (now ∷ times) (λ k d h. all (suc k) d (omega arith))) (all 0 before (omega arith))
      ∙ ap (map g) (sym (sampled_step changes clock before now times))
    where
      by : (b : Bool) → map f (sampled changes clock (now ∷ times)) ≡ map g (sampled changes clock (now ∷ times)) → before < bound
          → map f ((if b then before ∷ [] else []) ++ sampled changes clock (now ∷ times)) ≡ map g ((if b then before ∷ [] else []) ++ sampled changes clock (now ∷ times))
      by true ih h = ap (λ row. row ∷ map f (sampled changes clock (now ∷ times))) (same before h) ∙ ap (λ rows. g before ∷ rows) ih
      by false ih h = ih

pub rows_stay : (changes : List Triple) (change : Triple) (clock : Source) (inputs : List Source) (times : List ℕ) → All (λ time. time < change.time) times
    → map (values_at (changes ++ change ∷ []) inputs) (sampled (changes ++ change ∷ []) clock times) ≡ map (values_at changes inputs) (sampled changes clock times)
rows_stay changes change clock inputs times all =
    ap (map (values_at (changes ++ change ∷ []) inputs)) (earlier_sampled changes change clock times all)
    ∙ rows_same change.time (values_at (changes ++ change ∷ []) inputs) (values_at changes inputs) (values_stay changes change inputs) changes clock times all

unknown_more : (changes : List Triple) (change : Triple) (clock : Source) (inputs : List Source)
    → unknown_count (changes ++ change ∷ []) (clock ∷ inputs) ≡ unknown_count changes (clock ∷ inputs) + (cond (is_unknown (digit_given clock change)) 1 0 + unknown_by inputs change)
unknown_more changes change clock inputs =
    sum_by-append (unknown_by (clock ∷ inputs)) changes (change ∷ [])
    ∙ ap (λ n. unknown_count changes (clock ∷ inputs) + n) (one (unknown_by (clock ∷ inputs) change) ∙ sum_by-cons (λ source. cond (is_unknown (digit_given source change)) 1 0) clock inputs)
  where
    one : (n : ℕ) → 0 + n ≡ n
    one n = omega arith

module _ (registers : ℕ) (sources : Clocked) (changes : List Triple) (earlier : List ℕ) (now : ℕ) (code digits : List ℕ) (old new : Sampler) where
  pub change_sampled : SampledAt registers sources changes earlier now old
      → new.clock ≡ value_after old.clock (digit_given sources.clock (change_at now code digits))
      → new.inputs ≡ with_digits digits (targets_from 0 code sources.inputs) old.inputs
      → new.is_low ≡ old.is_low → new.before ≡ old.before
      → new.unknown ≡ old.unknown + (cond (is_unknown (digit_given sources.clock (change_at now code digits))) 1 0 + count_by (is_unknown_at digits) (targets_from 0 code sources.inputs))
      → new.rows ≡ old.rows
      → SampledAt registers sources (changes ++ change_at now code digits ∷ []) earlier now new
  change_sampled holds clock inputs low before unknown rows =
      let change = change_at now code digits in
      let more = changes ++ change ∷ [] in
      let within : (p : ℕ) → last_or None earlier ≡ Some p → p < now = λ p is. last_below now p earlier holds.below is in
      record {
        below = holds.below;
        come = All-append (λ change. change.time ≤ now) changes (change ∷ []) holds.come (at_last change (omega arith));
        clock_is =
            clock
            ∙ ap (λ clock. value_after clock (digit_given sources.clock change)) holds.clock_is
            ∙ sym (change_gives changes change now sources.clock (omega arith));
        inputs_are =
            inputs
            ∙ ap (with_digits digits (targets_from 0 code sources.inputs)) holds.inputs_are
            ∙ values_put now code digits (value_at changes now) sources.inputs
            ∙ map_same (λ source. value_after (value_at changes now source) (digit_given source change)) (value_at more now) sources.inputs (λ source. sym (change_gives changes change now source (omega arith)));
        low_is = low ∙ holds.low_is ∙ sym (low_stays changes change sources.clock (last_or None earlier) within);
        before_is = λ is. ap (λ values. Some values) before ∙ holds.before_is (sym low ∙ is) ∙ sym (before_stays changes change sources.inputs (last_or None earlier) within);
        unknown_is =
            unknown
            ∙ ap (λ n. n + (cond (is_unknown (digit_given sources.clock change)) 1 0 + count_by (is_unknown_at digits) (targets_from 0 code sources.inputs))) holds.unknown_is
            ∙ ap (λ n. unknown_count changes (sources.clock ∷ sources.inputs) + (cond (is_unknown (digit_given sources.clock change)) 1 0 + n)) (unknown_put now code digits 0 sources.inputs)
            ∙ sym (unknown_more changes change sources.clock sources.inputs);
        rows_are =
            subst (λ all. HoldsRows registers (length sources.inputs) all new.rows) (sym (rows_stay changes change sources.clock sources.inputs earlier holds.below))
            (subst (λ rows. HoldsRows registers (length sources.inputs) (map (values_at changes sources.inputs) (sampled changes sources.clock earlier)) rows) (sym rows) holds.rows_are);
      }
    where
      at_last : (change : Triple) → change.time ≤ now → All (λ (change : Triple). change.time ≤ now) (change ∷ [])
      at_last change h zero d k = h
      at_last change h (suc n) d k = absurd (omega arith)

-- ---- the end of a time

-- the rows that an edge from this time adds
abbrev edge_from : List Triple → Source → Option ℕ → ℕ → List ℕ
edge_from changes clock None now = []
edge_from changes clock (Some before) now = if is_edge changes clock (before, now) then before ∷ [] else []

sampled_more : (changes : List Triple) (clock : Source) (earlier : List ℕ) (now : ℕ) → sampled changes clock (earlier ++ now ∷ []) ≡ sampled changes clock earlier ++ edge_from changes clock (last_or None earlier) now
sampled_more changes clock earlier now = by (ends earlier)
  where
    by : Ends earlier → sampled changes clock (earlier ++ now ∷ []) ≡ sampled changes clock earlier ++ edge_from changes clock (last_or None earlier) now
    by (nothing is) = subst (λ earlier. sampled changes clock (earlier ++ now ∷ []) ≡ sampled changes clock earlier ++ edge_from changes clock (last_or None earlier) now) (sym is) refl
    by (last front p is) =
        subst (λ earlier. sampled changes clock (earlier ++ now ∷ []) ≡ sampled changes clock earlier ++ edge_from changes clock (last_or None earlier) now) (sym is)
        (ap (sampled changes clock) (append_assoc front (p ∷ []) (now ∷ []))
        ∙ edges_grow changes clock front p now
        ∙ ap (λ o. sampled changes clock (front ++ p ∷ []) ++ edge_from changes clock o now) (sym (last_of None front p)))

module _ (registers : ℕ) (sources : Clocked) (changes : List Triple) (earlier : List ℕ) (now : ℕ) (old : Sampler) (holds : SampledAt registers sources changes earlier now old) where
  edge_row : (o : Option ℕ) → o ≡ last_or None earlier → map (values_at changes sources.inputs) (edge_from changes sources.clock o now) ≡ (if old.is_low && old.clock then old.before ∷ [] else [])
  edge_row None is = sym (ap (λ low. if low && old.clock then old.before ∷ [] else []) (holds.low_is ∙ ap (is_low_at changes sources.clock) (sym is)))
  edge_row (Some p) is =
      let low : old.is_low ≡ not (value_at changes p sources.clock) = holds.low_is ∙ ap (is_low_at changes sources.clock) (sym is) in
      by (not (value_at changes p sources.clock)) (value_at changes now sources.clock) low
      (λ is_low. some_inside old.before (values_at changes sources.inputs p) (holds.before_is is_low ∙ ap (option_map (values_at changes sources.inputs)) (sym is)))
      ∙ ap (λ clock. if old.is_low && clock then old.before ∷ [] else []) (sym holds.clock_is)
    where
      by : (low clock : Bool) → old.is_low ≡ low → (old.is_low ≡ true → old.before ≡ values_at changes sources.inputs p)
          → map (values_at changes sources.inputs) (if low && clock then p ∷ [] else []) ≡ (if old.is_low && clock then old.before ∷ [] else [])
      by true true low before = sym (ap (λ low. if low && true then old.before ∷ [] else []) low ∙ ap (λ row. row ∷ []) (before low))
      by true false low before = sym (ap (λ low. if low && false then old.before ∷ [] else []) low)
      by false true low before = sym (ap (λ low. if low && true then old.before ∷ [] else []) low)
      by false false low before = sym (ap (λ low. if low && false then old.before ∷ [] else []) low)

  -- the rows up to the end of this time
  pub rows_at_end : map (values_at changes sources.inputs) (sampled changes sources.clock earlier) ++ (if old.is_low && old.clock then old.before ∷ [] else [])
      ≡ map (values_at changes sources.inputs) (sampled changes sources.clock (earlier ++ now ∷ []))
  rows_at_end =
      ap (λ rows. map (values_at changes sources.inputs) (sampled changes sources.clock earlier) ++ rows) (sym (edge_row (last_or None earlier) refl))
      ∙ sym (map-append (values_at changes sources.inputs) (sampled changes sources.clock earlier) (edge_from changes sources.clock (last_or None earlier) now))
      ∙ ap (map (values_at changes sources.inputs)) (sym (sampled_more changes sources.clock earlier now))

  pub time_sampled : (later : ℕ) (new : Sampler) → now < later
      → new.clock ≡ old.clock → new.inputs ≡ old.inputs → new.is_low ≡ not old.clock → (not old.clock ≡ true → new.before ≡ old.inputs) → new.unknown ≡ old.unknown
      → HoldsRows registers (length sources.inputs) (map (values_at changes sources.inputs) (sampled changes sources.clock earlier) ++ (if old.is_low && old.clock then old.before ∷ [] else [])) new.rows
      → SampledAt registers sources changes (earlier ++ now ∷ []) later new
  time_sampled later new h clock inputs low before unknown rows =
      let at_end : last_or None (earlier ++ now ∷ []) ≡ Some now = last_of None earlier now in
      record {
        below = All-append (λ time. time < later) earlier (now ∷ []) (λ k d i. omega (arith, holds.below k d i)) (at_last h);
        come = λ k d i. omega (arith, holds.come k d i);
        clock_is = clock ∙ holds.clock_is ∙ sym (nothing_comes changes now later sources.clock holds.come (omega arith));
        inputs_are = inputs ∙ holds.inputs_are ∙ map_same (value_at changes now) (value_at changes later) sources.inputs (λ source. sym (nothing_comes changes now later source holds.come (omega arith)));
        low_is = low ∙ ap not holds.clock_is ∙ ap (is_low_at changes sources.clock) (sym at_end);
        before_is = λ is. ap (λ values. Some values) (before (sym low ∙ is) ∙ holds.inputs_are) ∙ ap (option_map (values_at changes sources.inputs)) (sym at_end);
        unknown_is = unknown ∙ holds.unknown_is;
        rows_are = subst (λ all. HoldsRows registers (length sources.inputs) all new.rows) rows_at_end rows;
      }
    where
      at_last : now < later → All (λ time. time < later) (now ∷ [])
      at_last h zero d k = h
      at_last h (suc n) d k = absurd (omega arith)

  -- ---- the end of the file

  -- all rows, as they are pushed
  abbrev pub all_rows : List (List Bool)
  all_rows = (map (values_at changes sources.inputs) (sampled changes sources.clock earlier) ++ (if old.is_low && old.clock then old.before ∷ [] else [])) ++ old.inputs ∷ []

  rows_read : rows_of (length sources.inputs) all_rows ≡ (reading_at sources changes earlier now).trace
  rows_read =
      ap (rows_of (length sources.inputs)) (ap (λ rows. rows ++ old.inputs ∷ []) rows_at_end
      ∙ ap (λ row. map (values_at changes sources.inputs) (sampled changes sources.clock (earlier ++ now ∷ [])) ++ row ∷ []) holds.inputs_are)

  pub read_all : (trace : Rows) → (limit_passed registers (rows_of (length sources.inputs) all_rows) ≡ None) × (trace ≡ rows_of (length sources.inputs) all_rows)
      → within_limits registers (reading_at sources changes earlier now) ≡ Ok (record { trace = trace; unknown = old.unknown })
  read_all trace (none, is) =
      let reading = reading_at sources changes earlier now in
      let within : limit_passed registers reading.trace ≡ None = ap (limit_passed registers) (sym rows_read) ∙ none in
      let same : reading.trace ≡ trace = sym rows_read ∙ sym is in
      let result : (trace : Rows) (unknown : ℕ) → Result Reading VcdFault = λ trace unknown. Ok (record { trace = trace; unknown = unknown }) in
      ap (λ size. unless (option_map (λ what. Limit what) size) (Ok reading)) within
      ∙ ap (λ trace. result trace reading.unknown) same
      ∙ ap (result trace) (sym holds.unknown_is)

  pub read_too_many : (fault : VcdFault) → option_map (λ what. Limit what) (limit_passed registers (rows_of (length sources.inputs) all_rows)) ≡ Some fault
      → within_limits registers (reading_at sources changes earlier now) ≡ Err fault
  read_too_many fault is =
      let reading = reading_at sources changes earlier now in
      ap (λ size. unless (option_map (λ what. Limit what) (limit_passed registers size)) (Ok reading)) (sym rows_read)
      ∙ ap (λ fault. unless fault (Ok reading)) is
