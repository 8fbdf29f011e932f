-- What a body has given so far.
use Rattle.std.proofs.Common.{◌≡◌, ◌⊎◌, inl, inr, ℕ, ◌<◌, ◌==◌, List, [], ◌∷◌, ◌++◌, Bool, true, false, cond, length, nat_lt, Option, Some, None, unwrap_or, Result, Ok, Err, IfErr, IfOk, if◌then◌else◌, arith, refl, subst, sym, ap, ◌∙◌}
use Rattle.std.specs.List.{cons_option, dedup, dedup_from, last_or}
use Rattle.std.specs.Option.{option_or}
use Rattle.std.proofs.lemmas.List.{append_assoc, append-nil}
use Rattle.std.proofs.lemmas.Result.{IfOk-weaker}
use Rattle.trace_rows.specs.Rows.{Rows}
use Rattle.vcd_header.specs.declared.fault.VcdFault.{VcdFault}
use Rattle.vcd_header.specs.declared.fault.VcdFault.TheVariants.{Memory, NoTime, TimeBack}
use Rattle.vcd_header.specs.Variables.{Variable}
use Rattle.vcd_reader.specs.Body.{Item}
use Rattle.vcd_reader.specs.Body.Item.{time, change}
use Rattle.vcd_reader.specs.Changes.{Triple, all_times, first_time, last_time, time_behind, time_of, times, triples, triples_from}
use Rattle.vcd_reader.specs.Rows.{Reading, reading, rows_by}
use Rattle.vcd_reader.specs.Said.{fault_after}
use Rattle.vcd_reader.specs.Sampling.{IsFirst, SampledAt, Samples, TakesItem, change_at, is_later, reading_at, times_from}
use Rattle.vcd_reader.specs.Sources.{Clocked}
use Rattle.vcd_reader.specs.Values.{unknown_count}
use Rattle.vcd_reader.specs.Waveform.{body_reading, limited, unless, within_limits}
use Rattle.vcd_reader.specs.declared.sampler.Sampler.{Sampler}
use Rattle.vcd_reader.proofs.ChangeLemmas.{changes_grow, dedup_more}
use Rattle.vcd_reader.proofs.SaidLemmas.{HasSaid, last_time_more, said_all, said_fault, said_more, said_no_time, said_nothing, times_more}

abbrev equal : ℕ → ℕ → Bool
equal left right = left == right

-- ---- times

last_some : (o : Option ℕ) (x first : ℕ) (xs : List ℕ) → last_or (Some x) xs ≡ Some (unwrap_or (last_or (Some x) xs) first)
last_some o x first [] = refl
last_some o x first (y ∷ xs) = last_some o y first xs

last_behind : (first : ℕ) (xs : List ℕ) → last_or (Some first) xs ≡ Some (unwrap_or (last_or None xs) first)
last_behind first [] = refl
last_behind first (x ∷ xs) = last_some None x first xs

times_with : (first : ℕ) (items : List Item) (at value : ℕ) → times_from first (items ++ time at value ∷ []) ≡ times_from first items ++ (if value == time_behind first items then [] else value ∷ [])
times_with first items at value =
    ap (dedup_from equal first) (times_more items (time at value))
    ∙ dedup_more (all_times items) first (time_behind first items) value (last_behind first (all_times items))

behind_time : (first : ℕ) (items : List Item) (at value : ℕ) → time_behind first (items ++ time at value ∷ []) ≡ value
behind_time first items at value = ap (λ last. unwrap_or last first) (last_time_more items (time at value))

triples_with : (first : ℕ) (items : List Item) (at value : ℕ) → triples_from first (items ++ time at value ∷ []) ≡ triples_from first items
triples_with first items at value = changes_grow first items (time at value) ∙ append-nil (triples_from first items)

-- ---- one item

samples_by : (registers : ℕ) (sources : Clocked) (first : ℕ) (items : List Item) (sampler : Sampler) (changes : List Triple) (earlier : List ℕ) (now : ℕ)
    → triples_from first items ≡ changes → times_from first items ≡ earlier ++ now ∷ [] → time_behind first items ≡ now
    → SampledAt registers sources changes earlier now sampler → Samples registers sources first items sampler
samples_by registers sources first items sampler changes earlier now triples_are times_are now_is holds = record {
  earlier = earlier;
  times = times_are ∙ ap (λ now. earlier ++ now ∷ []) (sym now_is);
  sampled_at =
      subst (λ changes. SampledAt registers sources changes earlier (time_behind first items) sampler) (sym triples_are)
      (subst (λ now. SampledAt registers sources changes earlier now sampler) (sym now_is) holds);
}

module _ (registers : ℕ) (sources : Clocked) (first : ℕ) (items : List Item) (old new : Sampler) where
  pub change_read : (at : ℕ) (code digits : List ℕ) → Samples registers sources first items old
      → ((changes : List Triple) (earlier : List ℕ) (now : ℕ) → SampledAt registers sources changes earlier now old → SampledAt registers sources (changes ++ change_at now code digits ∷ []) earlier now new)
      → Samples registers sources first (items ++ change at code digits ∷ []) new
  change_read at code digits samples put =
      let same : all_times (items ++ change at code digits ∷ []) ≡ all_times items = times_more items (change at code digits) ∙ append-nil (all_times items) in
      samples_by registers sources first (items ++ change at code digits ∷ []) new
      (triples_from first items ++ change_at (time_behind first items) code digits ∷ []) samples.earlier (time_behind first items)
      (changes_grow first items (change at code digits))
      (ap (dedup_from equal first) same ∙ samples.times)
      (ap (λ times. unwrap_or (last_or None times) first) same)
      (put (triples_from first items) samples.earlier (time_behind first items) samples.sampled_at)

  pub later_read : (at value : ℕ) → Samples registers sources first items old
      → time_behind first items < value
      → ((changes : List Triple) (earlier : List ℕ) (now later : ℕ) → now < later → SampledAt registers sources changes earlier now old → SampledAt registers sources changes (earlier ++ now ∷ []) later new)
      → Samples registers sources first (items ++ time at value ∷ []) new
  later_read at value samples h put =
      let now = time_behind first items in
      let apart : (value == now) ≡ false = grind arith in
      samples_by registers sources first (items ++ time at value ∷ []) new
      (triples_from first items) (samples.earlier ++ now ∷ []) value
      (triples_with first items at value)
      (times_with first items at value
      ∙ ap (λ test. times_from first items ++ (if test then [] else value ∷ [])) apart
      ∙ ap (λ times. times ++ value ∷ []) samples.times)
      (behind_time first items at value)
      (put (triples_from first items) samples.earlier now value h samples.sampled_at)

  pub equal_read : (at value : ℕ) → Samples registers sources first items old → value ≡ time_behind first items → Samples registers sources first (items ++ time at value ∷ []) old
  equal_read at value samples is =
      let now = time_behind first items in
      let same : (value == now) ≡ true = grind arith in
      samples_by registers sources first (items ++ time at value ∷ []) old
      (triples_from first items) samples.earlier now
      (triples_with first items at value)
      (times_with first items at value
      ∙ ap (λ test. times_from first items ++ (if test then [] else value ∷ [])) same
      ∙ append-nil (times_from first items)
      ∙ samples.times)
      (behind_time first items at value ∙ is)
      samples.sampled_at

-- ---- whether a time is later

pub later_than : (first : ℕ) (items : List Item) (value : ℕ) (last : Option ℕ) → last ≡ last_or None (all_times items) → is_later last value ≡ true → time_behind first items < value
later_than first items value None is later = absurd (cc)
later_than first items value (Some l) is later =
    subst (λ now. now < value) (ap (λ last. unwrap_or last first) is) (less l value later)
  where
    less : (l value : ℕ) → nat_lt l value ≡ true → l < value
    less l value h = grind arith

none_empty : (xs : List ℕ) → None ≡ last_or None xs → xs ≡ []
none_empty [] is = refl
none_empty (x ∷ xs) is = absurd (no x xs is)
  where
    no : (x : ℕ) (xs : List ℕ) → None ≡ last_or (Some x) xs → ⊥
    no x [] is = absurd (cc)
    no x (y ∷ xs) is = no y xs is

no_fault : (test : Bool) (fault : VcdFault) → (if test then Some fault else None) ≡ None → test ≡ false
no_fault true fault is = absurd (cc)
no_fault false fault is = refl

pub equal_to : (declared : List Variable) (first : ℕ) (items : List Item) (at value : ℕ) (last : Option ℕ) → last ≡ last_or None (all_times items) → fault_after declared last (time at value) ≡ None
    → IsFirst first (all_times (items ++ time at value ∷ [])) → is_later last value ≡ false → value ≡ time_behind first items
equal_to declared first items at value None is none begins later =
    let nothing : all_times items ≡ [] = none_empty (all_times items) is in
    subst (IsFirst first) (times_more items (time at value) ∙ ap (λ times. times ++ value ∷ []) nothing) begins
    ∙ ap (λ last. unwrap_or last first) is
equal_to declared first items at value (Some l) is none begins later =
    same value l (no_fault (nat_lt value l) (TimeBack at) none) later
    ∙ ap (λ last. unwrap_or last first) is
  where
    same : (value l : ℕ) → nat_lt value l ≡ false → nat_lt l value ≡ false → value ≡ l
    same value l h k = grind arith

-- ---- one item, as it is taken

module _ (sources : Clocked) (last : Option ℕ) (at : ℕ) (old new : Sampler) where
  pub change_taken : (code digits : List ℕ)
      → ((registers : ℕ) (changes : List Triple) (earlier : List ℕ) (now : ℕ) → SampledAt registers sources changes earlier now old → SampledAt registers sources (changes ++ change_at now code digits ∷ []) earlier now new)
      → TakesItem sources last (change at code digits) old new
  change_taken code digits put = λ declared registers first items is none begins samples. change_read registers sources first items old new at code digits samples (put registers)

  pub later_taken : (value : ℕ) → is_later last value ≡ true
      → ((registers : ℕ) (changes : List Triple) (earlier : List ℕ) (now later : ℕ) → now < later → SampledAt registers sources changes earlier now old → SampledAt registers sources changes (earlier ++ now ∷ []) later new)
      → TakesItem sources last (time at value) old new
  later_taken value later put = λ declared registers first items is none begins samples.
      later_read registers sources first items old new at value samples (later_than first items value last is later) (put registers)

  pub equal_taken : (value : ℕ) → is_later last value ≡ false → TakesItem sources last (time at value) old old
  equal_taken value later = λ declared registers first items is none begins samples.
      equal_read registers sources first items old old at value samples (equal_to declared first items at value last is none begins later)

-- ---- all items

pub record HasRead (declared : List Variable) (registers : ℕ) (sources : Clocked) (whole rest : List Item) (last : Option ℕ) (sampler : Sampler) : Type 0 where
  pub before : List Item
  pub said : HasSaid declared whole before rest last
  pub samples : Samples registers sources (first_time (all_times whole)) before sampler

first_of : (xs ys : List ℕ) → IsFirst (first_time (xs ++ ys)) xs
first_of [] ys = tt
first_of (x ∷ xs) ys = refl

times_append : (xs ys : List Item) → all_times (xs ++ ys) ≡ all_times xs ++ all_times ys
times_append [] ys = refl
times_append (x ∷ xs) ys = by (time_of x) (times_append xs ys)
  where
    by : (o : Option ℕ) → all_times (xs ++ ys) ≡ all_times xs ++ all_times ys → cons_option o (all_times (xs ++ ys)) ≡ cons_option o (all_times xs) ++ all_times ys
    by None ih = ih
    by (Some t) ih = ap (λ times. t ∷ times) ih

pub read_nothing : (declared : List Variable) (registers : ℕ) (sources : Clocked) (whole : List Item) (sampler : Sampler)
    → SampledAt registers sources [] [] (first_time (all_times whole)) sampler → HasRead declared registers sources whole whole None sampler
read_nothing declared registers sources whole sampler holds = record {
  before = [];
  said = said_nothing declared whole;
  samples = record { earlier = []; times = refl; sampled_at = holds };
}

reading_is : (sources : Clocked) (whole : List Item) (changes : List Triple) (earlier : List ℕ) (now : ℕ) → triples whole ≡ changes → times whole ≡ earlier ++ now ∷ [] → last_time whole ≡ now
    → reading whole sources.clock sources.inputs ≡ reading_at sources changes earlier now
reading_is sources whole changes earlier now changes_are times_are now_is =
    let build : List Triple → List ℕ → ℕ → Reading = λ changes times last. record {
      trace = record { width = length sources.inputs; rows = rows_by changes sources.clock sources.inputs times last };
      unknown = unknown_count changes (sources.clock ∷ sources.inputs);
    } in
    ap (λ changes. build changes (times whole) (last_time whole)) changes_are
    ∙ ap (λ times. build changes times (last_time whole)) times_are
    ∙ ap (build changes (earlier ++ now ∷ [])) now_is

module _ (declared : List Variable) (registers : ℕ) (sources : Clocked) (whole rest : List Item) (last : Option ℕ) (sampler : Sampler) (read : HasRead declared registers sources whole rest last sampler) where
  pub read_more : (more : List Item) (next : Option ℕ) (item : Item) (new : Sampler) → rest ≡ item ∷ more → fault_after declared last item ≡ None → next ≡ option_or (time_of item) last
      → TakesItem sources last item sampler new
      → HasRead declared registers sources whole more next new
  read_more more next item new front none now taken =
      let parts : whole ≡ (read.before ++ item ∷ []) ++ more = read.said.parts ∙ ap (λ rest. read.before ++ rest) front ∙ sym (append_assoc read.before (item ∷ []) more) in
      let all : all_times whole ≡ all_times (read.before ++ item ∷ []) ++ all_times more = ap all_times parts ∙ times_append (read.before ++ item ∷ []) more in
      let begins : IsFirst (first_time (all_times whole)) (all_times (read.before ++ item ∷ [])) =
      subst (λ times. IsFirst (first_time times) (all_times (read.before ++ item ∷ []))) (sym all) (first_of (all_times (read.before ++ item ∷ [])) (all_times more)) in
      record {
        before = read.before ++ item ∷ [];
        said = said_more declared whole read.before rest more last next item read.said front none now;
        samples = taken declared registers (first_time (all_times whole)) read.before read.said.last_is none begins read.samples;
      }

  pub read_fault : (more : List Item) (item : Item) (fault : VcdFault) → rest ≡ item ∷ more → fault_after declared last item ≡ Some fault
      → limited registers (body_reading declared whole (sources.clock ∷ sources.inputs)) ≡ Err fault
  read_fault more item fault front some =
      ap (λ fault. limited registers (unless fault (Ok (reading whole sources.clock sources.inputs))))
      (said_fault declared whole read.before rest more last last item fault read.said front some)

  pub read_no_time : rest ≡ [] → last ≡ None → limited registers (body_reading declared whole (sources.clock ∷ sources.inputs)) ≡ Err NoTime
  read_no_time none is =
      ap (λ fault. limited registers (unless fault (Ok (reading whole sources.clock sources.inputs))))
      (said_no_time declared whole read.before rest last read.said none is)

  pub all_read : (t : ℕ) → rest ≡ [] → last ≡ Some t
      → limited registers (body_reading declared whole (sources.clock ∷ sources.inputs))
      ≡ within_limits registers (reading_at sources (triples_from (first_time (all_times whole)) read.before) read.samples.earlier (time_behind (first_time (all_times whole)) read.before))
  all_read t none is =
      let whole_is : read.before ≡ whole = sym (read.said.parts ∙ ap (λ rest. read.before ++ rest) none ∙ append-nil read.before) in
      let last_is : last_or None (all_times whole) ≡ Some t = ap (λ items. last_or None (all_times items)) (sym whole_is) ∙ sym read.said.last_is ∙ is in
      let first = first_time (all_times whole) in
      let now_is : last_time whole ≡ time_behind first read.before = same_last (all_times whole) t last_is ∙ ap (time_behind first) (sym whole_is) in
      let times_are : times whole ≡ read.samples.earlier ++ time_behind first read.before ∷ [] = same_times (all_times whole) t last_is ∙ ap (times_from first) (sym whole_is) ∙ read.samples.times in
      ap (λ fault. limited registers (unless fault (Ok (reading whole sources.clock sources.inputs)))) (said_all declared whole read.before rest last t read.said none is)
      ∙ ap (within_limits registers) (reading_is sources whole (triples_from first read.before) read.samples.earlier (time_behind first read.before) (ap (triples_from first) (sym whole_is)) times_are now_is)
    where
      same_last : (xs : List ℕ) (t : ℕ) → last_or None xs ≡ Some t → unwrap_or (last_or None xs) 0 ≡ unwrap_or (last_or None xs) (first_time xs)
      same_last xs t is = ap (λ last. unwrap_or last 0) is ∙ sym (ap (λ last. unwrap_or last (first_time xs)) is)

      same_times : (xs : List ℕ) (t : ℕ) → last_or None xs ≡ Some t → dedup equal xs ≡ dedup_from equal (first_time xs) xs
      same_times [] t is = absurd (cc)
      same_times (x ∷ xs) t is = sym (ap (λ test. cond test (dedup_from equal x xs) (x ∷ dedup_from equal x xs)) (itself x))
        where
          itself : (x : ℕ) → (x == x) ≡ true
          itself x = grind arith

  -- what the sampler says at the end
  module _ (t : ℕ) (none : rest ≡ []) (is : last ≡ Some t) (result : Result (Rows × ℕ) VcdFault) where
    pub read_ok : IfOk result (λ (read : Rows × ℕ). (registers : ℕ) (changes : List Triple) (earlier : List ℕ) (now : ℕ) → SampledAt registers sources changes earlier now sampler
        → within_limits registers (reading_at sources changes earlier now) ≡ Ok (record { trace = read.0; unknown = read.1 }))
        → IfOk result (λ (read : Rows × ℕ). limited registers (body_reading declared whole (sources.clock ∷ sources.inputs)) ≡ Ok (record { trace = read.0; unknown = read.1 }))
    read_ok ended =
        IfOk-weaker result
        (λ (read : Rows × ℕ). (registers : ℕ) (changes : List Triple) (earlier : List ℕ) (now : ℕ) → SampledAt registers sources changes earlier now sampler
        → within_limits registers (reading_at sources changes earlier now) ≡ Ok (record { trace = read.0; unknown = read.1 }))
        (λ (read : Rows × ℕ). limited registers (body_reading declared whole (sources.clock ∷ sources.inputs)) ≡ Ok (record { trace = read.0; unknown = read.1 }))
        (λ given all. all_read t none is
        ∙ all registers (triples_from (first_time (all_times whole)) read.before) read.samples.earlier (time_behind (first_time (all_times whole)) read.before) read.samples.sampled_at)
        ended

    pub read_err : IfErr result (λ (fault : VcdFault). (registers : ℕ) (changes : List Triple) (earlier : List ℕ) (now : ℕ) → SampledAt registers sources changes earlier now sampler
        → (within_limits registers (reading_at sources changes earlier now) ≡ Err fault) ⊎ (fault ≡ Memory))
        → IfErr result (λ (fault : VcdFault). (limited registers (body_reading declared whole (sources.clock ∷ sources.inputs)) ≡ Err fault) ⊎ (fault ≡ Memory))
    read_err ended = by result ended
      where
        same : (fault : VcdFault) → (within_limits registers (reading_at sources (triples_from (first_time (all_times whole)) read.before) read.samples.earlier (time_behind (first_time (all_times whole)) read.before)) ≡ Err fault) ⊎ (fault ≡ Memory)
            → (limited registers (body_reading declared whole (sources.clock ∷ sources.inputs)) ≡ Err fault) ⊎ (fault ≡ Memory)
        same fault (inl h) = inl (all_read t none is ∙ h)
        same fault (inr h) = inr h

        by : (result : Result (Rows × ℕ) VcdFault)
            → IfErr result (λ (fault : VcdFault). (registers : ℕ) (changes : List Triple) (earlier : List ℕ) (now : ℕ) → SampledAt registers sources changes earlier now sampler
            → (within_limits registers (reading_at sources changes earlier now) ≡ Err fault) ⊎ (fault ≡ Memory))
            → IfErr result (λ (fault : VcdFault). (limited registers (body_reading declared whole (sources.clock ∷ sources.inputs)) ≡ Err fault) ⊎ (fault ≡ Memory))
        by (Ok value) ended = ended
        by (Err fault) ended =
            same fault (ended registers (triples_from (first_time (all_times whole)) read.before) read.samples.earlier (time_behind (first_time (all_times whole)) read.before) read.samples.sampled_at)
