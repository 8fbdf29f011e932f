-- Values and edges, one more at a time.
use Rattle.std.proofs.Common.{◌≡◌, ℕ, ◌<◌, ◌≤◌, suc, List, [], ◌∷◌, ◌++◌, All, Bool, true, false, cond, not, ◌&&◌, map, nat_le, Option, Some, None, if◌then◌else◌, arith, refl, sym, ap, ◌∙◌}
use Rattle.std.specs.List.{cons_option, filter, filter_map, last_or}
use Rattle.std.proofs.lemmas.List.{append-nil, map-append}
use Rattle.vcd_reader.specs.Changes.{Triple}
use Rattle.vcd_header.specs.Matching.{Source}
use Rattle.vcd_reader.specs.Rows.{EarlierSampled, EdgesGrow, is_edge, sampled, steps}
use Rattle.vcd_reader.specs.Values.{ChangeGives, EarlierStay, NothingComes, digit_given, given_by, is_one, value_after, value_at}

past : (time at : ℕ) → time < at → nat_le at time ≡ false
past time at h = grind arith

by_then : (time at : ℕ) → at ≤ time → nat_le at time ≡ true
by_then time at h = grind arith

given_later : (time : ℕ) (source : Source) (change : Triple) → time < change.time → given_by time source change ≡ None
given_later time source change h = ap (λ test. if test then digit_given source change else None) (past time change.time h)

given_then : (time : ℕ) (source : Source) (change : Triple) → change.time ≤ time → given_by time source change ≡ digit_given source change
given_then time source change h = ap (λ test. if test then digit_given source change else None) (by_then time change.time h)

module _ (f : Triple → Option ℕ) where
  with_first : (o : Option ℕ) (rest front back : List ℕ) → rest ≡ front ++ back → cons_option o rest ≡ cons_option o front ++ back
  with_first None rest front back same = same
  with_first (Some d) rest front back same = ap (λ digits. d ∷ digits) same

  given_more : (changes : List Triple) (change : Triple) → filter_map f (changes ++ change ∷ []) ≡ filter_map f changes ++ cons_option (f change) []
  given_more [] change = refl
  given_more (first ∷ changes) change = with_first (f first) (filter_map f (changes ++ change ∷ [])) (filter_map f changes) (cons_option (f change) []) (given_more changes change)

pub last_of : (o : Option ℕ) (xs : List ℕ) (x : ℕ) → last_or o (xs ++ x ∷ []) ≡ Some x
last_of o [] x = refl
last_of o (y ∷ xs) x = last_of (Some y) xs x

last_given : (xs : List ℕ) (o : Option ℕ) → is_one (last_or None (xs ++ cons_option o [])) ≡ value_after (is_one (last_or None xs)) o
last_given xs None = ap (λ (xs : List ℕ). is_one (last_or None xs)) (append-nil xs)
last_given xs (Some x) = ap is_one (last_of None xs x)

pub value_more : (changes : List Triple) (change : Triple) (time : ℕ) (source : Source) → value_at (changes ++ change ∷ []) time source ≡ value_after (value_at changes time source) (given_by time source change)
value_more changes change time source =
    ap (λ (digits : List ℕ). is_one (last_or None digits)) (given_more (given_by time source) changes change)
    ∙ last_given (filter_map (given_by time source) changes) (given_by time source change)

pub earlier_stay : EarlierStay
earlier_stay changes change time source h = value_more changes change time source ∙ ap (value_after (value_at changes time source)) (given_later time source change h)

pub change_gives : ChangeGives
change_gives changes change time source h = value_more changes change time source ∙ ap (value_after (value_at changes time source)) (given_then time source change h)

same_given : (changes : List Triple) (time later : ℕ) (source : Source) → All (λ (change : Triple). change.time ≤ time) changes → time ≤ later → filter_map (given_by later source) changes ≡ filter_map (given_by time source) changes
same_given [] time later source all le = refl
same_given (first ∷ changes) time later source all le =
    let here : first.time ≤ time = all 0 first (omega arith) in
    ap (λ o. cons_option o (filter_map (given_by later source) changes)) (given_then later source first (omega arith) ∙ sym (given_then time source first here))
    ∙ ap (cons_option (given_by time source first)) (same_given changes time later source (λ k d h. all (suc k) d (omega arith)) le)

pub nothing_comes : NothingComes
nothing_comes changes time later source all le = ap (λ (digits : List ℕ). is_one (last_or None digits)) (same_given changes time later source all le)

-- ---- edges

steps_more : (times : List ℕ) (before now : ℕ) → steps (times ++ before ∷ now ∷ []) ≡ steps (times ++ before ∷ []) ++ (before, now) ∷ []
steps_more [] before now = refl
steps_more (first ∷ []) before now = refl
steps_more (first ∷ second ∷ times) before now = ap (λ later. (first, second) ∷ later) (steps_more (second ∷ times) before now)

filter_more : (p : ℕ × ℕ → Bool) (xs : List (ℕ × ℕ)) (x : ℕ × ℕ) → filter p (xs ++ x ∷ []) ≡ filter p xs ++ (if p x then x ∷ [] else [])
filter_more p [] x = refl
filter_more p (first ∷ xs) x = by (p first) (filter_more p xs x)
  where
    by : (b : Bool) → filter p (xs ++ x ∷ []) ≡ filter p xs ++ (if p x then x ∷ [] else [])
        → cond b (first ∷ filter p (xs ++ x ∷ [])) (filter p (xs ++ x ∷ [])) ≡ cond b (first ∷ filter p xs) (filter p xs) ++ (if p x then x ∷ [] else [])
    by true ih = ap (λ rest. first ∷ rest) ih
    by false ih = ih

first_of_step : (b : Bool) (step : ℕ × ℕ) → map (λ (step : ℕ × ℕ). step.0) (if b then step ∷ [] else []) ≡ (if b then step.0 ∷ [] else [])
first_of_step true step = refl
first_of_step false step = refl

pub edges_grow : EdgesGrow
edges_grow changes clock times before now =
    let edge = is_edge changes clock in
    ap (λ (all : List (ℕ × ℕ)). map (λ (step : ℕ × ℕ). step.0) (filter edge all)) (steps_more times before now)
    ∙ ap (map (λ (step : ℕ × ℕ). step.0)) (filter_more edge (steps (times ++ before ∷ [])) (before, now))
    ∙ map-append (λ (step : ℕ × ℕ). step.0) (filter edge (steps (times ++ before ∷ []))) (if edge (before, now) then (before, now) ∷ [] else [])
    ∙ ap (λ rest. sampled changes clock (times ++ before ∷ []) ++ rest) (first_of_step (edge (before, now)) (before, now))

same_edge : (changes : List Triple) (change : Triple) (clock : Source) (before now : ℕ) → before < change.time → now < change.time → is_edge (changes ++ change ∷ []) clock (before, now) ≡ is_edge changes clock (before, now)
same_edge changes change clock before now h k =
    ap (λ was. not was && value_at (changes ++ change ∷ []) now clock) (earlier_stay changes change before clock h)
    ∙ ap (λ is. not (value_at changes before clock) && is) (earlier_stay changes change now clock k)

pub sampled_step : (changes : List Triple) (clock : Source) (before now : ℕ) (times : List ℕ)
    → sampled changes clock (before ∷ now ∷ times) ≡ (if is_edge changes clock (before, now) then before ∷ [] else []) ++ sampled changes clock (now ∷ times)
sampled_step changes clock before now times = by (is_edge changes clock (before, now))
  where
    rest : List (ℕ × ℕ)
    rest = filter (is_edge changes clock) (steps (now ∷ times))

    by : (b : Bool) → map (λ (step : ℕ × ℕ). step.0) (cond b ((before, now) ∷ filter (is_edge changes clock) (steps (now ∷ times))) (filter (is_edge changes clock) (steps (now ∷ times))))
        ≡ (if b then before ∷ [] else []) ++ map (λ (step : ℕ × ℕ). step.0) (filter (is_edge changes clock) (steps (now ∷ times)))
    by true = refl
    by false = refl

pub earlier_sampled : EarlierSampled
earlier_sampled changes change clock [] all = refl
earlier_sampled changes change clock (before ∷ []) all = refl
earlier_sampled changes change clock (before ∷ now ∷ times) all =
    let more = changes ++ change ∷ [] in
    sampled_step more clock before now times
    ∙ ap (λ edge. (if edge then before ∷ [] else []) ++ sampled more clock (now ∷ times)) (same_edge changes change clock before now (all 0 before (omega arith)) (all 1 now (omega arith)))
    ∙ ap (λ rest. (if is_edge changes clock (before, now) then before ∷ [] else []) ++ rest) (earlier_sampled changes change clock (now ∷ times) (λ k d h. all (suc k) d (omega arith)))
    ∙ sym (sampled_step changes clock before now times)
