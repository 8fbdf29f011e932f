-- The changes of a body as triples of time, code and digits.
use Rattle.std.specs.Prelude.{◌≡◌, ℕ, ◌==◌, List, [], ◌∷◌, ◌++◌, Option, None, Some, unwrap_or, if◌then◌else◌}
use Rattle.std.specs.List.{dedup, filter_map, last_or}
use Rattle.vcd_reader.specs.Body.{Item}
use Rattle.vcd_reader.specs.Body.Item.{time, change, misplaced, unfinished}

-- a change: when, of which code, and its digits, the left one first
pub record Triple : Type 0 where
  pub time : ℕ
  pub code : List ℕ
  pub digits : List ℕ

abbrev pub time_of : Item → Option ℕ
time_of (time at value) = Some value
time_of other = None

-- the times in their order, equal ones too
abbrev pub all_times : List Item → List ℕ
all_times items = filter_map time_of items

-- the times in their order: equal ones are one
abbrev pub times : List Item → List ℕ
times items = dedup (λ left right. left == right) (all_times items)

-- the last time, or 0 where there is none
abbrev pub last_time : List Item → ℕ
last_time items = unwrap_or (last_or None (all_times items)) 0

-- the changes, where those before the first time belong to this one
abbrev pub triples_from : ℕ → List Item → List Triple
triples_from now [] = []
triples_from now (time at value ∷ items) = triples_from value items
triples_from now (change at code digits ∷ items) =
    record { time = now; code = code; digits = digits } ∷ triples_from now items
triples_from now (misplaced at ∷ items) = triples_from now items
triples_from now (unfinished at ∷ items) = triples_from now items

-- the first time of a list, or 0 where there is none
abbrev pub first_time : List ℕ → ℕ
first_time [] = 0
first_time (first ∷ later) = first

-- the changes: those before the first time belong to it
abbrev pub triples : List Item → List Triple
triples items = triples_from (first_time (all_times items)) items

-- ---- laws

-- the time that a change belongs to behind these items, where those before the first time belong to this one
abbrev pub time_behind : ℕ → List Item → ℕ
time_behind first items = unwrap_or (last_or None (all_times items)) first

-- the change that an item is at this time, if it is one
abbrev pub triple_of : ℕ → Item → List Triple
triple_of now (change at code digits) = record { time = now; code = code; digits = digits } ∷ []
triple_of now other = []

-- One more item adds the change that it is, at the time that it belongs to.
abbrev pub ChangesGrow : Type 0
ChangesGrow =
    (first : ℕ) (items : List Item) (item : Item)
    → triples_from first (items ++ item ∷ []) ≡ triples_from first items ++ triple_of (time_behind first items) item

-- The time that is the last one adds none, and any other is added at the end.
abbrev pub TimesGrow : Type 0
TimesGrow =
    (items : List Item) (at before now : ℕ) → last_or None (all_times items) ≡ Some before
    → times (items ++ time at now ∷ []) ≡ times items ++ (if now == before then [] else now ∷ [])
