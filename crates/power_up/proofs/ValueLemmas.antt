-- What the items of a module give to a bit.
use Rattle.std.proofs.Common.{◌≡◌, ◌<◌, ◌≤◌, ◌+◌, ◌-◌, ℕ, zero, suc, List, [], ◌∷◌, ◌++◌, Bool, true, false, cond, Option, None, Some, is_some, refl, ap, sym, ◌∙◌, arith, bytes_eq, drop, get_or, length, map, max, replicate}
use Rattle.std.proofs.lemmas.List.{at_drop_all, at_drop_more}
use Rattle.std.specs.List.{cons_option, filter_map, slice_index_or}
use Rattle.std.specs.Option.{unwrap_or}
use Rattle.vlog_tree.specs.declared.design.Module.{Module}
use Rattle.vlog_tree.specs.declared.expr.Expr.{Expr}
use Rattle.vlog_tree.specs.declared.expr.Expr.TheFolds.{para-Expr, para-roll-Expr}
use Rattle.vlog_tree.specs.declared.expr.Expr.TheOpen.{Expr-F}
use Rattle.vlog_tree.specs.declared.expr.Expr.TheVariants as expr
use Rattle.vlog_tree.specs.declared.item.Item.{Item}
use Rattle.vlog_tree.specs.declared.item.Item.TheVariants.{Initial}
use Rattle.vlog_tree.specs.Meaning.Expressions.{Value, bit_at}
use Rattle.vlog_tree.specs.Meaning.Keys.{bit_count}
use Rattle.vlog_tree.specs.Meaning.Lefts.{Bit}
use Rattle.vlog_tree.specs.Meaning.Step.{first_of_bits, initial_of, no_names}
use Rattle.vlog_tree.specs.Meaning.Uses.{Text}
use Rattle.vlog_tree.specs.Meaning.Widths.{width}
use Rattle.numbering.specs.Bits.{register_bits}
use Rattle.power_up.specs.Changes.{Changes, Values, after_item, after_items, after_number, after_value}
use Rattle.power_up.specs.PowerUp.{AddsPowerUp, bit_at_power_up}
use Rattle.power_up.proofs.ChangeLemmas.{unchanged}

-- ---- one value

map_alike : {X Y : Type 0} (f g : X → Y) → ((x : X) → f x ≡ g x) → (xs : List X) → map f xs ≡ map g xs
map_alike f g same [] = refl
map_alike f g same (x ∷ xs) = λ j. same x j ∷ map_alike f g same xs j

abbrev number_value : Module → Expr → ℕ → ℕ → Option Bool
number_value m e wanted place = para-Expr Value (bit_at m no_names) e wanted place

-- A value that is too wide gives nothing.
pub wide_unchanged : (m : Module) (first : ℕ) (name : Text) (e : Expr) (bits : List Bool) → is_some (width m e) ≡ false
    → Changes m first (after_value m name e) bits bits
wide_unchanged m first name e bits wide =
    unchanged m first (after_value m name e) bits (λ value. map_alike (after_value m name e value) value (same value) (register_bits m))
  where
    none : (b : Bool) (v : Bool) → unwrap_or (cond {A = Option Bool} b None None) v ≡ v
    none true v = refl
    none false v = refl

    same : (value : Values) (bit : Bit) → after_value m name e value bit ≡ value bit
    same value bit =
        let wanted : ℕ = max (bit_count m name) (unwrap_or (width m e) 0) in
        ap (λ b. unwrap_or (cond (bytes_eq name bit.name) (cond b (number_value m e wanted bit.place) None) None) (value bit))
        wide
        ∙ none (bytes_eq name bit.name) (value bit)

-- A number gives its bits.
pub number_given : (m : Module) (name : Text) (e : Expr) (at : ℕ) (number : List Bool) → e ≡ expr.Number at number
    → is_some (width m e) ≡ true → (value : Values) (bit : Bit) → after_value m name e value bit ≡ after_number name number value bit
number_given m name e at number is narrow value bit =
    let wanted : ℕ = max (bit_count m name) (unwrap_or (width m e) 0) in
    (λ j. unwrap_or (cond (bytes_eq name bit.name) (cond (narrow j) (number_value m e wanted bit.place) None) None) (value bit))
    ∙ ap (λ o. unwrap_or (cond (bytes_eq name bit.name) o None) (value bit))
    (ap (λ e. number_value m e wanted bit.place) (is ∙ sym (expr.rolls-Number at number))
    ∙ ap (λ (v : Value). v wanted bit.place) (para-roll-Expr Value (bit_at m no_names) (Expr-F.Number at number)))
    ∙ by (bytes_eq name bit.name) (slice_index_or number bit.place false) (value bit)
  where
    by : (b v w : Bool) → unwrap_or (cond b (Some v) None) w ≡ cond b v w
    by true v w = refl
    by false v w = refl

pub number_changes : (m : Module) (first : ℕ) (name : Text) (e : Expr) (at : ℕ) (number old new : List Bool) → e ≡ expr.Number at number
    → is_some (width m e) ≡ true → Changes m first (after_number name number) old new → Changes m first (after_value m name e) old new
number_changes m first name e at number old new is narrow changes before behind value old_is first_is =
    changes before behind value old_is first_is
    ∙ ap (λ bits. before ++ (bits ++ behind))
    (map_alike (after_number name number value) (after_value m name e value)
    (λ bit. sym (number_given m name e at number is narrow value bit)) (register_bits m))

-- ---- items

pub initial_changes : (m : Module) (first : ℕ) (item : Item) (at : ℕ) (name given_name : Text) (e : Expr) (old new : List Bool)
    → item ≡ Initial at name e → given_name ≡ name → Changes m first (after_value m given_name e) old new
    → Changes m first (after_item m item) old new
initial_changes m first item at name given_name e old new is same changes before behind value old_is first_is =
    changes before behind value old_is first_is
    ∙ ap (λ name. before ++ (map (after_value m name e value) (register_bits m) ++ behind)) same
    ∙ ap (λ item. before ++ (map (after_item m item value) (register_bits m) ++ behind)) (sym is)

-- The items behind a place are done.
pub record AreDone (m : Module) (first : ℕ) (items : List Item) (place : ℕ) (old new : List Bool) : Type 0 where
  pub counted : length new ≡ length old
  pub values : Changes m first (after_items m (drop place items)) old new

pub none_done : (m : Module) (first : ℕ) (items : List Item) (place : ℕ) (bits : List Bool) → length items ≤ place
    → AreDone m first items place bits bits
none_done m first items place bits past = record {
  counted = refl;
  values = λ before behind value is at.
      is
      ∙ ap (λ bits. before ++ (bits ++ behind))
      (sym (at_drop_all (λ rest. map (after_items m rest value) (register_bits m)) items place past));
}

pub more_done : (m : Module) (first : ℕ) (items : List Item) (place next : ℕ) (item d : Item) (old new more : List Bool) → next ≡ place + 1
    → place < length items → item ≡ get_or items place d → length more ≡ length new → Changes m first (after_item m item) new more
    → AreDone m first items next old new → AreDone m first items place old more
more_done m first items place next item d old new more next_is few item_is counted changes so_far = record {
  counted = counted ∙ so_far.counted;
  values = λ before behind value is at.
      let later : Values = after_items m (drop next items) value in
      changes before behind later (so_far.values before behind value is at) at
      ∙ ap (λ bits. before ++ (bits ++ behind))
      ((λ j. map (after_item m (item_is j) (after_items m (drop (next_is j) items) value)) (register_bits m))
      ∙ sym (at_drop_more (λ rest. map (after_items m rest value) (register_bits m)) items place d few));
}

pub all_done : (m : Module) (first : ℕ) (items : List Item) (place : ℕ) (old new : List Bool) → place ≡ 0
    → AreDone m first items place old new → Changes m first (after_items m items) old new
all_done m first items place old new none so_far before behind value is at =
    so_far.values before behind value is at
    ∙ ap (λ n. before ++ (map (after_items m (drop n items) value) (register_bits m) ++ behind)) none

-- ---- the first item that gives a bit

abbrev pub no_value : Values
no_value bit = false

first_counts : (m : Module) (bit : Bit) (items : List Item)
    → after_items m items no_value bit ≡ first_of_bits (filter_map (initial_of m bit) items)
first_counts m bit [] = refl
first_counts m bit (item ∷ items) = by (initial_of m bit item) (first_counts m bit items)
  where
    by : (given : Option Bool) → after_items m items no_value bit ≡ first_of_bits (filter_map (initial_of m bit) items)
        → unwrap_or given (after_items m items no_value bit) ≡ first_of_bits (cons_option given (filter_map (initial_of m bit) items))
    by (Some v) rest = refl
    by None rest = rest

blank : (bits : List Bit) (room : ℕ) → length bits ≤ room → replicate room false ≡ map no_value bits ++ replicate (room - length bits) false
blank [] room few = ap (λ n. replicate n false) {x = room} {y = room - 0} (omega arith)
blank (bit ∷ bits) zero few = absurd (omega (arith, few))
blank (bit ∷ bits) (suc room) few =
    ap (λ rest. false ∷ rest)
    (blank bits room (omega (arith, few))
    ∙ ap (λ n. map no_value bits ++ replicate n false) {x = room - length bits} {y = suc room - suc (length bits)} (omega arith))

pub all_added : (m : Module) (first : ℕ) (items : List Item) (old new : List Bool) → items ≡ m.items
    → Changes m first (after_items m items) old new → AddsPowerUp m first old new
all_added m first items old new all changes before room is at few =
    let rest : List Bool = replicate (room - length (register_bits m)) false in
    changes before rest no_value (is ∙ ap (λ bits. before ++ bits) (blank (register_bits m) room few)) at
    ∙ ap (λ bits. before ++ (bits ++ rest))
    (ap (λ items. map (after_items m items no_value) (register_bits m)) all
    ∙ map_alike (after_items m m.items no_value) (bit_at_power_up m) (λ bit. first_counts m bit m.items) (register_bits m))
