-- Where all bits of names have values, the bits of sound expressions have, and so have conditions.
use Rattle.std.specs.Prelude.{◌≡◌, ⊤, ℕ, zero, suc, ◌+◌, ◌-◌, ◌*◌, ◌<◌, ◌≤◌, List, [], ◌∷◌, ◌++◌, Bool, true, false, not, ◌&&◌, ◌||◌, Option, None, Some, cond, is_some, map, max, nat_lt, option_and_then, option_map, refl, reverse, sum, unwrap_or}
use Rattle.std.specs.Bool.{beq, xor}
use Rattle.std.specs.Cmp.Lexicographic.{pointwise}
use Rattle.std.specs.List.{list_any, range_with_len, repeat}
use Rattle.std.proofs.Common.{ap, arith, sym, subst, ◌∙◌}
use Rattle.std.proofs.lemmas.Bool.{and_from, and_parts, ltb-true}
use Rattle.std.proofs.lemmas.List.{reverse-append}
use Rattle.vlog_tree.specs.declared.design.Module.{Module}
use Rattle.vlog_tree.specs.declared.expr.BinOp.{BinOp}
use Rattle.vlog_tree.specs.declared.expr.BinOp.TheVariants as binary
use Rattle.vlog_tree.specs.declared.expr.Expr.{Expr, map-Expr, roll-Expr}
use Rattle.vlog_tree.specs.declared.expr.Expr.TheFolds.{ind-Expr, para-Expr, para-roll-Expr}
use Rattle.vlog_tree.specs.declared.expr.Expr.TheOpen.{Expr-F}
use Rattle.vlog_tree.specs.declared.expr.UnOp.{UnOp}
use Rattle.vlog_tree.specs.declared.expr.UnOp.TheVariants as unary
use Rattle.vlog_tree.specs.declared.stmt.Stmt.{Stmt, map-Stmt, roll-Stmt}
use Rattle.vlog_tree.specs.declared.stmt.Stmt.TheFolds.{fold-roll-Stmt, ind-Stmt}
use Rattle.vlog_tree.specs.declared.stmt.Stmt.TheOpen.{Stmt-F}
use Rattle.vlog_tree.specs.Meaning.Expressions.{Names, Operand, Value, are_same, binary_bit, bit_at, bits_at, chosen, expr_bit, is_true, named_bit, one_bit, own_bits, part_bit, reduced, selected_bit, truth, unary_bit, width_of}
use Rattle.vlog_tree.specs.Meaning.Keys.{bit_count}
use Rattle.vlog_tree.specs.Meaning.Ranges.{Bits, bit_with, part_bits, whole_bits}
use Rattle.vlog_tree.specs.Meaning.Uses.{Text}
use Rattle.vlog_tree.specs.Meaning.Widths.{all_of, binary_width, together, unary_width, width}
use Rattle.lowering.specs.Meaning.{has_selects, is_sound}
use Rattle.lowering.proofs.SelectLemmas.{FitsIn, and_both, bit_fits, part_fits, whole_fits}
use Rattle.lowering.proofs.SoundLemmas.{AllSound, both_and, both_there, choice_there, level_selected, level_selects, level_there, level_width, mapped_there, parts_sound, row_there}
use Rattle.design_laws.specs.Sound.{each, stmt_is_sound, stmt_is_sound_at}
use Rattle.processes.specs.Means.{conditions_known, conditions_known_at}

-- ---- values that are there

abbrev Has : {X : Type 0} → Option X → Type 0
Has o = is_some o ≡ true

module _ {X Y : Type 0} where
  map_has : (f : X → Y) (a : Option X) → Has a → Has (option_map f a)
  map_has f None h = absurd cc
  map_has f (Some x) h = refl

  then_has : (f : X → Option Y) → ((x : X) → Has (f x)) → (a : Option X) → Has a → Has (option_and_then f a)
  then_has f all None h = absurd cc
  then_has f all (Some x) h = all x

together_has : {X Y Z : Type 0} (f : X → Y → Z) (a : Option X) (b : Option Y) → Has a → Has b → Has (together f a b)
together_has f None b h k = absurd cc
together_has f (Some x) None h k = absurd cc
together_has f (Some x) (Some y) h k = refl

chosen_has : (a b c : Option Bool) → Has a → Has b → Has c → Has (chosen a b c)
chosen_has None b c g h k = absurd cc
chosen_has (Some choice) b c g h k = together_has (cond choice) b c h k

one_has : (a : Option Bool) → Has a → (place : ℕ) → Has (one_bit a place)
one_has a h zero = h
one_has a h (suc place) = refl

cons_has : {X : Type 0} (a : Option X) (rest : List (Option X)) → Has a → Has (all_of rest) → Has (all_of (a ∷ rest))
cons_has None rest h k = absurd cc
cons_has (Some x) rest h k = map_has (λ xs. x ∷ xs) (all_of rest) k

all_has : {I X : Type 0} (f : I → Option X) → ((i : I) → Has (f i)) → (list : List I) → Has (all_of (map f list))
all_has f h [] = refl
all_has f h (i ∷ list) = cons_has (f i) (map f list) (h i) (all_has f h list)

cond_has : {X : Type 0} (choice : Bool) (a b : Option X) → (choice ≡ true → Has a) → Has b → Has (cond choice a b)
cond_has true a b h k = h refl
cond_has false a b h k = k

-- ---- parts

-- Each operand has a value at each place.
abbrev AllKnown : List Operand → Type 0
AllKnown [] = ⊤
AllKnown (part ∷ parts) = ((count place : ℕ) → Has (part.1 count place)) × AllKnown parts

append_known : (left right : List Operand) → AllKnown left → AllKnown right → AllKnown (left ++ right)
append_known [] right h k = k
append_known (part ∷ left) right h k = (h.0, append_known left right h.1 k)

reverse_known : (parts : List Operand) → AllKnown parts → AllKnown (reverse parts)
reverse_known [] h = tt
reverse_known (part ∷ parts) h =
    subst AllKnown (sym (reverse-append (part ∷ []) parts))
    (append_known (reverse parts) (part ∷ []) (reverse_known parts h.1) (h.0, tt))

repeat_known : (times : ℕ) (parts : List Operand) → AllKnown parts → AllKnown (repeat times parts)
repeat_known zero parts h = tt
repeat_known (suc times) parts h = append_known parts (repeat times parts) h (repeat_known times parts h)

part_has : (m : Module) (parts : List Operand) → AllKnown parts → (place : ℕ) → Has (part_bit m parts place)
part_has m [] h place = refl
part_has m (part ∷ parts) h place =
    let count : ℕ = width_of m part in
    cond_has (nat_lt place count) (part.1 count place) (part_bit m parts (place - count)) (λ is. h.0 count place)
    (part_has m parts h.1 (place - count))

module _ (m : Module) (names : Names)
    (all : (name : Text) (bit : ℕ) → bit < bit_count m name → is_some (names name bit) ≡ true) where
  abbrev value : Expr → Value
  value = para-Expr Value (bit_at m names)

  abbrev valued : Expr → Operand
  valued e = (e, value e)

  abbrev AtAll : Expr → Type 0
  AtAll e = (count place : ℕ) → Has (value e count place)

  abbrev Known : Expr → Type 0
  Known e = is_sound m e ≡ true → AtAll e

  -- ---- names

  named_has : (one : Bits) (place : ℕ) → one.low + one.width ≤ bit_count m one.name → Has (named_bit names one place)
  named_has one place fits =
      cond_has (nat_lt place one.width) (names one.name (one.low + place)) (Some false)
      (λ is. all one.name (one.low + place) (let within : place < one.width = ltb-true place one.width is in omega (arith, fits, within)))
      refl

  selected_has : (one : Option Bits) (count : ℕ) → FitsIn m count one → (place : ℕ) → Has (selected_bit names one place)
  selected_has None count fits place = absurd fits
  selected_has (Some one) count fits place = named_has one place fits.0

  -- ---- operators

  bits_have : (e : Expr) → AtAll e → (count : ℕ) → Has (bits_at (valued e) count)
  bits_have e known count = all_has (value e count) (known count) (range_with_len 0 count)

  own_has : (e : Expr) → AtAll e → Has (own_bits m (valued e))
  own_has e known = bits_have e known (unwrap_or (width m e) 0)

  truth_has : (e : Expr) → AtAll e → Has (truth m (valued e))
  truth_has e known = map_has (list_any (λ bit. bit)) (own_bits m (valued e)) (own_has e known)

  reduction_has : (op : UnOp) → ((bits : List Bool) → Has (reduced op bits)) → (e : Expr) → AtAll e → (place : ℕ)
      → Has (one_bit (option_and_then (reduced op) (own_bits m (valued e))) place)
  reduction_has op each e known =
      one_has (option_and_then (reduced op) (own_bits m (valued e)))
      (then_has (reduced op) each (own_bits m (valued e)) (own_has e known))

  unary_has : (op : UnOp) (e : Expr) → AtAll e → (count place : ℕ) → Has (unary_bit m op (valued e) count place)
  unary_has unary.Inv e known count place = map_has not (value e count place) (known count place)
  unary_has unary.Not e known count place = reduction_has unary.Not (λ bits. refl) e known place
  unary_has unary.RedAnd e known count place = reduction_has unary.RedAnd (λ bits. refl) e known place
  unary_has unary.RedNand e known count place = reduction_has unary.RedNand (λ bits. refl) e known place
  unary_has unary.RedOr e known count place = reduction_has unary.RedOr (λ bits. refl) e known place
  unary_has unary.RedNor e known count place = reduction_has unary.RedNor (λ bits. refl) e known place
  unary_has unary.RedXor e known count place = reduction_has unary.RedXor (λ bits. refl) e known place
  unary_has unary.RedXnor e known count place = reduction_has unary.RedXnor (λ bits. refl) e known place

  same_has : (left right : Expr) → AtAll left → AtAll right → Has (are_same m (valued left) (valued right))
  same_has left right h k =
      let count : ℕ = max (unwrap_or (width m left) 0) (unwrap_or (width m right) 0) in
      together_has (pointwise beq) (bits_at (valued left) count) (bits_at (valued right) count) (bits_have left h count)
      (bits_have right k count)

  bitwise_has : (f : Bool → Bool → Bool) (left right : Expr) → AtAll left → AtAll right → (count place : ℕ)
      → Has (together f (value left count place) (value right count place))
  bitwise_has f left right h k count place =
      together_has f (value left count place) (value right count place) (h count place) (k count place)

  truths_have : (f : Bool → Bool → Bool) (left right : Expr) → AtAll left → AtAll right → (place : ℕ)
      → Has (one_bit (together f (truth m (valued left)) (truth m (valued right))) place)
  truths_have f left right h k =
      one_has (together f (truth m (valued left)) (truth m (valued right)))
      (together_has f (truth m (valued left)) (truth m (valued right)) (truth_has left h) (truth_has right k))

  binary_has : (op : BinOp) (left right : Expr) → AtAll left → AtAll right → (count place : ℕ)
      → Has (binary_bit m op (valued left) (valued right) count place)
  binary_has binary.And left right h k count place = bitwise_has ◌&&◌ left right h k count place
  binary_has binary.Or left right h k count place = bitwise_has ◌||◌ left right h k count place
  binary_has binary.Xor left right h k count place = bitwise_has xor left right h k count place
  binary_has binary.Xnor left right h k count place = bitwise_has beq left right h k count place
  binary_has binary.LogAnd left right h k count place = truths_have ◌&&◌ left right h k place
  binary_has binary.LogOr left right h k count place = truths_have ◌||◌ left right h k place
  binary_has binary.Eq left right h k count place =
      one_has (are_same m (valued left) (valued right)) (same_has left right h k) place
  binary_has binary.Ne left right h k count place =
      one_has (option_map not (are_same m (valued left) (valued right)))
      (map_has not (are_same m (valued left) (valued right)) (same_has left right h k)) place

  -- ---- the forms

  level : (x : Expr-F Expr) → (is_some (level_width m x) ≡ true → level_selects m x ≡ true → (count place : ℕ)
      → Has (bit_at m names (map-Expr Expr Operand valued x) count place)) → Known (roll-Expr x)
  level x h sound count place =
      ap (λ (value : Value). is_some (value count place)) (para-roll-Expr Value (bit_at m names) x)
      ∙ h (level_there m x sound) (level_selected m x sound) count place

  sound_of : (e : Expr) → is_some (width m e) ≡ true → has_selects m e ≡ true → is_sound m e ≡ true
  sound_of e h k = both_and (is_some (width m e)) (has_selects m e) h k

  abbrev Proved : Type 0
  Proved = (e : Expr) × Known e

  abbrev bare : List Proved → List Expr
  bare parts = map (λ part. part.0) parts

  parts_known : (parts : List Proved) → AllSound m (bare parts) → AllKnown (map valued (bare parts))
  parts_known [] sound = tt
  parts_known (part ∷ parts) sound = (part.1 sound.0, parts_known parts sound.1)

  abbrev FormKnown : Expr-F Expr → Type 0
  FormKnown x = Known (roll-Expr x)

  form : (y : Expr-F Proved) → FormKnown (map-Expr Proved Expr (λ e. e.0) y)
  form (Expr-F.Number at digits) = level (Expr-F.Number at digits) (λ there selects count place. refl)
  form (Expr-F.Whole at name) =
      level (Expr-F.Whole at name) (λ there selects count place.
      selected_has (whole_bits m name) (unwrap_or (level_width m (Expr-F.Whole at name)) 0)
      (whole_fits m name (unwrap_or (level_width m (Expr-F.Whole at name)) 0) there (omega arith)) place)
  form (Expr-F.Bit at name index) =
      level (Expr-F.Bit at name index) (λ there selects count place.
      selected_has (bit_with m name index) (unwrap_or (level_width m (Expr-F.Bit at name index)) 0)
      (bit_fits m name index (unwrap_or (level_width m (Expr-F.Bit at name index)) 0) selects (omega arith)) place)
  form (Expr-F.Part at name part) =
      level (Expr-F.Part at name part) (λ there selects count place.
      selected_has (part_bits m name part) (unwrap_or (level_width m (Expr-F.Part at name part)) 0)
      (part_fits m name part (unwrap_or (level_width m (Expr-F.Part at name part)) 0) selects there (omega arith)) place)
  form (Expr-F.Unary op arg) =
      level (Expr-F.Unary op arg.0) (λ there selects.
      unary_has op arg.0 (arg.1 (sound_of arg.0 (mapped_there (unary_width op) (width m arg.0) there).0 selects)))
  form (Expr-F.Binary op left right) =
      level (Expr-F.Binary op left.0 right.0) (λ there selects.
      let inside = both_there (binary_width op) (width m left.0) (width m right.0) there in
      let selected = and_both (has_selects m left.0) (has_selects m right.0) selects in
      binary_has op left.0 right.0 (left.1 (sound_of left.0 inside.0 selected.0)) (right.1 (sound_of right.0 inside.1 selected.1)))
  form (Expr-F.Cond condition first second) =
      level (Expr-F.Cond condition.0 first.0 second.0) (λ there selects count place.
      let inside = choice_there (width m condition.0) (width m first.0) (width m second.0) there in
      let selected = and_both (has_selects m condition.0) (has_selects m first.0 && has_selects m second.0) selects in
      let branches = and_both (has_selects m first.0) (has_selects m second.0) selected.1 in
      chosen_has (truth m (valued condition.0)) (value first.0 count place) (value second.0 count place)
      (truth_has condition.0 (condition.1 (sound_of condition.0 inside.0 selected.0)))
      (first.1 (sound_of first.0 inside.1 branches.0) count place) (second.1 (sound_of second.0 inside.2 branches.1) count place))
  form (Expr-F.Join parts) =
      level (Expr-F.Join (bare parts)) (λ there selects count place.
      let sound : AllSound m (bare parts) =
      parts_sound m (bare parts) (row_there (λ widths. sum widths) (map (width m) (bare parts)) there).0 selects in
      part_has m (reverse (map valued (bare parts))) (reverse_known (map valued (bare parts)) (parts_known parts sound)) place)
  form (Expr-F.Repeat times parts) =
      level (Expr-F.Repeat times (bare parts)) (λ there selects count place.
      let sound : AllSound m (bare parts) =
      parts_sound m (bare parts) (row_there (λ widths. times * sum widths) (map (width m) (bare parts)) there).0 selects in
      part_has m (repeat times (reverse (map valued (bare parts))))
      (repeat_known times (reverse (map valued (bare parts)))
      (reverse_known (map valued (bare parts)) (parts_known parts sound))) place)

  all_known : (e : Expr) → Known e
  all_known = ind-Expr Known (λ x y is. subst FormKnown is (form y))

  -- A sound expression has a value at each place.
  pub expression_has : (e : Expr) → is_sound m e ≡ true → (count place : ℕ) → is_some (expr_bit m names e count place) ≡ true
  expression_has e sound count place =
      ap (λ there. is_some (cond there (value e count place) None)) (and_both (is_some (width m e)) (has_selects m e) sound).0
      ∙ all_known e sound count place

  pub condition_has : (e : Expr) → is_sound m e ≡ true → is_some (is_true m names e) ≡ true
  condition_has e sound =
      let count : ℕ = unwrap_or (width m e) 0 in
      map_has (list_any (λ bit. bit)) (bits_at (e, expr_bit m names e) count)
      (all_has (expr_bit m names e count) (expression_has e sound count) (range_with_len 0 count))

  -- ---- statements

  abbrev Conditions : Stmt → Type 0
  Conditions stmt = stmt_is_sound m stmt ≡ true → conditions_known m names stmt ≡ true

  statement_level : (x : Stmt-F Stmt) → (stmt_is_sound_at m (map-Stmt Stmt Bool (stmt_is_sound m) x) ≡ true
      → conditions_known_at m names (map-Stmt Stmt Bool (conditions_known m names) x) ≡ true) → Conditions (roll-Stmt x)
  statement_level x h sound =
      fold-roll-Stmt Bool (conditions_known_at m names) x
      ∙ h (sym (fold-roll-Stmt Bool (stmt_is_sound_at m) x) ∙ sound)

  abbrev ProvedStmt : Type 0
  ProvedStmt = (stmt : Stmt) × Conditions stmt

  abbrev bare_row : List ProvedStmt → List Stmt
  bare_row body = map (λ stmt. stmt.0) body

  row_known : (body : List ProvedStmt) → each (map (stmt_is_sound m) (bare_row body)) ≡ true
      → each (map (conditions_known m names) (bare_row body)) ≡ true
  row_known [] sound = refl
  row_known (stmt ∷ body) sound =
      let parts = and_parts (stmt_is_sound m stmt.0) (each (map (stmt_is_sound m) (bare_row body))) sound in
      and_from (conditions_known m names stmt.0) (each (map (conditions_known m names) (bare_row body))) (stmt.1 parts.0)
      (row_known body parts.1)

  abbrev FormConditions : Stmt-F Stmt → Type 0
  FormConditions x = Conditions (roll-Stmt x)

  if_known : (test : Expr) (first : ProvedStmt) (other : Option ProvedStmt)
      → FormConditions (map-Stmt ProvedStmt Stmt (λ stmt. stmt.0) (Stmt-F.If test first other))
  if_known test first None =
      statement_level (Stmt-F.If test first.0 None) (λ sound.
      let sounds = and_parts (is_sound m test) (stmt_is_sound m first.0 && true) sound in
      let own = and_parts (stmt_is_sound m first.0) true sounds.1 in
      and_from (is_some (is_true m names test)) (conditions_known m names first.0 && true) (condition_has test sounds.0)
      (and_from (conditions_known m names first.0) true (first.1 own.0) refl))
  if_known test first (Some other) =
      statement_level (Stmt-F.If test first.0 (Some other.0)) (λ sound.
      let sounds = and_parts (is_sound m test) (stmt_is_sound m first.0 && stmt_is_sound m other.0) sound in
      let both = and_parts (stmt_is_sound m first.0) (stmt_is_sound m other.0) sounds.1 in
      and_from (is_some (is_true m names test)) (conditions_known m names first.0 && conditions_known m names other.0)
      (condition_has test sounds.0)
      (and_from (conditions_known m names first.0) (conditions_known m names other.0) (first.1 both.0) (other.1 both.1)))

  statement_form : (y : Stmt-F ProvedStmt) → FormConditions (map-Stmt ProvedStmt Stmt (λ stmt. stmt.0) y)
  statement_form Stmt-F.Empty = statement_level Stmt-F.Empty (λ sound. refl)
  statement_form (Stmt-F.Block body) = statement_level (Stmt-F.Block (bare_row body)) (row_known body)
  statement_form (Stmt-F.If test first other) = if_known test first other
  statement_form (Stmt-F.Set at left right) = statement_level (Stmt-F.Set at left right) (λ sound. refl)

  -- The conditions of a sound statement have values.
  pub conditions_have : (stmt : Stmt) → stmt_is_sound m stmt ≡ true → conditions_known m names stmt ≡ true
  conditions_have = ind-Stmt Conditions (λ x y is. subst FormConditions is (statement_form y))
