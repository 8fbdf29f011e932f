-- Where more bits of names have values, more bits of expressions have.
use Rattle.std.specs.Prelude.{◌≡◌, ℕ, zero, suc, ◌+◌, ◌-◌, List, [], ◌∷◌, ◌++◌, Bool, false, not, ◌&&◌, ◌||◌, Option, None, Some, is_some, map, max, nat_lt, option_and_then, option_map, refl, reverse, unwrap_or}
use Rattle.std.specs.Bool.{beq, xor}
use Rattle.std.specs.Cmp.Lexicographic.{pointwise}
use Rattle.std.specs.List.{list_any, range_with_len, repeat}
use Rattle.std.proofs.Common.{ap, sym, subst, ◌∙◌}
use Rattle.std.proofs.lemmas.List.{map-append, reverse-append}
use Rattle.flat_net.specs.Orders.{IsBelow}
use Rattle.vlog_tree.specs.declared.design.Module.{Module}
use Rattle.vlog_tree.specs.declared.expr.BinOp.{BinOp}
use Rattle.vlog_tree.specs.declared.expr.BinOp.TheVariants as binary
use Rattle.vlog_tree.specs.declared.expr.Expr.{Expr, map-Expr, roll-Expr}
use Rattle.vlog_tree.specs.declared.expr.Expr.TheFolds.{ind-Expr, para-Expr, para-roll-Expr}
use Rattle.vlog_tree.specs.declared.expr.Expr.TheOpen.{Expr-F}
use Rattle.vlog_tree.specs.declared.expr.UnOp.{UnOp}
use Rattle.vlog_tree.specs.declared.expr.UnOp.TheVariants as unary
use Rattle.vlog_tree.specs.Meaning.Expressions.{Names, Operand, Value, are_same, assigned_bit, binary_bit, bit_at, bits_at, chosen, expr_bit, named_bit, one_bit, own_bits, part_bit, reduced, selected_bit, truth, unary_bit}
use Rattle.vlog_tree.specs.Meaning.Ranges.{Bits, bit_with, part_bits, whole_bits}
use Rattle.vlog_tree.specs.Meaning.Uses.{Text}
use Rattle.vlog_tree.specs.Meaning.Widths.{together, width}
use Rattle.value_laws.proofs.BelowLemmas.{Below, all_below, below_self, chosen_below, cond_below, map_below, then_below, then_each, together_below}

-- ---- lists

map_both : {X Y Z : Type 0} (g : Y → Z) (f : X → Y) (xs : List X) → map g (map f xs) ≡ map (λ x. g (f x)) xs
map_both g f [] = refl
map_both g f (x ∷ xs) = ap (λ rest. g (f x) ∷ rest) (map_both g f xs)

map_reverse : {X Y : Type 0} (f : X → Y) (xs : List X) → reverse (map f xs) ≡ map f (reverse xs)
map_reverse f [] = refl
map_reverse f (x ∷ xs) =
    reverse-append (f x ∷ []) (map f xs)
    ∙ (ap (λ rest. rest ++ f x ∷ []) (map_reverse f xs)
    ∙ (sym (map-append f (reverse xs) (x ∷ []))
    ∙ ap (map f) (sym (reverse-append (x ∷ []) xs))))

map_repeat : {X Y : Type 0} (f : X → Y) (count : ℕ) (xs : List X) → repeat count (map f xs) ≡ map f (repeat count xs)
map_repeat f zero xs = refl
map_repeat f (suc count) xs =
    ap (λ rest. map f xs ++ rest) (map_repeat f count xs) ∙ sym (map-append f xs (repeat count xs))

-- ---- one bit

one_below : (a b : Option Bool) → IsBelow a b → (place : ℕ) → IsBelow (one_bit a place) (one_bit b place)
one_below a b h zero = h
one_below a b h (suc place) = below_self (Some false)

module _ (m : Module) (names others : Names) (below : (name : Text) (bit : ℕ) → IsBelow (names name bit) (others name bit)) where
  named_below : (bits : Bits) (place : ℕ) → IsBelow (named_bit names bits place) (named_bit others bits place)
  named_below bits place =
      cond_below (nat_lt place bits.width) (names bits.name (bits.low + place)) (others bits.name (bits.low + place))
      (Some false) (Some false) (below bits.name (bits.low + place)) (below_self (Some false))

  selected_below : (bits : Option Bits) (place : ℕ) → IsBelow (selected_bit names bits place) (selected_bit others bits place)
  selected_below bits place =
      then_each (λ bits. named_bit names bits place) (λ bits. named_bit others bits place) (λ bits. named_below bits place) bits

  -- ---- operands

  -- the expression with its value by the one names, and by the others
  abbrev first : Expr → Operand
  first e = (e, para-Expr Value (bit_at m names) e)

  abbrev second : Expr → Operand
  second e = (e, para-Expr Value (bit_at m others) e)

  -- Each bit is below.
  abbrev Grows : Expr → Type 0
  Grows e = (width place : ℕ)
      → IsBelow (para-Expr Value (bit_at m names) e width place) (para-Expr Value (bit_at m others) e width place)

  bits_below : (e : Expr) → Grows e → (width : ℕ) → Below (bits_at (first e) width) (bits_at (second e) width)
  bits_below e grows width = all_below ((first e).1 width) ((second e).1 width) (grows width) (range_with_len 0 width)

  own_below : (e : Expr) → Grows e → Below (own_bits m (first e)) (own_bits m (second e))
  own_below e grows = bits_below e grows (unwrap_or (width m e) 0)

  truth_below : (e : Expr) → Grows e → IsBelow (truth m (first e)) (truth m (second e))
  truth_below e grows = map_below (list_any (λ bit. bit)) (own_bits m (first e)) (own_bits m (second e)) (own_below e grows)

  -- ---- operators

  reduced_below : (op : UnOp) (e : Expr) → Grows e → (place : ℕ)
      → IsBelow (one_bit (option_and_then (reduced op) (own_bits m (first e))) place)
      (one_bit (option_and_then (reduced op) (own_bits m (second e))) place)
  reduced_below op e grows =
      one_below (option_and_then (reduced op) (own_bits m (first e))) (option_and_then (reduced op) (own_bits m (second e)))
      (then_below (reduced op) (own_bits m (first e)) (own_bits m (second e)) (own_below e grows))

  unary_below : (op : UnOp) (e : Expr) → Grows e → (width place : ℕ)
      → IsBelow (unary_bit m op (first e) width place) (unary_bit m op (second e) width place)
  unary_below unary.Inv e grows width place =
      map_below not ((first e).1 width place) ((second e).1 width place) (grows width place)
  unary_below other e grows width place = reduced_below other e grows place

  are_same_below : (left right : Expr) → Grows left → Grows right
      → IsBelow (are_same m (first left) (first right)) (are_same m (second left) (second right))
  are_same_below left right h k =
      let count : ℕ = max (unwrap_or (width m left) 0) (unwrap_or (width m right) 0) in
      together_below (pointwise beq) (bits_at (first left) count) (bits_at (second left) count)
      (bits_at (first right) count) (bits_at (second right) count) (bits_below left h count) (bits_below right k count)

  bitwise_below : (f : Bool → Bool → Bool) (left right : Expr) → Grows left → Grows right → (width place : ℕ)
      → IsBelow (together f ((first left).1 width place) ((first right).1 width place))
      (together f ((second left).1 width place) ((second right).1 width place))
  bitwise_below f left right h k width place =
      together_below f ((first left).1 width place) ((second left).1 width place)
      ((first right).1 width place) ((second right).1 width place) (h width place) (k width place)

  truths_below : (f : Bool → Bool → Bool) (left right : Expr) → Grows left → Grows right → (place : ℕ)
      → IsBelow (one_bit (together f (truth m (first left)) (truth m (first right))) place)
      (one_bit (together f (truth m (second left)) (truth m (second right))) place)
  truths_below f left right h k =
      one_below (together f (truth m (first left)) (truth m (first right)))
      (together f (truth m (second left)) (truth m (second right)))
      (together_below f (truth m (first left)) (truth m (second left)) (truth m (first right)) (truth m (second right))
      (truth_below left h) (truth_below right k))

  binary_below : (op : BinOp) (left right : Expr) → Grows left → Grows right → (width place : ℕ)
      → IsBelow (binary_bit m op (first left) (first right) width place) (binary_bit m op (second left) (second right) width place)
  binary_below binary.And left right h k width place = bitwise_below ◌&&◌ left right h k width place
  binary_below binary.Or left right h k width place = bitwise_below ◌||◌ left right h k width place
  binary_below binary.Xor left right h k width place = bitwise_below xor left right h k width place
  binary_below binary.Xnor left right h k width place = bitwise_below beq left right h k width place
  binary_below binary.LogAnd left right h k width place = truths_below ◌&&◌ left right h k place
  binary_below binary.LogOr left right h k width place = truths_below ◌||◌ left right h k place
  binary_below binary.Eq left right h k width place =
      one_below (are_same m (first left) (first right)) (are_same m (second left) (second right)) (are_same_below left right h k) place
  binary_below binary.Ne left right h k width place =
      one_below (option_map not (are_same m (first left) (first right))) (option_map not (are_same m (second left) (second right)))
      (map_below not (are_same m (first left) (first right)) (are_same m (second left) (second right)) (are_same_below left right h k))
      place

  choice_below : (condition left right : Expr) → Grows condition → Grows left → Grows right → (width place : ℕ)
      → IsBelow (chosen (truth m (first condition)) ((first left).1 width place) ((first right).1 width place))
      (chosen (truth m (second condition)) ((second left).1 width place) ((second right).1 width place))
  choice_below condition left right g h k width place =
      chosen_below (truth m (first condition)) (truth m (second condition))
      ((first left).1 width place) ((second left).1 width place) ((first right).1 width place) ((second right).1 width place)
      (truth_below condition g) (h width place) (k width place)

  -- ---- parts

  abbrev Proved : Type 0
  Proved = (e : Expr) × Grows e

  abbrev bare : List Proved → List Expr
  bare parts = map (λ part. part.0) parts

  abbrev firsts : List Proved → List Operand
  firsts parts = map (λ part. first part.0) parts

  abbrev seconds : List Proved → List Operand
  seconds parts = map (λ part. second part.0) parts

  part_below : (parts : List Proved) (place : ℕ) → IsBelow (part_bit m (firsts parts) place) (part_bit m (seconds parts) place)
  part_below [] place = below_self (Some false)
  part_below (part ∷ parts) place =
      let count : ℕ = unwrap_or (width m part.0) 0 in
      cond_below (nat_lt place count) ((first part.0).1 count place) ((second part.0).1 count place)
      (part_bit m (firsts parts) (place - count)) (part_bit m (seconds parts) (place - count))
      (part.1 count place) (part_below parts (place - count))

  row_below : (left right : List Operand) (parts : List Proved) → left ≡ firsts parts → right ≡ seconds parts → (place : ℕ)
      → IsBelow (part_bit m left place) (part_bit m right place)
  row_below left right parts is are place bit h =
      ap (λ row. part_bit m row place) are
      ∙ part_below parts place bit (sym (ap (λ row. part_bit m row place) is) ∙ h)

  backwards : (f : Expr → Operand) (parts : List Proved)
      → reverse (map f (bare parts)) ≡ map (λ part. f part.0) (reverse parts)
  backwards f parts =
      ap reverse (map_both f (λ part. part.0) parts) ∙ map_reverse (λ part. f part.0) parts

  repeated : (f : Expr → Operand) (times : ℕ) (parts : List Proved)
      → repeat times (reverse (map f (bare parts))) ≡ map (λ part. f part.0) (repeat times (reverse parts))
  repeated f times parts =
      ap (repeat times) (backwards f parts) ∙ map_repeat (λ part. f part.0) times (reverse parts)

  -- ---- the forms

  level : (x : Expr-F Expr) → ((width place : ℕ) → IsBelow (bit_at m names (map-Expr Expr Operand first x) width place)
      (bit_at m others (map-Expr Expr Operand second x) width place)) → Grows (roll-Expr x)
  level x h width place bit is =
      ap (λ (value : Value). value width place) (para-roll-Expr Value (bit_at m others) x)
      ∙ h width place bit (sym (ap (λ (value : Value). value width place) (para-roll-Expr Value (bit_at m names) x)) ∙ is)

  abbrev FormGrows : Expr-F Expr → Type 0
  FormGrows x = Grows (roll-Expr x)

  form : (y : Expr-F Proved) → FormGrows (map-Expr Proved Expr (λ e. e.0) y)
  form (Expr-F.Number at digits) = level (Expr-F.Number at digits) (λ width place bit is. is)
  form (Expr-F.Whole at name) = level (Expr-F.Whole at name) (λ width place. selected_below (whole_bits m name) place)
  form (Expr-F.Bit at name index) = level (Expr-F.Bit at name index) (λ width place. selected_below (bit_with m name index) place)
  form (Expr-F.Part at name part) = level (Expr-F.Part at name part) (λ width place. selected_below (part_bits m name part) place)
  form (Expr-F.Unary op arg) = level (Expr-F.Unary op arg.0) (unary_below op arg.0 arg.1)
  form (Expr-F.Binary op left right) = level (Expr-F.Binary op left.0 right.0) (binary_below op left.0 right.0 left.1 right.1)
  form (Expr-F.Cond condition left right) =
      level (Expr-F.Cond condition.0 left.0 right.0) (choice_below condition.0 left.0 right.0 condition.1 left.1 right.1)
  form (Expr-F.Join parts) =
      level (Expr-F.Join (bare parts)) (λ width place.
      row_below (reverse (map first (bare parts))) (reverse (map second (bare parts))) (reverse parts)
      (backwards first parts) (backwards second parts) place)
  form (Expr-F.Repeat times parts) =
      level (Expr-F.Repeat times (bare parts)) (λ width place.
      row_below (repeat times (reverse (map first (bare parts)))) (repeat times (reverse (map second (bare parts))))
      (repeat times (reverse parts)) (repeated first times parts) (repeated second times parts) place)

  all_grow : (e : Expr) → Grows e
  all_grow = ind-Expr Grows (λ x y is. subst FormGrows is (form y))

  pub expression_below : (e : Expr) (count place : ℕ) → IsBelow (expr_bit m names e count place) (expr_bit m others e count place)
  expression_below e count place =
      cond_below (is_some (width m e)) ((first e).1 count place) ((second e).1 count place) None None
      (all_grow e count place) (below_self None)

  pub assigned_below : (count : ℕ) (e : Expr) (place : ℕ)
      → IsBelow (assigned_bit m names count e place) (assigned_bit m others count e place)
  assigned_below count e place = expression_below e (max count (unwrap_or (width m e) 0)) place
