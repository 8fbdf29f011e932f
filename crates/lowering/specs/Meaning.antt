-- What lowered expressions mean: that edges have the values of the bits for which they stand.
use Rattle.std.specs.Prelude.{◌≡◌, ⊤, ℕ, ◌+◌, ◌<◌, ◌≤◌, ◌==◌, List, [], ◌∷◌, Bool, true, false, ◌&&◌, Option, Some, is_some, length, max, option_and_then, slice_get}
use Rattle.std.specs.List.{list_all}
use Rattle.flat_net.specs.declared.edge.Edge.{Edge}
use Rattle.flat_net.specs.declared.node.Node.{Node}
use Rattle.flat_net.specs.Values.{Reading, edge_value, node_value}
use Rattle.vlog_tree.specs.declared.design.Module.{Module}
use Rattle.vlog_tree.specs.declared.expr.Expr.{Expr}
use Rattle.vlog_tree.specs.declared.expr.Expr.TheFolds.{fold-Expr}
use Rattle.vlog_tree.specs.declared.expr.Expr.TheOpen.{Expr-F}
use Rattle.vlog_tree.specs.declared.item.GateKind.{GateKind}
use Rattle.vlog_tree.specs.declared.item.GateKind.TheVariants as kind
use Rattle.vlog_tree.specs.Meaning.Expressions.{Names, assigned_bit, expr_bit, is_true}
use Rattle.vlog_tree.specs.Meaning.Expressions as meaning
use Rattle.vlog_tree.specs.Meaning.Keys.{bit_count}
use Rattle.vlog_tree.specs.Meaning.Ranges.{bit_with, part_bits}
use Rattle.vlog_tree.specs.Meaning.Uses.{Text}
use Rattle.vlog_tree.specs.Meaning.Value.{gate_value}
use Rattle.vlog_tree.specs.Meaning.Widths.{all_of, width}
use Rattle.lowering.specs.Expressions.{Wires, assigned, condition, expression, only, width_of}
use Rattle.lowering.specs.Gates.{chosen, gate}

-- ---- sound expressions

abbrev pub has_selects_at : Module → Expr-F Bool → Bool
has_selects_at m (Expr-F.Number at bits) = true
has_selects_at m (Expr-F.Whole at name) = true
has_selects_at m (Expr-F.Bit at name index) = is_some (bit_with m name index)
has_selects_at m (Expr-F.Part at name part) = is_some (part_bits m name part)
has_selects_at m (Expr-F.Unary op arg) = arg
has_selects_at m (Expr-F.Binary op left right) = left && right
has_selects_at m (Expr-F.Cond condition first second) = condition && (first && second)
has_selects_at m (Expr-F.Join parts) = list_all (λ part. part) parts
has_selects_at m (Expr-F.Repeat count parts) = list_all (λ part. part) parts

-- whether each select of an expression has bits
abbrev pub has_selects : Module → Expr → Bool
has_selects m = fold-Expr Bool (has_selects_at m)

-- An expression is sound where it has a width and its selects have bits.
abbrev pub is_sound : Module → Expr → Bool
is_sound m e = is_some (width m e) && has_selects m e

-- ---- values

-- how the value that is meant and the value that is read may stand to each other
abbrev pub Relation : Type 1
Relation = Option Bool → Option Bool → Type 0

-- What has a value in the first has the same in the second.
abbrev pub IsBelow : Relation
IsBelow a b = (value : Bool) → a ≡ Some value → b ≡ Some value

abbrev pub IsAbove : Relation
IsAbove a b = IsBelow b a

-- the value of the edge at a place, where there is one
abbrev pub edge_at : Reading → List Edge → ℕ → Option Bool
edge_at read edges place = option_and_then (edge_value read) (slice_get edges place)

module _ (rel : Relation) (read : Reading) where
  -- Nodes that are added from a number on are read by their values.
  abbrev pub Holds : List Bool → List Bool → ℕ → List Node → Type 0
  Holds state row next [] = ⊤
  Holds state row next (node ∷ nodes) = rel (node_value state row read node) (read next) × Holds state row (next + 1) nodes

  -- one edge for each value, with that value
  abbrev pub Carries : List (Option Bool) → List Edge → Type 0
  Carries [] [] = ⊤
  Carries [] (edge ∷ edges) = ⊥
  Carries (value ∷ values) [] = ⊥
  Carries (value ∷ values) (edge ∷ edges) = rel value (edge_value read edge) × Carries values edges

  -- Node 0 is read as 0.
  abbrev pub HasZero : Type 0
  HasZero = rel (Some false) (read 0)

  -- The edges of the bits of names have the values of these.
  abbrev pub HasNames : Module → Names → Wires → Type 0
  HasNames m names wires =
      (name : Text) (bit : ℕ) → bit < bit_count m name → rel (names name bit) (edge_value read (wires name bit))

-- Nodes have the values that are theirs, where they read values.
abbrev pub IsClosed : List Bool → List Bool → Reading → ℕ → List Node → Type 0
IsClosed state row read next nodes = Holds IsBelow read state row next nodes

-- Nodes have no values but those that are theirs.
abbrev pub IsFounded : List Bool → List Bool → Reading → ℕ → List Node → Type 0
IsFounded state row read next nodes = Holds IsAbove read state row next nodes

-- ---- gates

-- whether a gate has a value for so many inputs
abbrev pub takes : GateKind → ℕ → Bool
takes kind.Buf count = count == 1
takes kind.Not count = count == 1
takes other count = true

-- ---- what is meant, in one direction

module _ (rel : Relation) where
  -- each bit of an expression, at a width that is not below its own
  abbrev pub ExpressionMeans : Type 0
  ExpressionMeans =
      (m : Module) (names : Names) (wires : Wires) (state row : List Bool) (read : Reading) (e : Expr) (width next : ℕ)
      → is_sound m e ≡ true → width_of m e ≤ width → HasZero rel read → HasNames rel read m names wires
      → Holds rel read state row next (expression m wires e width next).nodes
      → (place : ℕ) → place < width
      → rel (expr_bit m names e width place) (edge_at read (expression m wires e width next).edges place)

  -- whether a condition is true
  abbrev pub ConditionMeans : Type 0
  ConditionMeans =
      (m : Module) (names : Names) (wires : Wires) (state row : List Bool) (read : Reading) (e : Expr) (next : ℕ)
      → is_sound m e ≡ true → HasZero rel read → HasNames rel read m names wires
      → Holds rel read state row next (condition m wires e next).nodes
      → rel (is_true m names e) (edge_value read (only (condition m wires e next).edges))

  -- each bit of the right side of an assignment
  abbrev pub AssignedMeans : Type 0
  AssignedMeans =
      (m : Module) (names : Names) (wires : Wires) (state row : List Bool) (read : Reading) (count : ℕ) (e : Expr) (next : ℕ)
      → is_sound m e ≡ true → HasZero rel read → HasNames rel read m names wires
      → Holds rel read state row next (assigned m wires count e next).nodes
      → (place : ℕ) → place < max count (width_of m e)
      → rel (assigned_bit m names count e place) (edge_at read (assigned m wires count e next).edges place)

  -- the output of a gate, by the values of its inputs
  abbrev pub GateMeans : Type 0
  GateMeans =
      (state row : List Bool) (read : Reading) (sort : GateKind) (values : List (Option Bool)) (inputs : List Edge) (next : ℕ)
      → takes sort (length inputs) ≡ true → HasZero rel read → Carries rel read values inputs
      → Holds rel read state row next (gate sort inputs next).nodes
      → rel (option_and_then (gate_value sort) (all_of values)) (edge_value read (only (gate sort inputs next).edges))

  -- the value that a choice chooses, where all three have one
  abbrev pub ChoiceMeans : Type 0
  ChoiceMeans =
      (state row : List Bool) (read : Reading) (a b c : Option Bool) (choice first second : Edge) (next : ℕ)
      → rel a (edge_value read choice) → rel b (edge_value read first) → rel c (edge_value read second)
      → Holds rel read state row next (chosen choice first second next).nodes
      → rel (meaning.chosen a b c) (edge_value read (only (chosen choice first second next).edges))

-- ---- the law

pub record MeansExpressions : Type 0 where
  -- There is an edge for each bit.
  pub count : (m : Module) (wires : Wires) (e : Expr) (width next : ℕ) → is_sound m e ≡ true → width_of m e ≤ width
      → length (expression m wires e width next).edges ≡ width
  -- Edges have the values that bits have, and only these.
  pub up : ExpressionMeans IsBelow
  pub down : ExpressionMeans IsAbove
  pub condition_up : ConditionMeans IsBelow
  pub condition_down : ConditionMeans IsAbove
  pub assigned_up : AssignedMeans IsBelow
  pub assigned_down : AssignedMeans IsAbove
  pub gate_up : GateMeans IsBelow
  pub gate_down : GateMeans IsAbove
  pub choice_up : ChoiceMeans IsBelow
  pub choice_down : ChoiceMeans IsAbove
