-- The laws on what is lowered, for a relation of values.
use Rattle.std.specs.Prelude.{◌≡◌, ℕ, ◌+◌, ◌≤◌, List, [], ◌∷◌, true, None, cond, is_some, length, map, max, option_and_then, option_map, unwrap_or}
use Rattle.std.specs.List.{list_any, range_with_len}
use Rattle.std.proofs.Common.{ap, arith, sym, subst, ◌∙◌}
use Rattle.flat_net.specs.declared.edge.Edge.{Edge}
use Rattle.flat_net.specs.declared.node.Node.{Node}
use Rattle.flat_net.specs.Values.{Reading, edge_value}
use Rattle.vlog_tree.specs.declared.design.Module.{Module}
use Rattle.vlog_tree.specs.declared.expr.Expr.{Expr}
use Rattle.vlog_tree.proofs.Equations.{value}
use Rattle.vlog_tree.specs.Meaning.Expressions.{Names, expr_bit, is_true}
use Rattle.vlog_tree.specs.Meaning.Expressions as meaning
use Rattle.vlog_tree.specs.Meaning.Value.{gate_value}
use Rattle.vlog_tree.specs.Meaning.Widths.{all_of, width}
use Rattle.lowering.specs.Expressions.{Wires, condition, expression, only, width_of}
use Rattle.lowering.specs.Meaning.{AssignedMeans, Carries, ChoiceMeans, ConditionMeans, ExpressionMeans, GateMeans, Holds, Relation, edge_at, has_selects, is_sound, takes}
use Rattle.lowering.specs.Gates.{gate}
use Rattle.lowering.proofs.EdgeLemmas.{as_left, carried_at, length_carries}
use Rattle.lowering.proofs.ExpressionLemmas.{means, truth_form}
use Rattle.lowering.proofs.GateLemmas.{chooses}
use Rattle.lowering.proofs.LoweredLemmas.{Values}
use Rattle.lowering.proofs.OperatorLemmas.{gives_gate, only_carries}
use Rattle.lowering.proofs.PlaceLemmas.{bits, length-bits}
use Rattle.lowering.proofs.RelationLemmas.{IsAny, IsKept, any_kept}
use Rattle.lowering.proofs.SelectLemmas.{and_both}

-- A sound expression has a width, and so it has a value.
has_width : (m : Module) (e : Expr) → is_sound m e ≡ true → is_some (width m e) ≡ true
has_width m e sound = (and_both (is_some (width m e)) (has_selects m e) sound).0

bit_is : (m : Module) (names : Names) (e : Expr) → is_sound m e ≡ true → (count place : ℕ) → expr_bit m names e count place ≡ value m names e count place
bit_is m names e sound count place = ap (λ there. cond there (value m names e count place) None) (has_width m e sound)

truth_is : (m : Module) (names : Names) (e : Expr) → is_sound m e ≡ true → is_true m names e ≡ meaning.truth m (e, value m names e)
truth_is m names e sound =
    let own : ℕ = unwrap_or (width m e) 0 in
    ap (λ there. option_map (list_any (λ bit. bit)) (all_of (map (λ place. cond there (value m names e own place) None) (range_with_len 0 own))))
    (has_width m e sound)

module _ (rel : Relation) (kept : IsKept rel) where
  pub expression_means : ExpressionMeans rel
  expression_means m names wires state row read e count next sound narrow none named holds place inside =
      let edges : List Edge = (expression m wires e count next).edges in
      let carried : Carries rel read (bits (value m names e count) count) edges =
      means rel read state row kept none m names wires named e sound count narrow next holds in
      as_left rel kept (expr_bit m names e count place) (value m names e count (0 + place)) (edge_at read edges place)
      (bit_is m names e sound count place ∙ ap (value m names e count) (let same : place ≡ 0 + place = omega arith in same))
      (carried_at rel kept read (value m names e count) 0 count edges carried place inside)

  pub condition_means : ConditionMeans rel
  condition_means m names wires state row read e next sound none named holds =
      let edges : List Edge = (condition m wires e next).edges in
      as_left rel kept (is_true m names e) (meaning.truth m (e, value m names e)) (edge_value read (only edges)) (truth_is m names e sound)
      (only_carries rel read state row (meaning.truth m (e, value m names e)) edges
      (truth_form rel read state row kept none m names wires named e sound (means rel read state row kept none m names wires named e) next holds))

  pub assigned_means : AssignedMeans rel
  assigned_means m names wires state row read count e next sound none named holds place inside =
      expression_means m names wires state row read e (max count (width_of m e)) next sound (omega arith) none named holds place inside

  pub gate_means : GateMeans rel
  gate_means state row read sort values inputs next fits none carried holds =
      only_carries rel read state row (option_and_then (gate_value sort) (all_of values)) (gate sort inputs next).edges
      (gives_gate rel read state row kept none sort values inputs
      (subst (λ count. takes sort count ≡ true) (sym (length_carries rel kept read values inputs carried)) fits) carried next holds)

  pub choice_means : ChoiceMeans rel
  choice_means state row read a b c choice first second next on_choice on_first on_second holds =
      chooses rel read state row kept a b c choice first second on_choice on_first on_second next holds

-- ---- counts, by a relation of any two values

no_reading : Reading
no_reading node = None

no_names : Names
no_names name place = None

any_holds : (next : ℕ) (nodes : List Node) → Holds IsAny no_reading [] [] next nodes
any_holds next [] = tt
any_holds next (node ∷ nodes) = (tt, any_holds (next + 1) nodes)

pub edge_count : (m : Module) (wires : Wires) (e : Expr) (count next : ℕ) → is_sound m e ≡ true → width_of m e ≤ count
    → length (expression m wires e count next).edges ≡ count
edge_count m wires e count next sound narrow =
    let edges : List Edge = (expression m wires e count next).edges in
    let values : Values = bits (value m no_names e count) count in
    sym (length_carries IsAny any_kept no_reading values edges
    (means IsAny no_reading [] [] any_kept tt m no_names wires (λ name bit inside. tt) e sound count narrow next
    (any_holds next (expression m wires e count next).nodes)))
    ∙ length-bits (value m no_names e count) count
