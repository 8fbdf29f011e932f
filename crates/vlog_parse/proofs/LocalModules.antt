-- What the rules of items, modules and designs make of the tokens up to one of them: a token that does not fit is told by
-- the tokens up to it.
use Rattle.std.proofs.Common.{◌≡◌, ◌+◌, ◌||◌, ℕ, suc, not, List, [], ◌∷◌, ◌++◌, length, length-append, codes, bytes_eq, Option, Some, None, Err, refl, sym, ap, ◌∙◌, arith}
use Rattle.vlog_tokens.specs.Toks.{Tok}
use Rattle.vlog_tree.specs.declared.expr.Expr.TheVariants as expr
use Rattle.vlog_tree.specs.declared.item.GateKind.{GateKind}
use Rattle.vlog_tree.specs.declared.item.Item.TheVariants.{Assign, Always, Initial}
use Rattle.vlog_tree.specs.Spelling.Gates as tables
use Rattle.vlog_parse.specs.Items.{always, assign, assigns, gates_by, gates_or_instances, initial, input_gates, instances, item, items_by, other_items, output_gates}
use Rattle.vlog_parse.specs.Looks.{any_token}
use Rattle.vlog_parse.specs.Modules.{design, module_rule, modules}
use Rattle.vlog_parse.specs.Reads.{is_end, loop, loop_from, next_terminal}
use Rattle.vlog_parse.proofs.LocalBoths.{Both, by_both, choose_both, expected_both, first_both, later_both, mark_both}
use Rattle.vlog_parse.proofs.LocalDeclarations.{any_header_local, port_items_both, reg_items_both, wire_items_both}
use Rattle.vlog_parse.proofs.LocalGates.{input_gate_local, instance_local, output_gate_local}
use Rattle.vlog_parse.proofs.LocalLoops.{gathered_until_local, many_local, separated_local, take_takes}
use Rattle.vlog_parse.proofs.LocalNumbers.{any_delay_local, name_local, name_takes, number_local}
use Rattle.vlog_parse.proofs.LocalStmts.{expr_at, left_at, stmt_both}
use Rattle.vlog_parse.proofs.Locals.{Local, expect_local, here_local, pure_local, take_local, then_local}

-- ---- items, in a list that is shorter than the depth

module _ (n m : ℕ) where
  assign_local : Local n m (assign (suc n)) (assign (suc m))
  unfolding assign
  assign_local =
      then_local here_local (λ at. then_local (left_at (suc n) (suc m) (omega arith) (omega arith)) (λ target. then_local (expect_local (codes "=")) (λ _. then_local (expr_at (suc n) (suc m) (omega arith) (omega arith)) (λ right.
      pure_local (Assign at target right)))))

  assigns_both : Both n m (assigns (suc n)) (assigns (suc m))
  unfolding assigns
  assigns_both = mark_both (codes "assign") (λ _. then_local any_delay_local (λ _. then_local (separated_local assign_local) (λ found. then_local (expect_local (codes ";")) (λ _. pure_local found))))

  input_gates_both : (kind : GateKind) → Both n m (input_gates (suc n) kind) (input_gates (suc m) kind)
  unfolding input_gates any_token
  input_gates_both kind =
      first_both (take_takes Some) (take_local Some) (λ _. then_local any_delay_local (λ _. then_local (separated_local (input_gate_local (suc n) (suc m) (omega arith) (omega arith) kind)) (λ found. then_local (expect_local (codes ";")) (λ _. pure_local found))))

  output_gates_both : (kind : GateKind) → Both n m (output_gates (suc n) kind) (output_gates (suc m) kind)
  unfolding output_gates any_token
  output_gates_both kind =
      first_both (take_takes Some) (take_local Some) (λ _. then_local any_delay_local (λ _. then_local (separated_local (output_gate_local (suc n) (suc m) (omega arith) (omega arith) kind)) (λ found. then_local (expect_local (codes ";")) (λ _. pure_local found))))

  instances_both : Both n m (instances (suc n)) (instances (suc m))
  unfolding instances
  instances_both =
      first_both name_takes name_local (λ definition. then_local (separated_local (instance_local (suc n) (suc m) (omega arith) (omega arith) definition)) (λ found. then_local (expect_local (codes ";")) (λ _. pure_local found)))

  always_both : Both n m (always (suc n)) (always (suc m))
  unfolding always
  always_both =
      later_both here_local (λ at. mark_both (codes "always") (λ _. then_local (expect_local (codes "@")) (λ _. then_local (expect_local (codes "(")) (λ _. then_local (expect_local (codes "posedge")) (λ _. then_local name_local (λ clock.
      then_local (expect_local (codes ")")) (λ _. then_local (stmt_both n m).local (λ body. pure_local (Always at clock body ∷ [])))))))))

  initial_both : Both n m initial initial
  unfolding initial
  initial_both =
      later_both here_local (λ at. mark_both (codes "initial") (λ _. then_local name_local (λ text. then_local (expect_local (codes "=")) (λ _. then_local here_local (λ place. then_local number_local (λ bits. then_local (expect_local (codes ";")) (λ _.
      pure_local (Initial at text (expr.Number place bits) ∷ []))))))))

  gates_both : (input output : Option GateKind) → Both n m (gates_by (suc n) input output) (gates_by (suc m) input output)
  gates_both (Some kind) output = input_gates_both kind
  gates_both None (Some kind) = output_gates_both kind
  gates_both None None = instances_both

  other_items_both : (text : List ℕ) → Both n m (other_items (suc n) text) (other_items (suc m) text)
  unfolding other_items gates_or_instances
  other_items_both text =
      choose_both (bytes_eq text (codes "assign")) assigns_both (choose_both (bytes_eq text (codes "always")) always_both (choose_both (bytes_eq text (codes "initial")) initial_both
      (gates_both (tables.input_gate text) (tables.output_gate text))))

  items_by_both : (text : List ℕ) → Both n m (items_by (suc n) text) (items_by (suc m) text)
  unfolding items_by
  items_by_both text =
      choose_both (bytes_eq text (codes "input") || bytes_eq text (codes "output")) port_items_both (choose_both (bytes_eq text (codes "wire")) (wire_items_both (suc n) (suc m) (omega arith) (omega arith))
      (choose_both (bytes_eq text (codes "reg")) reg_items_both (other_items_both text)))

  item_both : Both n m (item (suc n)) (item (suc m))
  unfolding item
  item_both = by_both next_terminal (λ tok rest more. refl) (items_by (suc n)) (items_by (suc m)) items_by_both

  -- ---- modules, in a list that is no longer than the depth

  module_both : Both (suc n) (suc m) (module_rule (suc n)) (module_rule (suc m))
  unfolding module_rule
  module_both =
      later_both here_local (λ at. expected_both (codes "module") (λ _. then_local name_local (λ name. then_local any_header_local (λ ports. then_local (expect_local (codes ";")) (λ _.
      then_local (gathered_until_local (λ group. group) item_both.local (codes "endmodule") item_both.takes ports.items) (λ items. then_local (expect_local (codes "endmodule")) (λ _.
      pure_local (record { at = at; name = name; ports = ports.names; items = items }))))))))

  design_local : Local (suc n) (suc m) (design (suc n)) (design (suc m))
  unfolding design modules
  design_local = then_local (many_local module_both.local module_both.takes (λ ts. not (is_end ts)) (λ tok rest more. refl) []) (λ found. pure_local (record { modules = found }))

-- ---- what the design's rule makes of a list of tokens, to the depth of its length

as_deep : (front : List Tok) (tok : Tok) (rest : List Tok) → length (front ++ tok ∷ rest) ≡ suc (length front + length rest)
as_deep front tok rest = rw length-append (omega arith)

-- A token that does not fit does not in any list that begins with the tokens up to it.
pub stuck_at : (front : List Tok) (tok : Tok) (rest more : List Tok) → design (length (front ++ tok ∷ rest)) (front ++ tok ∷ rest) ≡ Err (tok ∷ rest) → design (length (front ++ tok ∷ more)) (front ++ tok ∷ more) ≡ Err (tok ∷ more)
stuck_at front tok rest more e =
    let n = length front + length rest in
    let m = length front + length more in
    let old : design (suc (length front + length rest)) (front ++ tok ∷ rest) ≡ Err (tok ∷ rest) = ap (λ (k : ℕ). design k (front ++ tok ∷ rest)) (sym (as_deep front tok rest)) ∙ e in
    let moved : design (suc (length front + length more)) (front ++ tok ∷ more) ≡ Err (tok ∷ more) = (design_local (length front + length rest) (length front + length more)).moves front tok rest more None (omega arith) (omega arith) old in
    ap (λ (k : ℕ). design k (front ++ tok ∷ more)) (as_deep front tok more) ∙ moved

-- What is left where a design does not fit is the end of the tokens.
pub design_keeps : (ts left : List Tok) (n : ℕ) → n ≡ length ts → design n ts ≡ Err left → (front : List Tok) × (ts ≡ front ++ left)
unfolding design modules loop loop_from
design_keeps [] left n many e = (let none : design 0 [] ≡ Err left = ap (λ (k : ℕ). design k []) (sym many) ∙ e in cc)
design_keeps (first ∷ ts) left n many e = (design_local (length ts) (length ts)).keeps (first ∷ ts) None left (ap (λ (k : ℕ). design k (first ∷ ts)) (sym many) ∙ e)
