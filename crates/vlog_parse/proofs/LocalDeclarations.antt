-- What the rules of declarations and headers make of the tokens up to one of them.
use Rattle.std.proofs.Common.{◌≤◌, ℕ, List, [], ◌∷◌, ◌++◌, codes, Some, None, refl}
use Rattle.vlog_tree.specs.declared.expr.Expr.TheVariants as expr
use Rattle.vlog_tree.specs.declared.item.Dir.TheVariants.{Input, Output}
use Rattle.vlog_tree.specs.declared.item.NetKind.{NetKind}
use Rattle.vlog_tree.specs.declared.item.NetKind.TheVariants.{Plain, Wire, Reg}
use Rattle.vlog_tree.specs.Spelling.Declarations as spelling
use Rattle.vlog_parse.specs.Declarations.{any_range, assigned_expr, assigned_number, at_word, direction, is_direction, net_kind, port_items, port_shape, reg_items, register, register_value, registers, wire, wire_items, wire_value, wires}
use Rattle.vlog_parse.specs.Modules.{add_port, add_port_after_comma, any_header, declared_ports, in_parentheses, inner_header, named_ports, next_shape, no_ports, port_list}
use Rattle.vlog_parse.specs.Reads.{Parser, sees}
use Rattle.vlog_parse.specs.declared.port.Ports.{Ports}
use Rattle.vlog_parse.proofs.LocalBoths.{Both, later_both, mark_both}
use Rattle.vlog_parse.proofs.LocalLoops.{gathered_local, loop_local, separated_local}
use Rattle.vlog_parse.proofs.LocalNumbers.{any_delay_local, name_local, number_local, range_local}
use Rattle.vlog_parse.proofs.LocalStmts.{expr_at}
use Rattle.vlog_parse.proofs.Locals.{Local, expect_local, here_local, if_local, pure_local, refuse_local, then_local}

pub at_word_local : {A : Type 0} {n m : ℕ} {one one2 other other2 : Parser A} (text : List ℕ) → Local n m one one2 → Local n m other other2 → Local n m (at_word text one other) (at_word text one2 other2)
at_word_local text local local2 = if_local (sees text) (λ tok rest more. refl) local local2

-- ---- what is said of all names

module _ {n m : ℕ} where
  direction_local : Local n m direction direction
  unfolding direction
  direction_local = at_word_local (codes "input") (then_local (expect_local (codes "input")) (λ _. pure_local Input)) (at_word_local (codes "output") (then_local (expect_local (codes "output")) (λ _. pure_local Output)) refuse_local)

  net_kind_local : Local n m net_kind net_kind
  unfolding net_kind
  net_kind_local = at_word_local (codes "wire") (then_local (expect_local (codes "wire")) (λ _. pure_local Wire)) (at_word_local (codes "reg") (then_local (expect_local (codes "reg")) (λ _. pure_local Reg)) (pure_local Plain))

  any_range_local : Local n m any_range any_range
  unfolding any_range
  any_range_local = at_word_local (codes "[") (then_local range_local (λ range. pure_local (Some range))) (pure_local None)

  port_shape_local : Local n m port_shape port_shape
  unfolding port_shape
  port_shape_local = then_local direction_local (λ dir. then_local net_kind_local (λ kind. then_local any_range_local (λ range. pure_local (record { dir = Some dir; kind = kind; range = range }))))

  -- ---- the names

  assigned_number_local : Local n m assigned_number assigned_number
  unfolding assigned_number
  assigned_number_local = then_local (expect_local (codes "=")) (λ _. then_local here_local (λ at. then_local number_local (λ bits. pure_local (Some (expr.Number at bits)))))

  register_value_local : (kind : NetKind) → Local n m (register_value kind) (register_value kind)
  register_value_local Reg = at_word_local (codes "=") assigned_number_local (pure_local None)
  register_value_local Plain = pure_local None
  register_value_local Wire = pure_local None

  register_local : (kind : NetKind) → Local n m (register kind) (register kind)
  unfolding register
  register_local kind = then_local here_local (λ at. then_local name_local (λ name. then_local (register_value_local kind) (λ value. pure_local (record { at = at; name = name; value = value }))))

  registers_both : (shape : spelling.Shape) → Both n m (registers shape) (registers shape)
  unfolding registers
  registers_both shape = later_both (gathered_local (spelling.register_items shape) (register_local shape.kind)) (λ items. mark_both (codes ";") (λ _. pure_local items))

  pub port_items_both : Both n m port_items port_items
  unfolding port_items
  port_items_both = later_both port_shape_local registers_both

  pub reg_items_both : Both n m reg_items reg_items
  unfolding reg_items
  reg_items_both = mark_both (codes "reg") (λ _. then_local any_range_local (λ range. (registers_both (record { dir = None; kind = Reg; range = range })).local))

module _ {n m : ℕ} (depth depth2 : ℕ) (low : n ≤ depth) (low2 : m ≤ depth2) where
  wire_value_local : Local n m (wire_value depth) (wire_value depth2)
  unfolding assigned_expr
  wire_value_local = at_word_local (codes "=") (then_local (expect_local (codes "=")) (λ _. then_local (expr_at depth depth2 low low2) (λ right. pure_local (Some right)))) (pure_local None)

  wire_local : Local n m (wire depth) (wire depth2)
  unfolding wire
  wire_local = then_local here_local (λ at. then_local name_local (λ name. then_local wire_value_local (λ value. pure_local (record { at = at; name = name; value = value }))))

  wires_local : (shape : spelling.Shape) → Local n m (wires depth shape) (wires depth2 shape)
  unfolding wires
  wires_local shape = then_local (gathered_local (spelling.wire_items shape) wire_local) (λ items. then_local (expect_local (codes ";")) (λ _. pure_local items))

  pub wire_items_both : Both n m (wire_items depth) (wire_items depth2)
  unfolding wire_items
  wire_items_both = mark_both (codes "wire") (λ _. then_local any_range_local (λ range. then_local any_delay_local (λ _. wires_local (record { dir = None; kind = Wire; range = range }))))

-- ---- headers

module _ {n m : ℕ} where
  add_port_local : (ports : Ports) → Local n m (add_port ports) (add_port ports)
  unfolding add_port
  add_port_local ports =
      then_local (register_local ports.shape.kind) (λ declared. pure_local (record { shape = ports.shape; names = ports.names ++ declared.name ∷ []; items = ports.items ++ spelling.register_items ports.shape declared }))

  next_shape_local : (shape : spelling.Shape) → Local n m (next_shape shape) (next_shape shape)
  next_shape_local shape = if_local is_direction (λ tok rest more. refl) port_shape_local (pure_local shape)

  add_comma_both : (ports : Ports) → Both n m (add_port_after_comma ports) (add_port_after_comma ports)
  unfolding add_port_after_comma
  add_comma_both ports = mark_both (codes ",") (λ _. then_local (next_shape_local ports.shape) (λ shape. add_port_local (record { shape = shape; names = ports.names; items = ports.items })))

  port_list_local : Local n m port_list port_list
  unfolding port_list
  port_list_local =
      then_local port_shape_local (λ shape. then_local (add_port_local (record { shape = shape; names = []; items = [] })) (λ first.
      loop_local (sees (codes ",")) (λ tok rest more. refl) (λ ports. (add_comma_both ports).local) (λ ports. (let both : Both n m (add_port_after_comma ports) (add_port_after_comma ports) = add_comma_both ports in both.takes)) first))

  declared_ports_local : Local n m declared_ports declared_ports
  unfolding declared_ports
  declared_ports_local = then_local port_list_local (λ ports. pure_local (record { names = ports.names; items = ports.items }))

  named_ports_local : Local n m named_ports named_ports
  unfolding named_ports
  named_ports_local = then_local (separated_local name_local) (λ names. pure_local (record { names = names; items = [] }))

  inner_header_local : Local n m inner_header inner_header
  inner_header_local = at_word_local (codes ")") (pure_local no_ports) (if_local is_direction (λ tok rest more. refl) declared_ports_local named_ports_local)

  pub any_header_local : Local n m any_header any_header
  unfolding any_header in_parentheses
  any_header_local = at_word_local (codes "(") (then_local (expect_local (codes "(")) (λ _. then_local inner_header_local (λ header. then_local (expect_local (codes ")")) (λ _. pure_local header)))) (pure_local no_ports)
