-- The rule on what is assigned: E9.
use Rattle.std.specs.Prelude.{List, [], ◌∷◌, ◌++◌, ◌||◌, Option, None, Some, cond, flat_map, is_none}
use Rattle.std.specs.Option.{option_to_list}
use Rattle.hierarchy.specs.Failures.{Failure, failure}
use Rattle.vlog_tree.specs.declared.design.Design.{Design}
use Rattle.vlog_tree.specs.declared.design.Module.{Module}
use Rattle.vlog_tree.specs.declared.item.Item.{Item}
use Rattle.vlog_tree.specs.declared.item.Item.TheVariants as item
use Rattle.vlog_tree.specs.declared.stmt.Stmt.{Stmt}
use Rattle.vlog_tree.specs.declared.stmt.Stmt.TheFolds.{fold-Stmt}
use Rattle.vlog_tree.specs.declared.stmt.Stmt.TheOpen.{Stmt-F}
use Rattle.vlog_tree.specs.Meaning.Drivers.{outputs_of}
use Rattle.vlog_tree.specs.Meaning.Instances.{Connection, child_of}
use Rattle.vlog_tree.specs.Meaning.Lefts.{target_bits}
use Rattle.vlog_tree.specs.Meaning.Names.{is_input, is_register}
use Rattle.vlog_tree.specs.Meaning.Uses.{Use, expr_uses, left_uses}
use Rattle.width_rules.specs.Widths.{expr_shape, whole_failure}

-- a name that no continuous assignment may hold: an input or a `reg`
abbrev pub held_use : Module → Use → List Failure
held_use m one = cond (is_input m one.name || is_register m one.name) (failure one.at m.name one.name ∷ []) []

-- a name that is not `reg`, where only such a one is assigned
abbrev pub plain_use : Module → Use → List Failure
plain_use m one = cond (is_register m one.name) [] (failure one.at m.name one.name ∷ [])

-- a connection to an output port that is no name, select or concatenation of these, or that holds such a name
abbrev pub bad_output : Module → Connection → List Failure
bad_output m connection =
    cond (is_none (target_bits m connection.expression)) (whole_failure m (expr_shape m connection.expression) ∷ []) []
    ++ flat_map (held_use m) (expr_uses connection.expression)

abbrev pub assigned_other : Option (List Use) → List Use
assigned_other (Some uses) = uses
assigned_other None = []

abbrev pub assigned_at : Stmt-F (List Use) → List Use
assigned_at Stmt-F.Empty = []
assigned_at (Stmt-F.Block body) = flat_map (λ uses. uses) body
assigned_at (Stmt-F.If condition first other) = first ++ assigned_other other
assigned_at (Stmt-F.Set at left right) = left_uses left

-- the names that a statement assigns
abbrev pub assigned : Stmt → List Use
assigned = fold-Stmt (List Use) assigned_at

abbrev pub bad_targets_in : Design → Module → Item → List Failure
bad_targets_in design m (item.Assign at left right) = flat_map (held_use m) (left_uses left)
bad_targets_in design m (item.Gate at kind name outs ins) = flat_map (λ out. flat_map (held_use m) (left_uses out)) outs
bad_targets_in design m (item.Always at clock body) = flat_map (plain_use m) (assigned body)
bad_targets_in design m (item.Initial at name value) = cond (is_register m name) [] (failure at m.name name ∷ [])
bad_targets_in design m other =
    flat_map (λ child. flat_map (bad_output m) (outputs_of child)) (option_to_list (child_of design other))

abbrev pub bad_targets : Design → Module → List Failure
bad_targets design m = flat_map (bad_targets_in design m) m.items
