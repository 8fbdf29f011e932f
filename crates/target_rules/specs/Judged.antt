-- The names that may not be assigned as they are, by how they are assigned.
use Rattle.std.specs.Prelude.{ℕ, List, [], ◌∷◌, ◌++◌, true, cond, filter, flat_map, is_none}
use Rattle.std.specs.Option.{option_to_list}
use Rattle.hierarchy.specs.Failures.{Failure}
use Rattle.vlog_tree.specs.declared.design.Module.{Module}
use Rattle.vlog_tree.specs.declared.expr.Expr.{Expr}
use Rattle.vlog_tree.specs.declared.item.Link.{Link}
use Rattle.vlog_tree.specs.declared.left.Left.{Left}
use Rattle.vlog_tree.specs.declared.stmt.Stmt.{Stmt}
use Rattle.vlog_tree.specs.Meaning.Instances.{connection_of}
use Rattle.vlog_tree.specs.Meaning.Lefts.{target_bits}
use Rattle.vlog_tree.specs.Meaning.Names.{is_output}
use Rattle.vlog_tree.specs.Meaning.Uses.{Text, Use, expr_uses, left_uses, use_of}
use Rattle.width_rules.specs.Widths.{expr_shape, whole_failure}
use Rattle.target_rules.specs.Targets.{assigned, bad_output, held_use, plain_use}
use Rattle.target_rules.specs.declared.assignment.Assignment.{Assignment}
use Rattle.target_rules.specs.declared.assignment.Assignment.TheVariants.{Continuous, Procedural}

-- a name at a place
abbrev pub bad_name : Assignment → Module → ℕ → Text → List Failure
bad_name Continuous m at name = held_use m (use_of at name true)
bad_name Procedural m at name = plain_use m (use_of at name true)

-- whether it stands whole makes no difference
abbrev pub bad_use : Assignment → Module → Use → List Failure
bad_use way m one = bad_name way m one.at one.name

abbrev pub bad_left : Assignment → Module → Left → List Failure
bad_left way m left = flat_map (bad_use way m) (left_uses left)

abbrev pub bad_expr : Assignment → Module → Expr → List Failure
bad_expr way m e = flat_map (bad_use way m) (expr_uses e)

-- what a statement assigns
abbrev pub bad_stmt : Module → Stmt → List Failure
bad_stmt m stmt = flat_map (plain_use m) (assigned stmt)

-- ---- connections

-- an expression that is connected to an output port and that is no name, select or concatenation of these
abbrev pub bad_whole : Module → Expr → List Failure
bad_whole m e = cond (is_none (target_bits m e)) (whole_failure m (expr_shape m e) ∷ []) []

abbrev pub bad_target : Module → Expr → List Failure
bad_target m e = bad_whole m e ++ bad_expr Continuous m e

-- an expression that is connected to this port of the module `inner`
abbrev pub bad_port : Module → Module → Text → Expr → List Failure
bad_port m inner port e = cond (is_output inner port) (bad_target m e) []

-- the same of a connection with its place in the list
abbrev pub bad_link : Module → Module → ℕ × Link → List Failure
bad_link m inner link =
    flat_map (bad_output m)
    (filter (λ connection. is_output inner connection.port) (option_to_list (connection_of inner link)))
