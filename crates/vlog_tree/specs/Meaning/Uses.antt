-- Where names stand in a module, in source order.
use Rattle.std.specs.Prelude.{ℕ, List, [], ◌∷◌, ◌++◌, Bool, true, false, Option, Some, None, filter, flat_map}
use Rattle.vlog_tree.specs.declared.expr.Expr.{Expr}
use Rattle.vlog_tree.specs.declared.expr.Expr.TheFolds.{fold-Expr}
use Rattle.vlog_tree.specs.declared.expr.Expr.TheOpen.{Expr-F}
use Rattle.vlog_tree.specs.declared.item.Item.{Item}
use Rattle.vlog_tree.specs.declared.item.Item.TheVariants.{Always, Assign, Decl, Gate, Initial, Instance}
use Rattle.vlog_tree.specs.declared.item.Link.{Link}
use Rattle.vlog_tree.specs.declared.left.Left.{Left}
use Rattle.vlog_tree.specs.declared.left.Left.TheFolds.{fold-Left}
use Rattle.vlog_tree.specs.declared.left.Left.TheOpen.{Left-F}
use Rattle.vlog_tree.specs.declared.left.Left.TheVariants as left
use Rattle.vlog_tree.specs.declared.stmt.Stmt.{Stmt}
use Rattle.vlog_tree.specs.declared.stmt.Stmt.TheFolds.{fold-Stmt}
use Rattle.vlog_tree.specs.declared.stmt.Stmt.TheOpen.{Stmt-F}

abbrev pub Text : Type 0
Text = List ℕ

-- a name that stands at a place of the source, and whether it stands there whole, without a select
pub record Use : Type 0 where
  pub at : ℕ
  pub name : Text
  pub is_whole : Bool

abbrev pub use_of : ℕ → Text → Bool → Use
use_of at name is_whole = record { at = at; name = name; is_whole = is_whole }

-- one list after another
abbrev pub joined : List (List Use) → List Use
joined lists = flat_map (λ list. list) lists

abbrev pub expr_uses_at : Expr-F (List Use) → List Use
expr_uses_at (Expr-F.Number at bits) = []
expr_uses_at (Expr-F.Whole at name) = use_of at name true ∷ []
expr_uses_at (Expr-F.Bit at name index) = use_of at name false ∷ []
expr_uses_at (Expr-F.Part at name range) = use_of at name false ∷ []
expr_uses_at (Expr-F.Unary op arg) = arg
expr_uses_at (Expr-F.Binary op left right) = left ++ right
expr_uses_at (Expr-F.Cond condition first other) = condition ++ first ++ other
expr_uses_at (Expr-F.Join parts) = joined parts
expr_uses_at (Expr-F.Repeat count parts) = joined parts

abbrev pub expr_uses : Expr → List Use
expr_uses = fold-Expr (List Use) expr_uses_at

abbrev pub left_uses_at : Left-F (List Use) → List Use
left_uses_at (Left-F.Whole at name) = use_of at name true ∷ []
left_uses_at (Left-F.Bit at name index) = use_of at name false ∷ []
left_uses_at (Left-F.Part at name range) = use_of at name false ∷ []
left_uses_at (Left-F.Join parts) = joined parts

abbrev pub left_uses : Left → List Use
left_uses = fold-Left (List Use) left_uses_at

abbrev pub other_uses : Option (List Use) → List Use
other_uses (Some uses) = uses
other_uses None = []

abbrev pub stmt_uses_at : Stmt-F (List Use) → List Use
stmt_uses_at Stmt-F.Empty = []
stmt_uses_at (Stmt-F.Block body) = joined body
stmt_uses_at (Stmt-F.If condition first other) = expr_uses condition ++ first ++ other_uses other
stmt_uses_at (Stmt-F.Set at left right) = left_uses left ++ expr_uses right

abbrev pub stmt_uses : Stmt → List Use
stmt_uses = fold-Stmt (List Use) stmt_uses_at

abbrev pub connected_uses : Option Expr → List Use
connected_uses (Some e) = expr_uses e
connected_uses None = []

abbrev pub link_uses : Link → List Use
link_uses link = connected_uses link.expr

-- The names that an item uses. That after `posedge` or `initial` stands where the item does.
abbrev pub item_uses : Item → List Use
item_uses (Decl at dir kind range name) = []
item_uses (Assign at left right) = left_uses left ++ expr_uses right
item_uses (Gate at kind name outs ins) = flat_map left_uses outs ++ flat_map expr_uses ins
item_uses (Instance at inner name links) = flat_map link_uses links
item_uses (Always at clock body) = use_of at clock true ∷ stmt_uses body
item_uses (Initial at name value) = use_of at name true ∷ expr_uses value

-- The uses by which an undeclared name is a wire of one bit (clause 4.5): a whole name inside a gate terminal or a port
-- connection, or as the whole left side of a continuous assignment.
abbrev pub implicit_uses : Item → List Use
implicit_uses (Assign at (left.Whole at' name) right) = use_of at' name true ∷ []
implicit_uses (Gate at kind name outs ins) =
    filter (λ one. one.is_whole) (flat_map left_uses outs ++ flat_map expr_uses ins)
implicit_uses (Instance at inner name links) = filter (λ one. one.is_whole) (flat_map link_uses links)
implicit_uses other = []
