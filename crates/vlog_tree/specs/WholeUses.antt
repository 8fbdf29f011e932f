-- Names that stand whole, without a select.
use Rattle.std.specs.Prelude.{List, Bool, Option, Some, None, cond, filter}
use Rattle.bm_base.specs.declared.range.Range.{Range}
use Rattle.std.specs.List.{list_any}
use Rattle.vlog_tree.specs.Meaning.Names.{is_named}
use Rattle.vlog_tree.specs.Meaning.Ranges.{scalar}
use Rattle.vlog_tree.specs.Meaning.Uses.{Text, Use, expr_uses, implicit_uses, left_uses, link_uses}
use Rattle.vlog_tree.specs.declared.expr.Expr.{Expr}
use Rattle.vlog_tree.specs.declared.item.Item.{Item}
use Rattle.vlog_tree.specs.declared.item.Link.{Link}
use Rattle.vlog_tree.specs.declared.left.Left.{Left}

-- The name stands whole among these uses.
abbrev pub stands_whole : Text → List Use → Bool
stands_whole name uses = list_any (is_named name) (filter (λ one. one.is_whole) uses)

abbrev pub expr_has : Text → Expr → Bool
expr_has name e = stands_whole name (expr_uses e)

abbrev pub left_has : Text → Left → Bool
left_has name left = stands_whole name (left_uses left)

abbrev pub link_has : Text → Link → Bool
link_has name link = stands_whole name (link_uses link)

-- Some use of the name in the item stands for a declaration.
abbrev pub implies : Text → Item → Bool
implies name item = list_any (is_named name) (implicit_uses item)

-- The range of a name that is not declared in these items.
abbrev pub implicit_range : Text → List Item → Option Range
implicit_range name items = cond (list_any (implies name) items) (Some scalar) None
