-- What the grammar gives of a design, beside what the types of its tree say.
use Rattle.std.specs.Prelude.{◌≡◌, ℕ, List, Bool, true, false, length}
use Rattle.std.specs.List.{list_all}
use Rattle.lowering.specs.Meaning.{takes}
use Rattle.vlog_tree.specs.declared.design.Design.{Design}
use Rattle.vlog_tree.specs.declared.design.Module.{Module}
use Rattle.vlog_tree.specs.declared.expr.Expr.{Expr}
use Rattle.vlog_tree.specs.declared.expr.Expr.TheVariants.{Number}
use Rattle.vlog_tree.specs.declared.item.Item.{Item}
use Rattle.vlog_tree.specs.declared.item.Item.TheVariants as item
use Rattle.vlog_tree.specs.Spelling.{Spells}

abbrev pub is_number : Expr → Bool
is_number (Number at bits) = true
is_number other = false

-- `buf` and `not` have one input, and an initial value is a number.
abbrev pub is_by_grammar : Item → Bool
is_by_grammar (item.Gate at kind name outs ins) = takes kind (length ins)
is_by_grammar (item.Initial at name value) = is_number value
is_by_grammar other = true

abbrev pub module_is_by_grammar : Module → Bool
module_is_by_grammar m = list_all is_by_grammar m.items

abbrev pub design_is_by_grammar : Design → Bool
design_is_by_grammar design = list_all module_is_by_grammar design.modules

-- A design that some bytes spell is one by the grammar.
abbrev pub GrammarGives : Type 0
GrammarGives = (bytes : List ℕ) (design : Design) → Spells bytes design → design_is_by_grammar design ≡ true
