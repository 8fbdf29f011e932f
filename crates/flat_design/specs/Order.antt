-- Nodes that read only nodes before them.
use Rattle.std.specs.Prelude.{⊤, ℕ, ◌+◌, ◌<◌, List, [], ◌∷◌}
use Rattle.flat_net.specs.declared.node.Node.{Node}
use Rattle.flat_net.specs.declared.node.Node.TheVariants.{And, Xor}
use Rattle.vlog_tree.specs.Meaning.Setting.{Setting}
use Rattle.numbering.specs.Numbering.{first_of_expressions}
use Rattle.flat_design.specs.Flat.{whole_of}

-- a node of an expression, which reads nodes with lower numbers than this
abbrev pub ReadsBelow : ℕ → Node → Type 0
ReadsBelow number (And left right) = (left.node < number) × (right.node < number)
ReadsBelow number (Xor left right) = (left.node < number) × (right.node < number)
ReadsBelow number other = ⊥

-- From this number on, each node reads nodes before it.
abbrev pub AreOrdered : ℕ → List Node → Type 0
AreOrdered next [] = ⊤
AreOrdered next (node ∷ nodes) = ReadsBelow next node × AreOrdered (next + 1) nodes

-- The nodes of expressions read nodes before them: what reads itself does so through the node of a bit.
abbrev pub ExpressionsAreOrdered : Type 0
ExpressionsAreOrdered = (setting : Setting) → AreOrdered (first_of_expressions setting) (whole_of setting).nodes
