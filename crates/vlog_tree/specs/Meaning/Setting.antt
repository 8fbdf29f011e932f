-- A design with what a command says of it.
use Rattle.std.specs.Prelude.{ℕ, Bool, Option}
use Rattle.vlog_tree.specs.declared.design.Design.{Design}
use Rattle.vlog_tree.specs.Meaning.Uses.{Text}

-- the design; the names of its top module, and of that module's clock and checker; the reset input with its active value,
-- if there is one; and the count of reset cycles
pub record Setting : Type 0 where
  pub design : Design
  pub top : Text
  pub clock : Text
  pub check : Text
  pub reset : Option (Text × Bool)
  pub reset_cycles : ℕ
