-- What netlists are, of bytes.
use Rattle.std.specs.Prelude.{◌≡◌, ℕ, List, None}
use Rattle.elab.specs.Refusals.{KeepsRules}
use Rattle.elab.specs.Settings.{setting_of}
use Rattle.elab.specs.declared.names.Names.{Names}
use Rattle.flat_design.specs.Sizes.{too_large}
use Rattle.label_laws.specs.Spelled.{SpellsInProfile}
use Rattle.vlog_tree.specs.declared.design.Design.{Design}
use Rattle.vlog_tree.specs.Meaning.Value.{IsLoopFree}

-- The bytes spell the design, and with these names it keeps the rules.
pub record IsKept (names : Names) (bytes : List ℕ) (design : Design) : Type 0 where
  pub text : SpellsInProfile bytes design
  pub rules : KeepsRules (setting_of design names)

-- No size of its flat netlist passes its limit.
pub record IsSized (names : Names) (bytes : List ℕ) (design : Design) : Type 0 where
  pub kept : IsKept names bytes design
  pub sizes : too_large (setting_of design names) ≡ None

-- The bytes are a netlist, and this is its design: they spell it, it keeps the rules, its sizes are within the limits, and
-- each of its bits has a value in every state under every row.
pub record IsNetlist (names : Names) (bytes : List ℕ) (design : Design) : Type 0 where
  pub sized : IsSized names bytes design
  pub loop_free : IsLoopFree (setting_of design names)
