-- Bytes that spell a design in the profile.
use Rattle.std.specs.Prelude.{ℕ, List}
use Rattle.vlog_parse.specs.Refusals.{IsInProfile}
use Rattle.vlog_tree.specs.declared.design.Design.{Design}
use Rattle.vlog_tree.specs.Spelling.{Spells}

-- The bytes spell the design, and their tokens have no word outside the profile, no number outside the rules and none
-- too deep.
pub record SpellsInProfile (bytes : List ℕ) (design : Design) : Type 0 where
  pub spelled : Spells bytes design
  pub profile : IsInProfile spelled.tokens
