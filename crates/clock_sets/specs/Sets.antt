-- The names of a design that are used as clocks, and those that carry the clock of its top.
use Rattle.std.specs.Prelude.{Bool, List, [], ◌∷◌, flat_map}
use Rattle.std.specs.List.{list_any}
use Rattle.hierarchy.specs.Indexed.{Topped}
use Rattle.hierarchy.specs.Reach.{reached}
use Rattle.vlog_tree.specs.declared.design.Design.{Design}
use Rattle.vlog_tree.specs.declared.design.Module.{Module}
use Rattle.vlog_tree.specs.declared.item.Item.{Item}
use Rattle.vlog_tree.specs.declared.item.Item.TheVariants as item
use Rattle.vlog_tree.specs.Meaning.Uses.{Text}
use Rattle.clock_sets.specs.Passing.{Signal, passes_on, signal}

-- ---- clock uses

abbrev pub edge_in : Module → Item → List Signal
edge_in m (item.Always at clock body) = signal m.name clock ∷ []
edge_in m other = []

-- the names after `posedge` in the modules that are reached
abbrev pub edges : Design → Text → List Signal
edges design top = flat_map (λ m. flat_map (edge_in m) m.items) (reached design top)

-- The clock uses are the least set that holds these names, the right name of a plain assign whose left name it holds, and
-- the name that is plainly connected to an input port that it holds: that is, all from which a clock passes on to one of
-- these names.
abbrev pub is_clock_use : Design → Text → Signal → Bool
is_clock_use design top one = list_any (passes_on design top one) (edges design top)

-- ---- clocked names

-- a design, with the names of its top module and of that module's clock
pub record Clocked : Type 0 where
  pub design : Design
  pub top : Text
  pub clock : Text

abbrev pub clocked_by : Topped → Text → Clocked
clocked_by topped clock = record { design = topped.design; top = topped.top; clock = clock }

-- The clocked names are the least set that holds the top's clock, the left name of a plain assign whose right name it
-- holds, and an input port to which a name that it holds is plainly connected: that is, all to which the top's clock
-- passes on.
abbrev pub is_clocked : Clocked → Signal → Bool
is_clocked clocked one = passes_on clocked.design clocked.top (signal clocked.top clocked.clock) one
