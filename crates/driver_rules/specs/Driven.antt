-- What is driven twice, where sets keep the bits that are driven so far.
use Rattle.std.specs.Prelude.{ℕ, ◌≡◌, List, [], ◌∷◌, ◌++◌, Bool, ◌||◌, Option, cond, flat_map, map}
use Rattle.std.specs.List.{list_any}
use Rattle.hierarchy.specs.Failures.{Failure, failure}
use Rattle.vlog_tree.specs.declared.design.Design.{Design}
use Rattle.vlog_tree.specs.declared.design.Module.{Module}
use Rattle.vlog_tree.specs.declared.item.Item.{Item}
use Rattle.driver_rules.specs.declared.run.Run.{Run}
use Rattle.driver_rules.specs.declared.select.Select.{Select}
use Rattle.driver_rules.specs.Doubles.{Assigned, overlap}
use Rattle.driver_rules.specs.Groups.{groups_of, joined}
use Rattle.driver_rules.specs.Runs.{Keeps}
use Rattle.driver_rules.specs.Selects.{AreNumbered, shown}

abbrev pub runs_of : List Select → List Run
runs_of selects = map (λ select. select.bits) selects

-- what is kept are the bits of what is assigned in the module
pub record Has (m : Module) (kept : ℕ → ℕ → Option ℕ) (before : List Assigned) : Type 0 where
  pub selects : List Select
  pub numbered : AreNumbered m selects
  pub is : shown selects ≡ before
  pub keeps : Keeps kept (runs_of selects)

-- whether a select has a bit of one of these
abbrev pub overlaps_any : List Assigned → Assigned → Bool
overlaps_any before this = list_any (λ other. overlap this.bits other.bits) before

-- a select that has a bit of one before its item, or of one before it in its group
abbrev pub double_in : Module → List Assigned → List Assigned → Assigned → List Failure
double_in m before here this =
    cond (overlaps_any before this || overlaps_any here this) (failure this.at m.name this.bits.name ∷ []) []

abbrev pub doubles_in_group : Module → List Assigned → List Assigned → List Assigned → List Failure
doubles_in_group m before here [] = []
doubles_in_group m before here (this ∷ rest) =
    double_in m before here this ++ doubles_in_group m before (here ++ this ∷ []) rest

abbrev pub doubles_in_groups : Module → List Assigned → List (List Assigned) → List Failure
doubles_in_groups m before groups = flat_map (doubles_in_group m before []) groups

-- all that an item assigns
abbrev pub assigned_by : Design → Module → Item → List Assigned
assigned_by design m i = joined (groups_of design m i)

abbrev pub doubles_by_item : Design → Module → List Assigned → List Item → List Failure
doubles_by_item design m before [] = []
doubles_by_item design m before (i ∷ items) =
    doubles_in_groups m before (groups_of design m i) ++ doubles_by_item design m (before ++ assigned_by design m i) items
