-- Which modules are reached from which, by instances.
use Rattle.std.specs.Prelude.{ℕ, ◌+◌, zero, suc, Bool, List, bytes_eq, filter, flat_map, length, map}
use Rattle.std.specs.List.{list_any, range_with_len}
use Rattle.std.specs.Option.{option_to_list}
use Rattle.vlog_tree.specs.declared.design.Design.{Design}
use Rattle.vlog_tree.specs.declared.design.Module.{Module}
use Rattle.vlog_tree.specs.Meaning.Instances.{children, module_named}
use Rattle.vlog_tree.specs.Meaning.Uses.{Text}

-- the names of the modules of which a module has instances
abbrev pub inner_names : Design → Module → List Text
inner_names design m = map (λ child. child.definition.name) (children design m)

-- the same of the module with a name
abbrev pub inner_names_of : Design → Text → List Text
inner_names_of design name = flat_map (inner_names design) (option_to_list (module_named design name))

-- A path of so many instances, one inside of the other, leads from a module to another.
abbrev pub leads : Design → ℕ → Text → Text → Bool
leads design zero outer inner = bytes_eq outer inner
leads design (suc count) outer inner = list_any (λ next. leads design count next inner) (inner_names_of design outer)

-- It is the same module, or some path leads to it. A longest one without a module twice has fewer instances than there are
-- modules.
abbrev pub reaches : Design → Text → Text → Bool
reaches design outer inner =
    list_any (λ count. leads design count outer inner) (range_with_len 0 (length design.modules + 1))

-- The modules that are reached from the top, in source order.
abbrev pub reached : Design → Text → List Module
reached design top = filter (λ m. reaches design top m.name) design.modules
