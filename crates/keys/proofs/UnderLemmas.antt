-- The module that a path leads to, step by step.
use Rattle.std.proofs.Common.{◌≡◌, ℕ, ◌+◌, ◌<◌, ◌≤◌, [], ◌∷◌, Option, None, Some, ap, drop, get_or, length, option_and_then, refl, sym, ◌∙◌}
use Rattle.std.specs.Option.{option_map}
use Rattle.bm_base.specs.declared.range.Range.{Range}
use Rattle.elab.specs.Plans.{written_range}
use Rattle.vlog_tree.specs.declared.design.Design.{Design}
use Rattle.vlog_tree.specs.declared.design.Module.{Module}
use Rattle.vlog_tree.specs.declared.key.Key.{Key}
use Rattle.vlog_tree.specs.Meaning.Instances.{Child, Path, child_named, module_from}
use Rattle.vlog_tree.specs.Meaning.Uses.{Text}
use Rattle.keys.proofs.PlaceLemmas.{drop_past, left_there}
use Rattle.keys.specs.Under.{inner_named, module_below, module_under, range_under}

-- A path ends at the module that is found.
pub below_nothing : (design : Design) (outer : Option Module) → module_below design outer [] ≡ outer
below_nothing design None = refl
below_nothing design (Some m) = refl

-- one name of a path
pub below_name : (design : Design) (name : Text) (path : Path) (outer : Option Module)
    → module_below design outer (name ∷ path) ≡ module_below design (inner_named design name outer) path
below_name design name path None = refl
below_name design name path (Some m) = by (child_named design m name)
  where
    by : (child : Option Child)
        → option_and_then (λ (child : Child). module_from design child.definition path) child
        ≡ option_and_then (λ (m : Module). module_from design m path) (option_map (λ (child : Child). child.definition) child)
    by None = refl
    by (Some child) = refl

-- What is left of a path leads to the whole's module: one name on, and at its end.
module _ (design : Design) (whole outer : Option Module) (path : Path) (i : ℕ) (so_far : module_below design outer (drop i path) ≡ whole) where
  pub one_name : i < length path → (name : Text) → name ≡ get_or path i name → (text : Text) → text ≡ name
      → (inner : Option Module) → inner ≡ inner_named design text outer → module_below design inner (drop (i + 1) path) ≡ whole
  one_name within name is text same inner found =
      ap (λ inner. module_below design inner (drop (i + 1) path)) (found ∙ ap (λ text. inner_named design text outer) same)
      ∙ sym (below_name design name (drop (i + 1) path) outer)
      ∙ ap (module_below design outer) (sym (left_there path i name within is))
      ∙ so_far

  pub no_name : length path ≤ i → outer ≡ whole
  no_name past = sym (below_nothing design outer) ∙ ap (module_below design outer) (sym (drop_past path i past)) ∙ so_far

-- the written range of a bit's name in the module that its path leads to
pub written_there : (design : Design) (top : Text) (key : Key) (path : Path) → path ≡ key.path → (name : Text) → name ≡ key.name
    → (m : Option Module) → m ≡ module_under design top path
    → (range : Option Range) → range ≡ option_and_then (λ m. written_range m name) m → range ≡ range_under design top key
written_there design top key path path_is name name_is m found range written =
    written
    ∙ ap (λ name. option_and_then (λ m. written_range m name) m) name_is
    ∙ ap (option_and_then (λ m. written_range m key.name)) (found ∙ ap (module_under design top) path_is)
