-- The range of a name that is not declared.
use Rattle.std.specs.Prelude.{◌≡◌, List, [], ◌∷◌, Bool, true, false, not, ◌&&◌, ◌||◌, Some, None, refl, cond, find, flat_map, option_map}
use Rattle.std.specs.List.{list_any}
use Rattle.std.specs.Option.{option_or}
use Rattle.std.proofs.Common.{ap, ◌∙◌}
use Rattle.vlog_tree.specs.declared.design.Module.{Module}
use Rattle.vlog_tree.specs.declared.item.Item.{Item}
use Rattle.vlog_tree.specs.Meaning.Names.{declares, is_named}
use Rattle.vlog_tree.specs.Meaning.Ranges.{declared_range, range_of, scalar}
use Rattle.vlog_tree.specs.Meaning.Uses.{Text, implicit_uses}
use Rattle.vlog_tree.specs.WholeUses.{implicit_range}
use Rattle.vlog_tree.proofs.UseLemmas.{any_in_all}

pub none_passes : (test : Item → Bool) (items : List Item) →
    option_map declared_range (find test items) ≡ None → list_any test items ≡ false
none_passes test [] none = refl
none_passes test (item ∷ items) none =
    let step : (passes : Bool) → option_map declared_range (cond passes (Some item) (find test items)) ≡ None →
    (passes || list_any test items) ≡ false =
    elim [ true ↦ λ h. cc | false ↦ λ h. none_passes test items h ] in
    step (test item) none

pub range_by_use : (m : Module) (name : Text) →
    option_map declared_range (find (declares name) m.items) ≡ None → range_of m name ≡ implicit_range name m.items
range_by_use m name none =
    let used : Bool = list_any (is_named name) (flat_map implicit_uses m.items) in
    ap (λ range. option_or range (cond (not (list_any (declares name) m.items) && used) (Some scalar) None)) none
    ∙ (ap (λ declared. cond (not declared && used) (Some scalar) None) (none_passes (declares name) m.items none)
    ∙ ap (λ implied. cond implied (Some scalar) None) (any_in_all (is_named name) implicit_uses m.items))
