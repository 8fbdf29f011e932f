-- What a design and the name of its top say of a bit: all that its printed name depends on.
use Rattle.std.specs.Prelude.{ℕ, List, ◌++◌, Option, bytes_eq, filter_map, find, option_and_then}
use Rattle.std.specs.Option.{option_map}
use Rattle.bm_base.specs.declared.range.Range.{Range}
use Rattle.elab.specs.Plans.{written_range}
use Rattle.vlog_tree.specs.declared.design.Design.{Design}
use Rattle.vlog_tree.specs.declared.design.Module.{Module}
use Rattle.vlog_tree.specs.declared.item.Item.{Item}
use Rattle.vlog_tree.specs.declared.key.Key.{Key}
use Rattle.vlog_tree.specs.Meaning.Instances.{Path, child_of, module_from, module_named}
use Rattle.vlog_tree.specs.Meaning.Uses.{Text}
use Rattle.keys.specs.Printed.{index_text, path_text}

-- the module of the first instance of a name among these items
abbrev pub inner_among : Design → Text → List Item → Option Module
inner_among design name items =
    option_map (λ child. child.definition) (find (λ child. bytes_eq child.name name) (filter_map (child_of design) items))

abbrev pub inner_named : Design → Text → Option Module → Option Module
inner_named design name outer = option_and_then (λ m. inner_among design name m.items) outer

-- the module that a path leads to from this one
abbrev pub module_below : Design → Option Module → Path → Option Module
module_below design outer path = option_and_then (λ m. module_from design m path) outer

-- the module of the instance with a path, where the top has this name
abbrev pub module_under : Design → Text → Path → Option Module
module_under design top path = module_below design (module_named design top) path

abbrev pub range_under : Design → Text → Key → Option Range
range_under design top key = option_and_then (λ m. written_range m key.name) (module_under design top key.path)

abbrev pub text_under : Design → Text → Key → List ℕ
text_under design top key = path_text key.path ++ key.name ++ index_text (range_under design top key) key.bit
