-- What the declarations of a module say of a name, one declaration after another.
use Rattle.std.specs.Prelude.{ℕ, List, [], ◌∷◌, true, false, ◌||◌, Option, Some, None, bytes_eq, cond, unwrap_or}
use Rattle.std.specs.Option.{option_or}
use Rattle.bm_base.specs.declared.range.Range.{Range}
use Rattle.vlog_tree.specs.declared.item.Dir.{Dir}
use Rattle.vlog_tree.specs.declared.item.Item.{Item}
use Rattle.vlog_tree.specs.declared.item.Item.TheVariants.{Decl}
use Rattle.vlog_tree.specs.declared.item.NetKind.{NetKind}
use Rattle.vlog_tree.specs.Meaning.Ranges.{scalar}
use Rattle.vlog_tree.specs.Meaning.Uses.{Text}
use Rattle.nets.specs.Marks.{calls_input, calls_output, calls_register}
use Rattle.nets.specs.Nets.{Net}

-- a name's first declaration
abbrev pub first_declared : ℕ → Option Dir → NetKind → Option Range → Net
first_declared at dir kind range = record {
  at = at;
  range = unwrap_or range scalar;
  written = range;
  is_declared = true;
  is_input = calls_input dir;
  is_output = calls_output dir;
  is_register = calls_register kind;
}

-- one declaration more
abbrev pub declared_again : Net → Option Dir → NetKind → Option Range → Net
declared_again net dir kind range = record {
  at = net.at;
  range = net.range;
  written = option_or net.written range;
  is_declared = true;
  is_input = net.is_input || calls_input dir;
  is_output = net.is_output || calls_output dir;
  is_register = net.is_register || calls_register kind;
}

-- a name with no declaration, by its first use
abbrev pub implicit_net : ℕ → Net
implicit_net at = record {
  at = at;
  range = scalar;
  written = None;
  is_declared = false;
  is_input = false;
  is_output = false;
  is_register = false;
}

abbrev pub after_declaration : Option Net → ℕ → Option Dir → NetKind → Option Range → Net
after_declaration None at dir kind range = first_declared at dir kind range
after_declaration (Some net) at dir kind range = declared_again net dir kind range

-- what is known of a name, and then an item
abbrev pub after_item : Text → Option Net → Item → Option Net
after_item name known (Decl at dir kind range other) = cond (bytes_eq other name) (Some (after_declaration known at dir kind range)) known
after_item name known other = known

abbrev pub after_items : Text → Option Net → List Item → Option Net
after_items name known [] = known
after_items name known (item ∷ items) = after_items name (after_item name known item) items
