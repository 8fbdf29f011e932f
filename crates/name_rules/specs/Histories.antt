-- What the declarations so far say of a name.
use Rattle.std.specs.Prelude.{List, [], ◌∷◌, Bool, true, false, not, ◌&&◌, ◌||◌, Option, None, Some, bytes_eq, cond, fold, is_none, is_some, nat_lt, unwrap_or}
use Rattle.std.specs.HashMap.{get_by}
use Rattle.bm_base.specs.declared.range.Range.{Range}
use Rattle.hierarchy.specs.Failures.{Failure, failure}
use Rattle.vlog_tree.specs.declared.design.Module.{Module}
use Rattle.vlog_tree.specs.declared.item.Dir.{Dir}
use Rattle.vlog_tree.specs.declared.item.Dir.TheVariants.{Input, Output}
use Rattle.vlog_tree.specs.declared.item.Item.{Item}
use Rattle.vlog_tree.specs.declared.item.Item.TheVariants as item
use Rattle.vlog_tree.specs.declared.item.NetKind.{NetKind}
use Rattle.vlog_tree.specs.declared.item.NetKind.TheVariants.{Plain, Reg, Wire}
use Rattle.vlog_tree.specs.Meaning.Ranges.{scalar, span}
use Rattle.vlog_tree.specs.Meaning.Uses.{Text}
use Rattle.vlog_tree.specs.Meaning.Widths.{greatest}
use Rattle.name_rules.specs.Declarations.{same_range}
use Rattle.name_rules.specs.declared.history.History.{History}
use Rattle.name_rules.specs.declared.declarations.Histories.{Histories}

abbrev pub says_input : Option Dir → Bool
says_input (Some Input) = true
says_input (Some Output) = false
says_input None = false

abbrev pub says_register : NetKind → Bool
says_register Plain = false
says_register Wire = false
says_register Reg = true

-- what the declarations of a name say with one more
abbrev pub said_after : Option History → Option Dir → NetKind → Range → History
said_after None dir kind range = record {
  has_direction = is_some dir;
  is_plain = is_none dir;
  is_input = says_input dir;
  is_register = says_register kind;
  range = range;
  differs = false;
}
said_after (Some history) dir kind range = record {
  has_direction = history.has_direction || is_some dir;
  is_plain = history.is_plain || is_none dir;
  is_input = history.is_input || says_input dir;
  is_register = history.is_register || says_register kind;
  range = history.range;
  differs = history.differs || not (same_range history.range range);
}

abbrev pub said_of : Text → Option History → Item → Option History
said_of name known (item.Decl at dir kind range other) =
    cond (bytes_eq other name) (Some (said_after known dir kind (unwrap_or range scalar))) known
said_of name known other = known

-- what the items so far say of a name
abbrev pub said_by : List Item → Text → Option History
said_by items name = fold (said_of name) None items

abbrev pub history_in : Histories → Text → Option History
history_in histories name = get_by (λ key. bytes_eq name key.now) histories.histories

-- whether one more declaration of the kind, with a direction or without one, is one too many
abbrev pub repeats : Option History → Option Dir → Bool
repeats None dir = false
repeats (Some history) (Some dir) = history.has_direction
repeats (Some history) None = history.is_plain

-- what is wrong with a declaration, by what is said of its name before it and with it
abbrev pub is_bad_with : Bool → Option History → History → Option Dir → Range → Bool
is_bad_with is_port known after dir range =
    repeats known dir
    || ((is_some dir && not is_port)
    || (after.differs || ((after.is_input && after.is_register) || nat_lt greatest (span range))))

abbrev pub bad_declaration_by : Module → (Text → Bool) → (Text → Option History) → Item → List Failure
bad_declaration_by m is_port known (item.Decl at dir kind range name) =
    cond
    (is_bad_with (is_port name) (known name) (said_after (known name) dir kind (unwrap_or range scalar)) dir (unwrap_or range scalar))
    (failure at m.name name ∷ [])
    []
bad_declaration_by m is_port known other = []
