-- What a module says of its names.
use Rattle.std.specs.Prelude.{ℕ, ◌==◌, List, [], ◌∷◌, Bool, Option, None, Some, bytes_eq, cond, filter_map, find, flat_map, option_map, unwrap_or}
use Rattle.std.specs.Option.{option_or}
use Rattle.bm_base.specs.declared.range.Range.{Range}
use Rattle.vlog_tree.specs.declared.design.Module.{Module}
use Rattle.vlog_tree.specs.declared.item.Item.{Item}
use Rattle.vlog_tree.specs.declared.item.Item.TheVariants.{Decl}
use Rattle.vlog_tree.specs.Meaning.Keys.{bit_count}
use Rattle.vlog_tree.specs.Meaning.Names.{declares, is_declared, is_input, is_named, is_output, is_register, names}
use Rattle.vlog_tree.specs.Meaning.Ranges.{range_of}
use Rattle.vlog_tree.specs.Meaning.Uses.{Text, item_uses}

-- a name that is declared or implicit
pub record Net : Type 0 where
  -- the place of its first declaration, or of its first use where it has none
  pub at : ℕ
  pub range : Range
  -- the first range that one of its declarations writes
  pub written : Option Range
  pub is_declared : Bool
  pub is_input : Bool
  pub is_output : Bool
  pub is_register : Bool

abbrev pub place_in : Item → ℕ
place_in (Decl at dir kind range name) = at
place_in other = 0

abbrev pub written_in : Text → Item → Option Range
written_in name (Decl at dir kind range other) = cond (bytes_eq other name) range None
written_in name other = None

abbrev pub first_of : {X : Type 0} → List X → Option X
first_of [] = None
first_of (x ∷ xs) = Some x

abbrev pub first_use : Module → Text → Option ℕ
first_use m name = option_map (λ one. one.at) (find (is_named name) (flat_map item_uses m.items))

-- the place of a name's first declaration, or of its first use
abbrev pub place_of_name : Module → Text → ℕ
place_of_name m name =
    unwrap_or (option_or (option_map place_in (find (declares name) m.items)) (first_use m name)) 0

abbrev pub net_with : Module → Text → Range → Net
net_with m name range = record {
  at = place_of_name m name;
  range = range;
  written = first_of (filter_map (written_in name) m.items);
  is_declared = is_declared m name;
  is_input = is_input m name;
  is_output = is_output m name;
  is_register = is_register m name;
}

-- what a module says of a name; nothing where it is neither declared nor implicit
abbrev pub net_of : Module → Text → Option Net
net_of m name = option_map (net_with m name) (range_of m name)

-- The name has one bit.
abbrev pub is_one_bit : Module → Text → Bool
is_one_bit m name = bit_count m name == 1

-- its names in their order, each with what it says of it
abbrev pub nets : Module → List (Text × Net)
nets m = filter_map (λ name. option_map (λ net. (name, net)) (net_of m name)) (names m)
