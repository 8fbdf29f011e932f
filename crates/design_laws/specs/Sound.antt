-- What a design that keeps the rules has: each instance has its path and its module, and all that stands in a module has
-- bits.
use Rattle.std.specs.Prelude.{◌≡◌, ◌⊎◌, ℕ, ◌==◌, List, [], Bool, true, false, ◌&&◌, Option, Some, None, IsSome, is_some, length, slice_get}
use Rattle.std.specs.List.{list_all}
use Rattle.std.specs.Str.{bytes_eq}
use Rattle.vlog_tree.specs.declared.design.Design.{Design}
use Rattle.vlog_tree.specs.declared.design.Module.{Module}
use Rattle.vlog_tree.specs.declared.expr.Expr.{Expr}
use Rattle.vlog_tree.specs.declared.item.Item.{Item}
use Rattle.vlog_tree.specs.declared.item.Item.TheVariants as item
use Rattle.vlog_tree.specs.declared.item.Link.{Link}
use Rattle.vlog_tree.specs.declared.left.Left.{Left}
use Rattle.vlog_tree.specs.declared.left.Left.TheFolds.{fold-Left}
use Rattle.vlog_tree.specs.declared.left.Left.TheOpen.{Left-F}
use Rattle.vlog_tree.specs.declared.stmt.Stmt.{Stmt}
use Rattle.vlog_tree.specs.declared.stmt.Stmt.TheFolds.{fold-Stmt}
use Rattle.vlog_tree.specs.declared.stmt.Stmt.TheOpen.{Stmt-F}
use Rattle.vlog_tree.specs.Meaning.Instances.{Child, Instance, child_named, instances, module_at, module_named, top_module}
use Rattle.vlog_tree.specs.Meaning.Instances as meaning
use Rattle.vlog_tree.specs.Meaning.Lefts.{left_bits}
use Rattle.vlog_tree.specs.Meaning.Names.{is_input, is_register}
use Rattle.vlog_tree.specs.Meaning.Ranges.{bit_with, part_bits, range_of}
use Rattle.vlog_tree.specs.Meaning.Setting.{Setting}
use Rattle.vlog_tree.specs.Meaning.Uses.{Text}
use Rattle.vlog_tree.specs.Meaning.Widths.{width}
use Rattle.lowering.specs.Meaning.{is_sound}
use Rattle.design_laws.specs.Kept.{Keeps}

-- all of these hold
abbrev pub each : List Bool → Bool
each tests = list_all (λ test. test) tests

-- ---- left sides

abbrev pub left_is_sound_at : Module → Left-F Bool → Bool
left_is_sound_at m (Left-F.Whole at name) = is_some (range_of m name)
left_is_sound_at m (Left-F.Bit at name index) = is_some (bit_with m name index)
left_is_sound_at m (Left-F.Part at name part) = is_some (part_bits m name part)
left_is_sound_at m (Left-F.Join parts) = each parts

-- Each whole name in a left side has a range, and each select has bits.
abbrev pub left_is_sound : Module → Left → Bool
left_is_sound m = fold-Left Bool (left_is_sound_at m)

-- ---- statements

abbrev pub other_is_sound : Option Bool → Bool
other_is_sound (Some test) = test
other_is_sound None = true

abbrev pub stmt_is_sound_at : Module → Stmt-F Bool → Bool
stmt_is_sound_at m Stmt-F.Empty = true
stmt_is_sound_at m (Stmt-F.Block body) = each body
stmt_is_sound_at m (Stmt-F.If condition first other) = is_sound m condition && (first && other_is_sound other)
stmt_is_sound_at m (Stmt-F.Set at left right) = left_is_sound m left && is_sound m right

abbrev pub stmt_is_sound : Module → Stmt → Bool
stmt_is_sound m = fold-Stmt Bool (stmt_is_sound_at m)

-- ---- items

abbrev pub connected_is_sound : Module → Option Expr → Bool
connected_is_sound m (Some e) = is_sound m e
connected_is_sound m None = true

abbrev pub link_is_sound : Module → Link → Bool
link_is_sound m link = connected_is_sound m link.expr

abbrev pub is_one : Option ℕ → Bool
is_one (Some width) = width == 1
is_one None = false

-- an input of a gate, of one bit
abbrev pub input_is_sound : Module → Expr → Bool
input_is_sound m input = is_sound m input && is_one (width m input)

-- an output of a gate, of one bit
abbrev pub output_is_sound : Module → Left → Bool
output_is_sound m out = left_is_sound m out && (length (left_bits m out) == 1)

-- All that stands in an item is sound, the terminals of a gate have one bit each, and an instance has its module.
abbrev pub item_is_sound : Design → Module → Item → Bool
item_is_sound design m (item.Decl at dir kind range name) = true
item_is_sound design m (item.Assign at left right) = left_is_sound m left && is_sound m right
item_is_sound design m (item.Gate at kind name outs ins) =
    list_all (output_is_sound m) outs && list_all (input_is_sound m) ins
item_is_sound design m (item.Instance at inner name links) =
    is_some (module_named design inner) && list_all (link_is_sound m) links
item_is_sound design m (item.Always at clock body) = stmt_is_sound m body
item_is_sound design m (item.Initial at name value) = is_sound m value

-- ---- designs

-- The instance is the top.
abbrev pub IsTop : Setting → Instance → Type 0
IsTop setting instance = (instance.path ≡ []) × (top_module setting ≡ Some instance.definition)

-- The instance is a child that stands in another.
pub record IsInside (setting : Setting) (instance : Instance) : Type 0 where
  pub place : ℕ
  pub outer : Instance
  pub child : Child
  pub stands : slice_get (instances setting) place ≡ Some outer
  pub named : child_named setting.design outer.definition child.name ≡ Some child
  pub is : instance ≡ meaning.inside outer.path child

pub record IsSound (setting : Setting) : Type 0 where
  pub top : IsSome (top_module setting)
  -- The path of an instance leads to its module.
  pub leads : (i : ℕ) (instance : Instance) → slice_get (instances setting) i ≡ Some instance
      → module_at setting instance.path ≡ Some instance.definition
  -- No two instances have one path.
  pub distinct : (i j : ℕ) (a b : Instance) → slice_get (instances setting) i ≡ Some a
      → slice_get (instances setting) j ≡ Some b → a.path ≡ b.path → i ≡ j
  -- Each child of an instance is an instance: no path is so long that it is cut off.
  pub inside : (i : ℕ) (outer : Instance) (child : Child) → slice_get (instances setting) i ≡ Some outer
      → child_named setting.design outer.definition child.name ≡ Some child
      → (j : ℕ) × (slice_get (instances setting) j ≡ Some (meaning.inside outer.path child))
  -- Each child is found by its name.
  pub children : (i : ℕ) (outer : Instance) → slice_get (instances setting) i ≡ Some outer
      → (place : ℕ) (child : Child) → slice_get (meaning.children setting.design outer.definition) place ≡ Some child
      → child_named setting.design outer.definition child.name ≡ Some child
  -- Each instance is the top, or a child of an instance.
  pub parent : (i : ℕ) (instance : Instance) → slice_get (instances setting) i ≡ Some instance
      → IsTop setting instance ⊎ IsInside setting instance
  pub items : (i : ℕ) (instance : Instance) → slice_get (instances setting) i ≡ Some instance
      → list_all (item_is_sound setting.design instance.definition) instance.definition.items ≡ true
  -- The ports of the header are declared.
  pub ports : (i : ℕ) (instance : Instance) → slice_get (instances setting) i ≡ Some instance
      → list_all (λ port. is_some (range_of instance.definition port)) instance.definition.ports ≡ true
  -- No register is an input.
  pub apart : (i : ℕ) (instance : Instance) → slice_get (instances setting) i ≡ Some instance
      → (name : Text) → is_register instance.definition name ≡ true → is_input instance.definition name ≡ false
  -- The module of an instance is the first of its name.
  pub named : (i : ℕ) (instance : Instance) → slice_get (instances setting) i ≡ Some instance
      → module_named setting.design instance.definition.name ≡ Some instance.definition
  -- An instance of the top's module is the top.
  pub only_top : (i : ℕ) (instance : Instance) → slice_get (instances setting) i ≡ Some instance
      → bytes_eq instance.definition.name setting.top ≡ true → instance.path ≡ []

-- A design that keeps the rules is sound.
abbrev pub KeptIsSound : Type 0
KeptIsSound = (setting : Setting) → Keeps setting → IsSound setting
