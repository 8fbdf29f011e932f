-- The places of names that stand one after another.
use Rattle.std.specs.Prelude.{ℕ, ◌+◌, ◌≡◌, ◌≤◌, List, [], ◌∷◌, ◌++◌, Bool, true, false, Option, Some, None, bytes_eq, cond, filter, length, map}
use Rattle.bm_base.specs.declared.size.Size.TheVariants.{Nodes}
use Rattle.bm_base.specs.Size.{limit_of}
use Rattle.nets.specs.Nets.{nets}
use Rattle.numbering.specs.declared.counts.Counts.{Counts}
use Rattle.numbering.specs.declared.kind.Kind.{Kind}
use Rattle.numbering.specs.declared.kind.Kind.TheVariants as kind
use Rattle.numbering.specs.declared.place.Place.{Place}
use Rattle.numbering.specs.declared.place.Place.TheVariants as place
use Rattle.vlog_tree.specs.declared.design.Module.{Module}
use Rattle.vlog_tree.specs.Meaning.Names.{is_input, is_register}
use Rattle.vlog_tree.specs.Meaning.Uses.{Text}
use Rattle.numbering.specs.Bits.{bits_of}
use Rattle.numbering.specs.Places.{IsApart, Placing}

-- ---- kinds

abbrev pub input_kind : Option Text → Text → Kind
input_kind None name = kind.Driven
input_kind (Some clock) name = cond (bytes_eq name clock) kind.Clock kind.Input

abbrev pub kind_by : Option Text → Bool → Bool → Text → Kind
kind_by clock is_register is_input name = cond is_register kind.Register (cond is_input (input_kind clock name) kind.Driven)

abbrev pub kind_of : Placing → Text → Kind
kind_of it name = kind_by it.clock (is_register it.definition name) (is_input it.definition name) name

abbrev pub same_kind : Kind → Kind → Bool
same_kind kind.Clock kind.Clock = true
same_kind kind.Input kind.Input = true
same_kind kind.Register kind.Register = true
same_kind kind.Driven kind.Driven = true
same_kind one other = false

abbrev pub is_of : Placing → Kind → Text → Bool
is_of it one name = same_kind one (kind_of it name)

-- ---- counts

abbrev pub count_of : Counts → Kind → ℕ
count_of counts kind.Clock = 0
count_of counts kind.Input = counts.inputs
count_of counts kind.Register = counts.registers
count_of counts kind.Driven = counts.driven

abbrev pub total : Counts → ℕ
total counts = counts.inputs + counts.registers + counts.driven

abbrev pub counts_with : ℕ → ℕ → ℕ → Counts
counts_with inputs registers driven = record { inputs = inputs; registers = registers; driven = driven }

-- so many bits more
abbrev pub with_bits : Counts → Kind → ℕ → Counts
with_bits counts kind.Clock width = counts
with_bits counts kind.Input width = counts_with (counts.inputs + width) counts.registers counts.driven
with_bits counts kind.Register width = counts_with counts.inputs (counts.registers + width) counts.driven
with_bits counts kind.Driven width = counts_with counts.inputs counts.registers (counts.driven + width)

-- how many bits the names of a kind have
abbrev pub bits_in : Placing → Kind → List Text → ℕ
bits_in it one names = length (bits_of it.definition (filter (is_of it one) names))

abbrev pub counts_of : Placing → List Text → Counts
counts_of it names = counts_with (bits_in it kind.Input names) (bits_in it kind.Register names) (bits_in it kind.Driven names)

-- ---- places

abbrev pub place_by : Counts → Kind → Place
place_by counts kind.Clock = place.Clock
place_by counts kind.Input = place.Input counts.inputs
place_by counts kind.Register = place.Register counts.registers
place_by counts kind.Driven = place.Driven counts.driven

abbrev pub place_after : Placing → List Text → Text → Place
place_after it before name = place_by (counts_of it before) (kind_of it name)

abbrev pub places_after : Placing → List Text → List Text → List Place
places_after it before [] = []
places_after it before (name ∷ names) = place_after it before name ∷ places_after it (before ++ name ∷ []) names

-- the names of which the module says something
abbrev pub known : Module → List Text
known m = map (λ entry. entry.0) (nets m)

-- The places and the counts are those of all names of the module.
pub record ArePlaces (it : Placing) (places : List Place) (counts : Counts) : Type 0 where
  pub apart : IsApart it.definition
  pub placed : places ≡ places_after it [] (known it.definition)
  pub counted : counts ≡ counts_of it (known it.definition)
  pub within : total counts ≤ limit_of Nodes
