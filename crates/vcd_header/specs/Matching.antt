-- Which variable gives which bit.
use Rattle.std.specs.Prelude.{ℕ, ◌+◌, ◌-◌, ◌==◌, ◌&&◌, Bool, List, [], ◌∷◌, map, max, min, nat_le, Option, None, Some, is_some, Result, Ok, Err, if◌then◌else◌}
use Rattle.std.specs.List.{filter, find, flat_map, list_all, range_with_len}
use Rattle.std.specs.Option.{option_map, option_or}
use Rattle.std.specs.Str.{bytes_eq}
use Rattle.bm_base.specs.declared.range.Range.{Range}
use Rattle.trace_rows.specs.declared.labels.Labels.{Labels}
use Rattle.trace_rows.specs.declared.labels.PortLabel.{PortLabel}
use Rattle.vcd_header.specs.declared.fault.VcdFault.{VcdFault}
use Rattle.vcd_header.specs.declared.fault.VcdFault.TheVariants.{NoScope, NoSignal}
use Rattle.vcd_header.specs.declared.select.Select.{Select}
use Rattle.vcd_header.specs.declared.select.Select.TheVariants.{Whole, Part, Other}
use Rattle.vcd_header.specs.Scopes.{Path, dotted, same_path}
use Rattle.vcd_header.specs.Variables.{Variable}

-- ---- what is wanted

-- a bit of a signal: the signal's name and width, the bit's index, and its position from the right end, from 0
pub record Wanted : Type 0 where
  pub name : List ℕ
  pub width : ℕ
  pub index : ℕ
  pub position : ℕ

-- the index of a position: it is counted from the right end of the range; without a range it is the position
abbrev pub index_at : Option Range → ℕ → ℕ
index_at None position = position
index_at (Some range) position =
    if nat_le range.right range.left then range.right + position else range.right - position

abbrev pub port_bit : PortLabel → ℕ → Wanted
port_bit port position =
    record { name = port.name; width = port.width; index = index_at port.range position; position = position }

-- the bits of a port, from its right end
abbrev pub port_bits : PortLabel → List Wanted
port_bits port = map (port_bit port) (range_with_len 0 port.width)

-- the clock is one bit, of index 0
abbrev pub clock_bit : Labels → Wanted
clock_bit labels = record { name = labels.clock; width = 1; index = 0; position = 0 }

-- the clock, and then the bits of the rows in their order
abbrev pub wanted : Labels → List Wanted
wanted labels = clock_bit labels ∷ flat_map port_bits labels.ports

-- ---- what a variable gives

-- where a bit comes from: the code of a variable, and which of its digits, from the right end, from 0
pub record Source : Type 0 where
  pub code : List ℕ
  pub digit : ℕ

-- how far two numbers are apart
abbrev pub distance : ℕ → ℕ → ℕ
distance left right = max left right - min left right

-- whether the range has the index
abbrev pub holds : Range → ℕ → Bool
holds range index = nat_le (min range.left range.right) index && nat_le index (max range.left range.right)

-- which digit of a variable is the bit: by its position where the variable is the whole signal; by its index where a
-- select has the index, and is as wide as the variable
abbrev pub digit_by : Select → ℕ → Wanted → Option ℕ
digit_by Whole size bit = if size == bit.width then Some bit.position else None
digit_by (Part range) size bit =
    if holds range bit.index && distance range.left range.right + 1 == size then Some (distance bit.index range.right)
    else None
digit_by Other size bit = None

abbrev pub source_at : List ℕ → ℕ → Source
source_at code digit = record { code = code; digit = digit }

-- the bit, where the variable has the signal's name and gives it
abbrev pub source_by : Variable → Wanted → Option Source
source_by variable bit =
    if bytes_eq variable.name bit.name
    then option_map (source_at variable.code) (digit_by variable.select variable.size bit) else None

-- the first declared that gives the bit
abbrev pub source_of : List Variable → Wanted → Option Source
source_of [] bit = None
source_of (variable ∷ variables) bit = option_or (source_by variable bit) (source_of variables bit)

-- ---- the scope

-- the variables that stand directly in the scope
abbrev pub within : Path → List Variable → List Variable
within path variables = filter (λ variable. same_path variable.path path) variables

-- whether the scope directly gives every bit
abbrev pub gives_all : List Variable → List Wanted → Path → Bool
gives_all variables bits path = list_all (λ bit. is_some (source_of (within path variables) bit)) bits

-- the scope: the first opened one of the name that is asked for, or else the first opened one that gives every bit
abbrev pub scope_for : List Path → List Variable → List Wanted → Option (List ℕ) → Option Path
scope_for paths variables bits (Some name) = find (λ path. bytes_eq (dotted path) name) paths
scope_for paths variables bits None = find (gives_all variables bits) paths

-- the sources of all bits, or the first signal that has a bit without one
abbrev pub with_source : List ℕ → Option Source → Result (List Source) VcdFault → Result (List Source) VcdFault
with_source name None rest = Err (NoSignal name)
with_source name (Some source) (Ok sources) = Ok (source ∷ sources)
with_source name (Some source) (Err fault) = Err fault

abbrev pub sources_of : List Variable → List Wanted → Result (List Source) VcdFault
sources_of variables [] = Ok []
sources_of variables (bit ∷ bits) = with_source bit.name (source_of variables bit) (sources_of variables bits)

abbrev pub sources_in : List Variable → List Wanted → Option Path → Result (List Source) VcdFault
sources_in variables bits None = Err NoScope
sources_in variables bits (Some path) = sources_of (within path variables) bits
