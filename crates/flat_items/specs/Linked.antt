-- What is connected to the ports of a child is carried out.
use Rattle.std.specs.Prelude.{ℕ, ◌≡◌, List, [], ◌++◌, Option, cond, option_map}
use Rattle.std.specs.Option.{option_to_list}
use Rattle.drives.specs.Given.{given_so_far}
use Rattle.flat_design.specs.Items.{Drive, Giving, connection_given, each, input_given, nothing_given, output_drives}
use Rattle.flat_items.specs.Carried.{Carried, CarriesTo}
use Rattle.flat_items.specs.Framing.{IsFrame}
use Rattle.flat_net.specs.declared.edge.Edge.{Edge}
use Rattle.flat_net.specs.declared.fault.FlatFault.{FlatFault}
use Rattle.frames.specs.Framed.{Framed}
use Rattle.lowering.specs.Limits.{Added}
use Rattle.vlog_tree.specs.declared.expr.Expr.{Expr}
use Rattle.vlog_tree.specs.Meaning.Instances.{Child, Connection, Instance, inside}
use Rattle.vlog_tree.specs.Meaning.Names.{is_input, is_output}
use Rattle.vlog_tree.specs.Meaning.Setting.{Setting}
use Rattle.vlog_tree.specs.Meaning.Uses.{Text}

-- The frames are those of an instance and of its child.
pub record AreLinked (setting : Setting) (instance : Instance) (child : Child) (frame inner : Framed) : Type 0 where
  pub place : ℕ
  pub outer : IsFrame setting place instance frame
  pub inner_place : ℕ
  pub inner_is : IsFrame setting inner_place (inside instance.path child) inner

-- what is given, by the design, the instance and its child
abbrev pub GivingTo : Type 0
GivingTo = Setting → Instance → Child → Giving

abbrev pub Links : Framed → Framed → GivingTo → Added → Added → List (Option Edge) → List (Option Edge) → Type 0
Links frame inner giving start end old new =
    (setting : Setting) (instance : Instance) (child : Child) → AreLinked setting instance child frame inner
    → (was : List Edge) → Carried setting instance.definition (giving setting instance child) start end old new was was

abbrev pub LinksTo : Framed → Framed → GivingTo → Added → FlatFault → Type 0
LinksTo frame inner giving start fault =
    (setting : Setting) (instance : Instance) (child : Child) → AreLinked setting instance child frame inner
    → (was : List Edge) → CarriesTo instance.definition (giving setting instance child) start was fault

abbrev pub connection : Text → Expr → Connection
connection port e = record { port = port; expression = e }

-- what a connection gives to an input port, and nothing to another
abbrev pub into_given : Connection → GivingTo
into_given it setting instance child before next =
    cond (is_input child.definition it.port) (input_given setting instance child it before next) (nothing_given before)

-- what a connection is given by an output port, and nothing by another
abbrev pub back_given : Connection → Setting → Instance → Child → List Drive
back_given it setting instance child =
    cond (is_output child.definition it.port) (output_drives setting instance child it) []

-- what is given by what is connected to a port, which may be blank
abbrev pub to_given : Text → Option Expr → GivingTo
to_given port e setting instance child =
    each (connection_given setting instance child) (option_to_list (option_map (connection port) e))

-- These edges of bits are given.
abbrev pub GivesBack : Framed → Framed → (Setting → Instance → Child → List Drive) → List (Option Edge) → List (Option Edge) → Type 0
GivesBack frame inner given old new =
    (setting : Setting) (instance : Instance) (child : Child) → AreLinked setting instance child frame inner
    → (drives ports : List Drive) → old ≡ given_so_far setting drives ports
    → new ≡ given_so_far setting (drives ++ given setting instance child) ports
