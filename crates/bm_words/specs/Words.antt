-- The words of a command line.
use Rattle.std.specs.Prelude.{◌≡◌, ◌≢◌, ℕ, ◌≤◌, List, [], ◌∷◌, map, slice_get, codes, Option, Some, IfSome, String}
use Rattle.std.specs.declared.alloc.Global.{Global}
use Rattle.std.specs.String.{string_bytes}
use Rattle.bm_words.specs.Options.{AreOptions}
pub use Rattle.bm_words.specs.Names.{TopNames}

-- the bytes of each word
abbrev pub texts : List (String Global) → List (List ℕ)
texts words = map string_bytes words

-- what a command reads: the names of its netlist and its waveform, the names that it is given, and that of the scope of
-- the waveform, if it is given
pub record Inputs : Type 0 where
  pub netlist : List ℕ
  pub waveform : List ℕ
  pub names : TopNames
  pub scope : Option (List ℕ)

-- what `minimise` is asked for: what it reads, and the name of the file that it writes
pub record Request : Type 0 where
  pub inputs : Inputs
  pub out : List ℕ

-- what the words ask for
pub data Command : Type 0 where
  minimise : Request → Command
  check : Inputs → Command

-- what a command reads
abbrev pub inputs_of : Command → Inputs
inputs_of (minimise request) = request.inputs
inputs_of (check inputs) = inputs

-- A name has a byte or more.
abbrev pub IsName : List ℕ → Type 0
IsName name = name ≢ []

-- A file's name doesn't begin with `-`, which is 45.
abbrev pub IsFileName : List ℕ → Type 0
IsFileName name = IsName name × (slice_get name 0 ≢ Some 45)

-- No name that an option gives is empty, and the reset is held for 1,000 cycles at most, also where none is given.
pub record HasFitOptions (names : TopNames) : Type 0 where
  pub always : IsName names.top × IsName names.clock × IsName names.check
  pub reset : IfSome names.reset (λ reset. IsName reset.0)
  pub cycles : names.reset_cycles ≤ 1000

-- The options are fit, the files have names of files and differ, and the scope has a name.
pub record HasFitNames (inputs : Inputs) : Type 0 where
  pub files : IsFileName inputs.netlist × IsFileName inputs.waveform
  pub options : HasFitOptions inputs.names
  pub scope : IfSome inputs.scope IsName
  pub different : inputs.netlist ≢ inputs.waveform

-- The output is another file.
pub record HasFitOut (request : Request) : Type 0 where
  pub file : IsFileName request.out
  pub different : (request.inputs.netlist ≢ request.out) × (request.inputs.waveform ≢ request.out)

-- The names of a command are fit, with those of the file that it writes.
abbrev pub HasFit : Command → Type 0
HasFit (minimise request) = HasFitNames request.inputs × HasFitOut request
HasFit (check inputs) = HasFitNames inputs

-- The words are the program's name, the command, its files and its options, in this order.
abbrev pub HasForm : List (List ℕ) → Command → Type 0
HasForm words (minimise request) = (program : List ℕ) × (given : List (List ℕ))
    × (words ≡ program ∷ codes "minimise" ∷ request.inputs.netlist ∷ request.inputs.waveform ∷ request.out ∷ given)
    × AreOptions given request.inputs.names request.inputs.scope
HasForm words (check inputs) = (program : List ℕ) × (given : List (List ℕ))
    × (words ≡ program ∷ codes "check" ∷ inputs.netlist ∷ inputs.waveform ∷ given)
    × AreOptions given inputs.names inputs.scope

-- They have the command's form, and its names are fit.
pub record Asks (words : List (List ℕ)) (command : Command) : Type 0 where
  pub form : HasForm words command
  pub fit : HasFit command

-- They ask for nothing.
abbrev pub AskNothing : List (List ℕ) → Type 0
AskNothing words = (command : Command) → Asks words command → ⊥

-- Words are of one command's form at most.
abbrev pub HaveOneCommand : Type 0
HaveOneCommand = (words : List (List ℕ)) (c d : Command) → HasForm words c → HasForm words d → c ≡ d
