-- What the words that were read ask for.
use Rattle.std.specs.Prelude.{option_copied}
use Rattle.bm_words.specs.Words.{Command, Inputs, Request, check, minimise}
use Rattle.bm_words.specs.declared.asked.Asked.{Asked}
use Rattle.bm_words.specs.declared.asked.Asked.TheVariants as asked
use Rattle.bm_words.specs.declared.asked.Inputs.{Inputs as Given}
use Rattle.bm_words.specs.declared.asked.Minimise.{Minimise}
pub use Rattle.bm_words.specs.Names.{names_of}

-- what a command reads, byte by byte
abbrev pub given_inputs : Given → Inputs
given_inputs found = record {
  netlist = found.netlist.now;
  waveform = found.waveform.now;
  names = names_of found.names;
  scope = option_copied found.scope;
}

-- what `minimise` is asked for, byte by byte
abbrev pub request_of : Minimise → Request
request_of found = record { inputs = given_inputs found.inputs; out = found.out.now }

-- the command, byte by byte
abbrev pub command_of : Asked → Command
command_of (asked.Minimise found) = minimise (request_of found)
command_of (asked.Check found) = check (given_inputs found)
