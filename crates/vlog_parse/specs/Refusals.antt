-- Why a list of tokens gives no design.
use Rattle.std.specs.Prelude.{◌≡◌, List, Some, None}
use Rattle.vlog_tokens.specs.Toks.{Lexed, Tok}
use Rattle.vlog_parse.specs.Nest.{too_deep_at}
use Rattle.vlog_numbers.specs.NumberFaults.{number_fault_at}
use Rattle.vlog_parse.specs.Outside.{outside_at}
use Rattle.vlog_parse.specs.Places.{IsPlace, SpellNothing}
use Rattle.vlog_parse.specs.declared.parse_fault.ParseFault.{ParseFault}
use Rattle.vlog_parse.specs.declared.parse_fault.ParseFault.TheVariants as fault

-- No reserved word is outside the profile, no number outside the rules, and no token too deep.
pub record IsInProfile (ts : List Tok) : Type 0 where
  pub words : outside_at ts ≡ None
  pub numbers : number_fault_at ts ≡ None
  pub nest : too_deep_at ts ≡ None

-- The tokens spell nothing, or memory fails.
abbrev pub IsMissed : Lexed → ParseFault → Type 0
IsMissed tokens (fault.Syntax at) = SpellNothing tokens.list × IsPlace tokens at
IsMissed tokens fault.Memory = Unit {0}
IsMissed tokens other = ⊥

-- The first that applies, in this order: a word outside the profile, a number outside the rules, a token too deep,
-- tokens that spell nothing.
abbrev pub IsCause : Lexed → ParseFault → Type 0
IsCause tokens (fault.Outside at) = outside_at tokens.list ≡ Some at
IsCause tokens (fault.Number at) = (outside_at tokens.list ≡ None) × (number_fault_at tokens.list ≡ Some at)
IsCause tokens (fault.TooDeep at) =
    (outside_at tokens.list ≡ None) × (number_fault_at tokens.list ≡ None) × (too_deep_at tokens.list ≡ Some at)
IsCause tokens (fault.Syntax at) = IsInProfile tokens.list × SpellNothing tokens.list × IsPlace tokens at
IsCause tokens fault.Memory = Unit {0}
