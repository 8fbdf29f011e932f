-- Why bytes are no netlist.
use Rattle.std.specs.Prelude.{⊤, ◌≡◌, ℕ, List, Some, length}
use Rattle.elab.specs.Refusals.{RefusesBy, rules}
use Rattle.elab.specs.Settings.{setting_of}
use Rattle.elab.specs.declared.fault.ElabFault.{ElabFault}
use Rattle.elab.specs.declared.names.Names.{Names}
use Rattle.flat_design.specs.Flat.{flat}
use Rattle.flat_design.specs.Sizes.{too_large}
use Rattle.keys.specs.Printed.{key_text}
use Rattle.label_laws.specs.Spelled.{SpellsInProfile}
use Rattle.net_order.specs.Faults.{IsLeastLoop}
use Rattle.numbering.specs.Numbering.{key_at}
use Rattle.vlog_lexer.specs.Faults.{FailsAt}
use Rattle.vlog_parse.specs.Refusals.{IsCause}
use Rattle.vlog_parse.specs.declared.parse_fault.ParseFault.{ParseFault}
use Rattle.vlog_parse.specs.declared.parse_fault.ParseFault.TheVariants as parse
use Rattle.vlog_tokens.specs.Tokens.{AreTokens}
use Rattle.vlog_tokens.specs.Toks.{Lexed}
use Rattle.vlog_tree.specs.declared.design.Design.{Design}
use Rattle.vlog_tree.specs.declared.key.Key.{Key}
use Rattle.vlog_tree.specs.Meaning.Setting.{Setting}
use Rattle.vlog_tree.specs.Meaning.Value.{IsLoopFree}
use Rattle.netlists.specs.Netlists.{IsKept, IsNetlist, IsSized}
use Rattle.netlists.specs.declared.fault.NetlistFault.{NetlistFault}
use Rattle.netlists.specs.declared.fault.NetlistFault.TheVariants as fault

-- The bytes have tokens, and this is why they give no design.
abbrev pub IsParseFault : List ℕ → ParseFault → Type 0
IsParseFault bytes why =
    (lexed : Lexed) × AreTokens bytes lexed.list × (lexed.source_len ≡ length bytes) × IsCause lexed why

-- The bytes spell a design, and this says the first rule that it breaks, at its first place.
abbrev pub BreaksRule : Names → List ℕ → ElabFault → Type 0
BreaksRule names bytes why =
    (design : Design) × SpellsInProfile bytes design × RefusesBy (rules (setting_of design names)) why

-- The text is the printed name of the bit for which the least node stands that reads itself.
abbrev pub IsLoopKey : Setting → List ℕ → Type 0
IsLoopKey setting text =
    (node : ℕ) × IsLeastLoop (flat setting).nodes node
    × ((key : Key) × (key_at setting node ≡ Some key) × (text ≡ key_text setting key))

-- The design has a loop, so some bit has no value, and the text names the first bit of a loop.
pub record HasLoop (setting : Setting) (text : List ℕ) : Type 0 where
  pub loops : IsLoopFree setting → ⊥
  pub named : IsLoopKey setting text

-- The reason applies to the bytes, and none before it does: first those of the tokens, then those of the grammar, then the
-- rules, then the sizes, then a loop.
abbrev pub IsReason : Names → List ℕ → NetlistFault → Type 0
IsReason names bytes (fault.Lex why) = FailsAt bytes why
IsReason names bytes (fault.Parse parse.Memory) = ⊥
IsReason names bytes (fault.Parse why) = IsParseFault bytes why
IsReason names bytes (fault.Rule why) = BreaksRule names bytes why
IsReason names bytes (fault.TooLarge what) =
    (design : Design) × IsKept names bytes design × (too_large (setting_of design names) ≡ Some what)
IsReason names bytes (fault.Loop key) =
    (design : Design) × IsSized names bytes design × HasLoop (setting_of design names) key
IsReason names bytes fault.Memory = ⊥

-- It is a reason, or want of memory.
abbrev pub IsFault : Names → List ℕ → NetlistFault → Type 0
IsFault names bytes fault.Memory = ⊤
IsFault names bytes why = IsReason names bytes why

-- the reason, without the place of tokens that spell no design
abbrev pub placeless : NetlistFault → NetlistFault
placeless (fault.Parse (parse.Syntax at)) = fault.Parse (parse.Syntax 0)
placeless why = why

-- A netlist is refused for one reason at most, but for the place of tokens that spell no design.
abbrev pub IsOneFault : Type 0
IsOneFault =
    (names : Names) (bytes : List ℕ) (why other : NetlistFault) → IsReason names bytes why → IsReason names bytes other
    → placeless why ≡ placeless other

-- No bytes are both a netlist and refused.
abbrev pub IsNetlistOrFault : Type 0
IsNetlistOrFault =
    (names : Names) (bytes : List ℕ) (design : Design) (why : NetlistFault) → IsNetlist names bytes design
    → IsReason names bytes why → ⊥
