-- A function value that reads by a rule.
use Rattle.std.specs.Prelude.{◌<◌, List, length, Result, OnOk}
use denote.Ref.{MutBor}
use Rattle.vlog_tokens.specs.Toks.{Tok}
use Rattle.vlog_parse.specs.Reads.{Parser, Reads}
use Rattle.vlog_numbers.specs.declared.fault.Fault.{Fault}

-- It may be called anywhere, and takes a token at least.
pub record IsReader {A : Type 0} (pre : MutBor (List Tok) → Type 0)
    (post : MutBor (List Tok) → Result A Fault → MutBor (List Tok) → Type 0) : Type 0 where
  pub callable : (old : MutBor (List Tok)) → pre old
  pub consumes : (old new : MutBor (List Tok)) (result : Result A Fault) → post old result new
      → OnOk result (length new.now < length old.now)

-- What it reads is what the rule reads.
abbrev pub IsRule : {A : Type 0} → Parser A → (MutBor (List Tok) → Result A Fault → MutBor (List Tok) → Type 0) → Type 0
IsRule {A} rule post =
    (old new : MutBor (List Tok)) (result : Result A Fault) → post old result new → Reads (rule old.now) result new.now
