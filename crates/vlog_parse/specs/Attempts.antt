-- A rule that may be tried without harm.
use Rattle.std.specs.Prelude.{Option, Some, None, List, Ok, Err}
use Rattle.vlog_tokens.specs.Toks.{Tok}
use Rattle.vlog_parse.specs.Reads.{Outcome, Parser}

abbrev pub attempt_by : {A : Type 0} → Outcome A → List Tok → Outcome (Option A)
attempt_by (Ok p) ts = Ok (Some p.0, p.1)
attempt_by (Err stuck) ts = Ok (None, ts)

-- what the rule reads here, and nothing where it does not
abbrev pub attempt : {A : Type 0} → Parser A → Parser (Option A)
attempt rule = λ ts. attempt_by (rule ts) ts
