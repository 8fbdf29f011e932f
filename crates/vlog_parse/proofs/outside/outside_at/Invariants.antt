use Rattle.std.proofs.Common.{◌≡◌, drop}
use Rattle.vlog_tokens.specs.Toks.{toks}
use Rattle.vlog_parse.specs.Outside.{outside_at}
use Rattle.vlog_parse.proofs.outside.outside_at.Given as goal

abbrev pub invariant-loop-token : goal.invariant-loop-token
invariant-loop-token l = outside_at (toks l.tokens) ≡ outside_at (toks (drop l.token-index l.tokens))
