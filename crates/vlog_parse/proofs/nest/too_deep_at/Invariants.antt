use Rattle.std.proofs.Common.{◌≡◌, ◌≤◌, ◌+◌, take, drop}
use Rattle.vlog_tokens.specs.Toks.{toks}
use Rattle.vlog_parse.specs.Nest.{counted, ifs_after, open_after, operators_after, too_deep_after, too_deep_at}
use Rattle.vlog_parse.proofs.nest.too_deep_at.Given as goal

abbrev pub invariant-loop-token : goal.invariant-loop-token
invariant-loop-token l =
    (too_deep_at (toks l.tokens) ≡ too_deep_after (toks (take l.token-index l.tokens)) (toks (drop l.token-index l.tokens)))
    × (l.open ≡ counted open_after (toks (take l.token-index l.tokens)))
    × (l.operators ≡ counted operators_after (toks (take l.token-index l.tokens)))
    × (l.ifs ≡ counted ifs_after (toks (take l.token-index l.tokens)))
    × (l.open + l.operators + l.ifs ≤ 500)
