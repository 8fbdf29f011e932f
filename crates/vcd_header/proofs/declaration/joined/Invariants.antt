use Rattle.std.proofs.Common.{◌≡◌, ◌++◌, drop, map}
use Rattle.std.specs.List.{flat_map}
use Rattle.vcd_header.specs.Tokens.{Tok, tok_of}
use Rattle.vcd_header.proofs.declaration.joined.Given as goal

abbrev pub invariant-loop-token : goal.invariant-loop-token
invariant-loop-token l = l.text.items ++ flat_map (λ (token : Tok). token.text) (map tok_of (drop l.token-index l.tokens))
    ≡ flat_map (λ (token : Tok). token.text) (map tok_of l.tokens)
