use Rattle.std.proofs.Common.{◌+◌, [], ap, sym, ◌∙◌, List, take, drop, slice_index_or}
use Rattle.std.proofs.lemmas.List.{drop_all}
use Rattle.vlog_tokens.specs.Toks.{Tok, tok_of, toks}
use Rattle.vlog_tokens.specs.declared.token.TokenKind.TheVariants.{Word}
use Rattle.vlog_parse.specs.Nest.{too_deep_after, too_deep_at}
use Rattle.vlog_parse.proofs.NestLemmas.{Fronts, fronts, is_shallow, is_too_deep, nest_is}
use Rattle.vlog_parse.proofs.nest.too_deep_at.Goals as goal

pub returns-then-open-operators-gt500 : goal.returns-then-open-operators-gt500
returns-then-open-operators-gt500 c =
    let xs = c.args.tokens.now in
    let i = c.loop-token.token-index in
    let x = slice_index_or xs i (record { kind = Word; at = 0; text = record { ref_ptr = (0, 0); now = [] } }) in
    let f : Fronts xs i x = fronts xs i _ c.loop-token-test.true in
    let whole = c.loop-token.invariant.0 ∙ ap (too_deep_after (toks (take i xs))) f.1 in
    let counts = nest_is (toks (take i xs)) (tok_of x) c.terminal-text.result.now c.loop-token.open c.loop-token.operators c.loop-token.ifs c.open_after-open.result c.operators_after-operators.result c.ifs_after-ifs.result
    c.terminal-text.ensures c.loop-token.invariant.1 c.loop-token.invariant.2 c.loop-token.invariant.3 c.open_after-open.ensures.value c.operators_after-operators.ensures.value c.ifs_after-ifs.ensures.value in
    sym (is_too_deep (toks (take i xs)) (toks (drop (i + 1) xs)) (tok_of x) (too_deep_at (toks xs)) c.open_after-open.result c.operators_after-operators.result c.ifs_after-ifs.result whole counts c.if-open-operators-gt500.true)

pub loop-token-preserved : goal.loop-token-preserved
loop-token-preserved c =
    let xs = c.args.tokens.now in
    let i = c.loop-token.token-index in
    let x = slice_index_or xs i (record { kind = Word; at = 0; text = record { ref_ptr = (0, 0); now = [] } }) in
    let f : Fronts xs i x = fronts xs i _ c.loop-token-test.true in
    let whole = c.loop-token.invariant.0 ∙ ap (too_deep_after (toks (take i xs))) f.1 in
    let counts = nest_is (toks (take i xs)) (tok_of x) c.terminal-text.result.now c.loop-token.open c.loop-token.operators c.loop-token.ifs c.open_after-open.result c.operators_after-operators.result c.ifs_after-ifs.result
    c.terminal-text.ensures c.loop-token.invariant.1 c.loop-token.invariant.2 c.loop-token.invariant.3 c.open_after-open.ensures.value c.operators_after-operators.ensures.value c.ifs_after-ifs.ensures.value in
    let on = is_shallow (toks (take i xs)) (toks (drop (i + 1) xs)) (tok_of x) (too_deep_at (toks xs)) c.open_after-open.result c.operators_after-operators.result c.ifs_after-ifs.result whole counts c.if-open-operators-gt500.false in
    (rw f.0 on, rw f.0 counts.0, rw f.0 counts.1, rw f.0 counts.2, c.if-open-operators-gt500.false)

pub returns : goal.returns
unfolding too_deep_after
returns c = sym (c.loop-token.invariant.0 ∙ ap (λ (rest : List Tok). too_deep_after (toks (take c.loop-token.token-index c.args.tokens.now)) rest) (ap toks (drop_all c.loop-token.token-index c.args.tokens.now c.loop-token-test.false)))
