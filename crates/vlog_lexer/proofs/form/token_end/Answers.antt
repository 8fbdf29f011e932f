use Rattle.std.proofs.Common.{ℕ, IfNone, subst, sym}
use Rattle.vlog_tokens.specs.Forms.{IsToken}
use Rattle.vlog_tokens.specs.declared.token.TokenKind.{TokenKind}
use Rattle.vlog_lexer.proofs.form.token_end.Goals as goal

pub returns-in-Mark-clause-none : goal.returns-in-Mark-clause-none
returns-in-Mark-clause-none c =
    subst (λ (kind : TokenKind). IfNone c.mark_end.result ((to : ℕ) → IsToken kind c.args.source.now c.args.at to → ⊥)) (sym c.in-Mark.is) c.mark_end.ensures.none
