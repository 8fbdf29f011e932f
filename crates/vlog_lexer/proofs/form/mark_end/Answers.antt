use Rattle.std.proofs.Common.{◌≤◌, ◌+◌, length, arith, sym, ◌∙◌}
use Rattle.std.specs.List.{Contains, slice_range}
use Rattle.std.proofs.lemmas.Bool.{false≢true}
use Rattle.vlog_tokens.specs.Tables.{marks}
use Rattle.vlog_lexer.proofs.MarkLemmas.{no_bytes, one_byte, two_bytes}
use Rattle.vlog_lexer.proofs.form.mark_end.Goals as goal
use Rattle.vlog_lexer.proofs.form.mark_end.Goals.{else-at-source-via-then-at-source+else-is_mark, else-at-source-via-else-at-source}

pub returns-then-is_mark-clause-found : goal.returns-then-is_mark-clause-found
returns-then-is_mark-clause-found c = two_bytes c.args.source.now c.args.at c.if-at-source.true (c.is_mark.ensures.0 c.if-is_mark.true)

pub returns-then-is_mark-2-clause-found : goal.returns-then-is_mark-2-clause-found
returns-then-is_mark-2-clause-found c =
    let none : c.args.at + 2 ≤ length c.args.source.now → Contains marks (slice_range c.args.source.now c.args.at (c.args.at + 2)) → ⊥ = elim c.else-at-source.branch [
      | else-at-source-via-then-at-source+else-is_mark w ↦ λ h m. false≢true (sym w.if-is_mark.false ∙ w.is_mark.ensures.1 m)
      | else-at-source-via-else-at-source w ↦ λ h m. omega (arith, w.if-at-source.false)
    ] in
    one_byte c.args.source.now c.args.at (omega arith) (c.is_mark-else-at-source.ensures.0 c.if-is_mark-2.true) none

pub returns-else-is_mark-2-clause-none : goal.returns-else-is_mark-2-clause-none
returns-else-is_mark-2-clause-none c =
    let none : c.args.at + 2 ≤ length c.args.source.now → Contains marks (slice_range c.args.source.now c.args.at (c.args.at + 2)) → ⊥ = elim c.else-at-source.branch [
      | else-at-source-via-then-at-source+else-is_mark w ↦ λ h m. false≢true (sym w.if-is_mark.false ∙ w.is_mark.ensures.1 m)
      | else-at-source-via-else-at-source w ↦ λ h m. omega (arith, w.if-at-source.false)
    ] in
    λ to p. no_bytes c.args.source.now c.args.at to (λ m. false≢true (sym c.if-is_mark-2.false ∙ c.is_mark-else-at-source.ensures.1 m)) none p
