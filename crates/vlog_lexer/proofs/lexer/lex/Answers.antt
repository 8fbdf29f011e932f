use Rattle.std.proofs.Common.{inl, List, length, Ok, Err, ap, refl}
use Rattle.vlog_tokens.specs.Tokens.{AreTokens}
use Rattle.vlog_tokens.specs.Toks.{Tok, toks}
use Rattle.vlog_lexer.specs.Faults.{FailsAt}
use Rattle.vlog_lexer.specs.declared.fault.LexFault.{LexFault}
use Rattle.vlog_lexer.proofs.PieceLemmas.{stands_last, stands_next, stands_nowhere}
use Rattle.vlog_lexer.proofs.UniqueLemmas.{list_or_fault, one_list, one_place}
use Rattle.vlog_lexer.proofs.lexer.lex.Goals as goal

pub returns-in_default-clause-whole : goal.returns-in_default-clause-whole
returns-in_default-clause-whole c = λ tokens a.
    let fails : FailsAt c.args.src.now c.fault_of.result =
    stands_nowhere c.args.src.now c.loop-at.at c.row_at-row.result c.fault_of.result (toks c.loop-at.kept.list.items) c.loop-at.kept.opened c.loop-at.invariant c.loop-at-test.true c.row_at-row.ensures c.in_default.ensures.none c.fault_of.ensures in
    absurd (list_or_fault c.args.src.now tokens c.fault_of.result a fails)

pub returns-in_default-clause-fails : goal.returns-in_default-clause-fails
returns-in_default-clause-fails c = λ fault f.
    let fails : FailsAt c.args.src.now c.fault_of.result =
    stands_nowhere c.args.src.now c.loop-at.at c.row_at-row.result c.fault_of.result (toks c.loop-at.kept.list.items) c.loop-at.kept.opened c.loop-at.invariant c.loop-at-test.true c.row_at-row.ensures c.in_default.ensures.none c.fault_of.ensures in
    inl (ap (λ (e : LexFault). Err e) (one_place c.args.src.now c.fault_of.result fault fails f))

pub loop-at-preserved : goal.loop-at-preserved
loop-at-preserved c =
    stands_next c.args.src.now c.loop-at.at c.in-Some.end c.row_at-row.result _ (toks c.loop-at.kept.list.items) (toks c.take.new.self.list.items) c.loop-at.kept.opened c.take.new.self.opened
    c.loop-at.invariant c.row_at-row.ensures refl c.in-Some.ensures.within.0 c.in-Some.ensures.within.1 c.in-Some.ensures.found c.in_ok-take.ensures.taken

pub returns-clause-spelled : goal.returns-clause-spelled
returns-clause-spelled c = (stands_last c.args.src.now c.loop-at.at (toks c.loop-at.kept.list.items) c.loop-at.kept.opened c.loop-at.invariant c.loop-at-test.false, refl)

pub returns-clause-whole : goal.returns-clause-whole
returns-clause-whole c = λ tokens a.
    let all : AreTokens c.args.src.now (toks c.loop-at.kept.list.items) = stands_last c.args.src.now c.loop-at.at (toks c.loop-at.kept.list.items) c.loop-at.kept.opened c.loop-at.invariant c.loop-at-test.false in
    inl (ap (λ (ts : List Tok). Ok (record { list = ts; source_len = length c.args.src.now })) (one_list c.args.src.now (toks c.loop-at.kept.list.items) tokens all a))

pub returns-clause-fails : goal.returns-clause-fails
returns-clause-fails c = λ fault f.
    let all : AreTokens c.args.src.now (toks c.loop-at.kept.list.items) = stands_last c.args.src.now c.loop-at.at (toks c.loop-at.kept.list.items) c.loop-at.kept.opened c.loop-at.invariant c.loop-at-test.false in
    absurd (list_or_fault c.args.src.now (toks c.loop-at.kept.list.items) fault all f)
