use Rattle.std.proofs.Common.{◌≡◌, ◌++◌, ◌∷◌, [], List, None, ap, sym, subst, ◌∙◌, take, Option, ℕ}
use Rattle.std.proofs.lemmas.List.{map_push, take-map}
use Rattle.vlog_tokens.specs.Toks.{Tok, tok_of, toks}
use Rattle.vlog_lexer.specs.Leaves.{Leaves}
use Rattle.vlog_lexer.proofs.AttributeLemmas.{leaves_close, leaves_more}
use Rattle.vlog_lexer.proofs.kept.Kept.push.Goals as goal

pub returns-then-is_close-clause-taken : goal.returns-then-is_close-clause-taken
returns-then-is_close-clause-taken c = λ raw l.
    let left : take c.in-Some.first (toks c.args.self.now.list.items) ≡ toks c.truncate.new.self.items = take-map tok_of c.in-Some.first c.args.self.now.list.items ∙ sym (ap toks c.truncate.ensures.items) in
    subst (λ (ts : List Tok). Leaves (raw ++ (tok_of c.args.token ∷ [])) ts None) left
    (leaves_close raw (toks c.args.self.now.list.items) c.in-Some.first (tok_of c.args.token) (sym c.is_close.ensures ∙ c.if-is_close.true)
    (subst (λ (o : Option ℕ). Leaves raw (toks c.args.self.now.list.items) o) c.in-Some.is l))

pub returns-else-is_open-clause-taken : goal.returns-else-is_open-clause-taken
returns-else-is_open-clause-taken c = λ raw l.
    let left : toks c.push-in-None.new.self.items ≡ toks c.args.self.now.list.items ++ (tok_of c.args.token ∷ []) =
    ap toks c.in_ok-push-in-None.ensures.items ∙ map_push tok_of c.args.self.now.list.items c.args.token in
    let more : Leaves (raw ++ (tok_of c.args.token ∷ [])) (toks c.args.self.now.list.items ++ (tok_of c.args.token ∷ [])) None =
    leaves_more raw (toks c.args.self.now.list.items) (tok_of c.args.token) (sym c.is_open.ensures ∙ c.if-is_open.false)
    (subst (λ (o : Option ℕ). Leaves raw (toks c.args.self.now.list.items) o) c.in-None.is l) in
    subst (λ (o : Option ℕ). Leaves (raw ++ (tok_of c.args.token ∷ [])) (toks c.push-in-None.new.self.items) o) (sym c.in-None.is)
    (subst (λ (ts : List Tok). Leaves (raw ++ (tok_of c.args.token ∷ [])) ts None) (sym left) more)
