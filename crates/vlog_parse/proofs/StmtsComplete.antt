-- Every statement is read, whatever follows it but an `else` to which it is open.
use Rattle.std.proofs.Common.{◌≡◌, ◌≤◌, ◌<◌, ℕ, zero, suc, Bool, true, false, List, [], ◌∷◌, ◌++◌, length, codes, Some, None, Ok, refl, ap, ◌∙◌, append_assoc, length-append, arith}
use Rattle.vlog_tokens.specs.Toks.{Tok}
use Rattle.vlog_tree.specs.declared.expr.Expr.{Expr}
use Rattle.vlog_tree.specs.declared.left.Left.{Left}
use Rattle.vlog_tree.specs.declared.stmt.Stmt.{Stmt}
use Rattle.vlog_tree.specs.declared.stmt.Stmt.TheVariants as tree
use Rattle.vlog_tree.specs.Spelling.Exprs.{SpellsExpr}
use Rattle.vlog_tree.specs.Spelling.Lefts.{SpellsLeft}
use Rattle.vlog_tree.specs.Spelling.Parts.{Is, IsAnyDelay, Many, place_of}
use Rattle.vlog_tree.specs.Spelling.Stmts.{BeginsBased, Either, IsParted, IsStmt, SpellsStmt, Statement}
use Rattle.vlog_parse.specs.Exprs.{expr}
use Rattle.vlog_parse.specs.Reads.{Parser, and_then, sees}
use Rattle.vlog_parse.specs.Stmts.{after_else, block, choice, empty, otherwise, set, statement, stmt}
use Rattle.vlog_parse.proofs.DelaysComplete.{delay_complete}
use Rattle.vlog_parse.proofs.Enclosures.{inside_fits}
use Rattle.vlog_parse.proofs.ExprStarts.{IsForeign, expr_starts}
use Rattle.vlog_parse.proofs.Follows.{EndsExpr, mark_ends}
use Rattle.vlog_parse.proofs.LeftFollows.{left_ends}
use Rattle.vlog_parse.proofs.LeftsComplete.{left_begins, left_complete, left_place}
use Rattle.vlog_parse.proofs.Lists.{repeated_complete}
use Rattle.vlog_parse.proofs.Rules.{Complete, expects, sees_is, sees_other}
use Rattle.vlog_parse.proofs.Starts.{Starts}
use Rattle.vlog_parse.proofs.StmtStarts.{stmt_starts}
use Rattle.vlog_parse.proofs.StmtsSound.{Dangles}

-- What no more tokens than this spell is read, where no `else` follows to which it is open.
abbrev pub CompleteStmt : ℕ → Parser Stmt → Dangles → Type 0
CompleteStmt size rule Spelled = (dangling : Bool) (front : List Tok) (s : Stmt) (rest : List Tok) → Spelled dangling front s → length front ≤ size → (dangling ≡ true → sees (codes "else") rest ≡ false)
    → rule (front ++ rest) ≡ Ok (s, rest)

else_starts : (n : ℕ) (dangling : Bool) (ts : List Tok) (s : Stmt) → IsStmt n dangling ts s → Starts (codes "else") ts
else_starts = stmt_starts _ _ (record { no_semicolon = refl; no_begin = refl; no_if = refl; no_brace = refl })

end_starts : (n : ℕ) (dangling : Bool) (ts : List Tok) (s : Stmt) → IsStmt n dangling ts s → Starts (codes "end") ts
end_starts = stmt_starts _ _ (record { no_semicolon = refl; no_begin = refl; no_if = refl; no_brace = refl })

hash_is_foreign : IsForeign (codes "#")
hash_is_foreign = record { no_name = refl; no_brace = refl; no_parenthesis = refl; no_operator = refl }

-- ---- a delay before an expression

begins_front : (front rest : List Tok) → 0 < length front → BeginsBased (front ++ rest) → BeginsBased front
begins_front [] rest some h = absurd (omega arith)
begins_front (tok ∷ front) rest some h = h

-- ---- lengths of parts

set_fits : (front delay back : List Tok) (arrow semi : Tok) (size : ℕ) → length (front ++ arrow ∷ (delay ++ (back ++ semi ∷ []))) ≤ suc size → (length front ≤ size) × (length back ≤ size)
set_fits front delay back arrow semi size fits = omega (arith, length-append {A = Tok})

if_fits : (condition tail : List Tok) (word opening closing : Tok) (size : ℕ) → length (word ∷ opening ∷ (condition ++ closing ∷ tail)) ≤ suc size → (length condition ≤ size) × (length tail ≤ size)
if_fits condition tail word opening closing size fits = omega (arith, length-append {A = Tok})

else_fits : (front back : List Tok) (word : Tok) (size : ℕ) → length (front ++ word ∷ back) ≤ size → (length front ≤ size) × (length back ≤ size)
else_fits front back word size fits = omega (arith, length-append {A = Tok})

module _ (expr_complete : (depth : ℕ) → Complete EndsExpr depth (expr depth) SpellsExpr) where
  -- ---- one level

  module _ (inner : Parser Stmt) (Inner : Dangles) (depth : ℕ) where
    set_reads : (arrow semi : Tok) (front delay back : List Tok) (target : Left) (right : Expr) (rest : List Tok) → SpellsLeft front target → Is (codes "<=") arrow → IsAnyDelay delay → SpellsExpr back right
        → IsParted delay back → Is (codes ";") semi → length front ≤ depth → length back ≤ depth
        → set depth (front ++ arrow ∷ (delay ++ (back ++ semi ∷ rest))) ≡ Ok (tree.Set (place_of front) target right, rest)
    unfolding set
    set_reads arrow semi front delay back target right rest s h d e free h1 fits fits_back =
        let (some, unseen) = expr_starts (codes "#") hash_is_foreign back right e in
        let delays = delay_complete delay (back ++ semi ∷ rest) d (unseen (semi ∷ rest)) (λ ends begins. free ends (begins_front back (semi ∷ rest) some begins)) in
        rw (
          left_complete depth front target (arrow ∷ (delay ++ (back ++ semi ∷ rest))) s fits (left_ends (codes "<=") arrow (delay ++ (back ++ semi ∷ rest)) h refl),
          left_place front target s (arrow ∷ (delay ++ (back ++ semi ∷ rest))),
          expects (codes "<=") arrow (delay ++ (back ++ semi ∷ rest)) h,
          delays,
          expr_complete depth back right (semi ∷ rest) e fits_back (mark_ends (codes ";") semi rest h1 refl),
          expects (codes ";") semi rest h1,
        ) refl

    -- up to the statement behind the condition
    head_reads : (word opening closing : Tok) (condition : List Tok) (cond : Expr) (tail : List Tok) → Is (codes "if") word → Is (codes "(") opening → SpellsExpr condition cond → Is (codes ")") closing → length condition ≤ depth
        → statement inner depth (word ∷ opening ∷ (condition ++ closing ∷ tail)) ≡ and_then (inner tail) (λ first ts. and_then (otherwise inner ts) (λ other us. Ok (tree.If cond first other, us)))
    unfolding statement choice
    head_reads word opening closing condition cond tail h h1 e h2 fits =
        rw (
          sees_other (codes "if") (codes ";") word (opening ∷ (condition ++ closing ∷ tail)) h refl,
          sees_other (codes "if") (codes "begin") word (opening ∷ (condition ++ closing ∷ tail)) h refl,
          sees_is (codes "if") word (opening ∷ (condition ++ closing ∷ tail)) h,
          expects (codes "if") word (opening ∷ (condition ++ closing ∷ tail)) h,
          expects (codes "(") opening (condition ++ closing ∷ tail) h1,
          expr_complete depth condition cond (closing ∷ tail) e fits (mark_ends (codes ")") closing tail h2 refl),
          expects (codes ")") closing tail h2,
        ) refl

    only_reads : (cond : Expr) (first : Stmt) (ts rest : List Tok) → inner ts ≡ Ok (first, rest) → sees (codes "else") rest ≡ false
        → and_then (inner ts) (λ x us. and_then (otherwise inner us) (λ other vs. Ok (tree.If cond x other, vs))) ≡ Ok (tree.If cond first None, rest)
    unfolding otherwise
    only_reads cond first ts rest read unseen = rw (read, unseen) refl

    both_reads : (cond : Expr) (first second : Stmt) (ts us rest : List Tok) (word : Tok) → inner ts ≡ Ok (first, word ∷ us) → Is (codes "else") word → inner us ≡ Ok (second, rest)
        → and_then (inner ts) (λ x us. and_then (otherwise inner us) (λ other vs. Ok (tree.If cond x other, vs))) ≡ Ok (tree.If cond first (Some second), rest)
    unfolding otherwise after_else
    both_reads cond first second ts us rest word read h then = rw (read, sees_is (codes "else") word us h, expects (codes "else") word us h, then) refl

    -- what may stand before the next statement of a block
    abbrev NoElse : List Tok → Type 0
    NoElse rest = sees (codes "else") rest ≡ false

    block_reads : CompleteStmt depth inner Inner → ((dangling : Bool) (ts : List Tok) (s : Stmt) → Inner dangling ts s → Starts (codes "end") ts × Starts (codes "else") ts)
        → (begin last : Tok) (ts : List Tok) (stmts : List Stmt) (rest : List Tok) → Is (codes "begin") begin → Many (Either Inner) ts stmts → Is (codes "end") last → length ts ≤ depth
        → statement inner depth (begin ∷ (ts ++ last ∷ rest)) ≡ Ok (tree.Block stmts, rest)
    unfolding statement block
    block_reads complete starts begin last ts stmts rest h many h1 fits =
        let read = repeated_complete inner (Either Inner) (codes "end") NoElse depth (λ front s us (dangling, i) small free. complete dangling front s us i small (λ _. free))
        (λ front s us (dangling, i). let (ends, elses) = starts dangling front s i in (ends.1 us, ends.0, elses.1 us))
        ts stmts (last ∷ rest) many fits (sees_other (codes "end") (codes "else") last rest h1 refl, sees_is (codes "end") last rest h1) in
        rw (
          sees_other (codes "begin") (codes ";") begin (ts ++ last ∷ rest) h refl,
          sees_is (codes "begin") begin (ts ++ last ∷ rest) h,
          expects (codes "begin") begin (ts ++ last ∷ rest) h,
          read,
          expects (codes "end") last rest h1,
        ) refl

    empty_reads : (semi : Tok) (rest : List Tok) → Is (codes ";") semi → statement inner depth (semi ∷ rest) ≡ Ok (tree.Empty, rest)
    unfolding statement empty
    empty_reads semi rest h = rw (sees_is (codes ";") semi rest h, expects (codes ";") semi rest h) refl

    set_next : (ts : List Tok) → sees (codes ";") ts ≡ false → sees (codes "begin") ts ≡ false → sees (codes "if") ts ≡ false → statement inner depth ts ≡ set depth ts
    unfolding statement
    set_next ts h h1 h2 = rw (h, h1, h2) refl

    set_tokens : (front delay back : List Tok) (arrow semi : Tok) (rest : List Tok) → (front ++ arrow ∷ (delay ++ (back ++ semi ∷ []))) ++ rest ≡ front ++ arrow ∷ (delay ++ (back ++ semi ∷ rest))
    set_tokens front delay back arrow semi rest = rw (append_assoc front (arrow ∷ (delay ++ (back ++ semi ∷ []))) rest, append_assoc delay (back ++ semi ∷ []) rest, append_assoc back (semi ∷ []) rest) refl

    statement_complete : CompleteStmt depth inner Inner → ((dangling : Bool) (ts : List Tok) (s : Stmt) → Inner dangling ts s → Starts (codes "end") ts × Starts (codes "else") ts)
        → {dangling : Bool} {front : List Tok} {s : Stmt} → Statement Inner dangling front s → (rest : List Tok) → length front ≤ suc depth → (dangling ≡ true → sees (codes "else") rest ≡ false)
        → statement inner depth (front ++ rest) ≡ Ok (s, rest)
    statement_complete complete starts (Statement.empty semi h) rest fits free = empty_reads semi rest h
    statement_complete complete starts (Statement.block begin last ts stmts h many h1) rest fits free =
        ap (λ (us : List Tok). statement inner depth (begin ∷ us)) (append_assoc ts (last ∷ []) rest) ∙ block_reads complete starts begin last ts stmts rest h many h1 (inside_fits begin last ts depth fits)
    statement_complete complete starts (Statement.only word opening closing condition ts cond first h h1 e h2 (dangling, i)) rest fits free =
        let (small, small_tail) = if_fits condition ts word opening closing depth fits in
        ap (λ (us : List Tok). statement inner depth (word ∷ opening ∷ us)) (append_assoc condition (closing ∷ ts) rest)
        ∙ head_reads word opening closing condition cond (ts ++ rest) h h1 e h2 small
        ∙ only_reads cond first (ts ++ rest) rest (complete dangling ts first rest i small_tail (λ _. free refl)) (free refl)
    statement_complete complete starts (Statement.both word opening closing other condition ts us cond first second dangling h h1 e h2 i h3 j) rest fits free =
        let (small, small_tail) = if_fits condition (ts ++ other ∷ us) word opening closing depth fits in
        let (small_first, small_second) = else_fits ts us other depth small_tail in
        ap (λ (xs : List Tok). statement inner depth (word ∷ opening ∷ xs)) (append_assoc condition (closing ∷ (ts ++ other ∷ us)) rest ∙ ap (λ (xs : List Tok). condition ++ closing ∷ xs) (append_assoc ts (other ∷ us) rest))
        ∙ head_reads word opening closing condition cond (ts ++ other ∷ (us ++ rest)) h h1 e h2 small
        ∙ both_reads cond first second (ts ++ other ∷ (us ++ rest)) (us ++ rest) rest other (complete false ts first (other ∷ (us ++ rest)) i small_first (λ open_if. cc)) h3 (complete dangling us second rest j small_second free)
    statement_complete complete starts (Statement.set arrow semi front delay back target right s h d e parted h1) rest fits free =
        let (small, small_back) = set_fits front delay back arrow semi depth fits in
        let us : List Tok = arrow ∷ (delay ++ (back ++ semi ∷ rest)) in
        ap (λ (xs : List Tok). statement inner depth xs) (set_tokens front delay back arrow semi rest)
        ∙ set_next (front ++ us) (left_begins _ _ refl front target s us) (left_begins _ _ refl front target s us) (left_begins _ _ refl front target s us)
        ∙ set_reads arrow semi front delay back target right rest s h d e parted h1 small small_back

  -- ---- statements

  is_stmt_complete : (depth n : ℕ) → CompleteStmt depth (stmt depth) (IsStmt n)
  unfolding stmt
  is_stmt_complete depth zero dangling front s rest h fits free = absurd h
  is_stmt_complete zero (suc n) dangling front s rest h fits free = let (some, unseen) = end_starts (suc n) dangling front s h in absurd (omega arith)
  is_stmt_complete (suc depth) (suc n) dangling front s rest h fits free =
      statement_complete (stmt depth) (IsStmt n) depth (is_stmt_complete depth n) (λ dangles ts x i. (end_starts n dangles ts x i, else_starts n dangles ts x i)) h rest fits free

  -- A statement is read, whatever follows it, unless it is open to an `else` and one follows.
  pub stmt_complete : (depth n : ℕ) → CompleteStmt depth (stmt depth) (IsStmt n)
  stmt_complete = is_stmt_complete

  -- A statement after which no `else` follows.
  pub plain_stmt_complete : (depth : ℕ) → Complete (λ rest. sees (codes "else") rest ≡ false) depth (stmt depth) SpellsStmt
  plain_stmt_complete depth front s rest (n, dangling, h) fits free = stmt_complete depth n dangling front s rest h fits (λ _. free)
