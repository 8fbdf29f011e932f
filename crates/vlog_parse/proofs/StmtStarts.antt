-- How statements begin.
use Rattle.std.proofs.Common.{◌≡◌, ℕ, zero, suc, Bool, false, List, [], ◌∷◌, ◌++◌, codes, bytes_eq}
use Rattle.vlog_tokens.specs.Toks.{Tok}
use Rattle.vlog_tree.specs.declared.stmt.Stmt.{Stmt}
use Rattle.vlog_tree.specs.Spelling.Stmts.{IsStmt, Statement}
use Rattle.vlog_parse.proofs.LeftsComplete.{left_begins, left_some}
use Rattle.vlog_parse.proofs.Starts.{Starts, starts_longer, starts_with}
use Rattle.vlog_parse.proofs.StmtsSound.{Dangles}

-- a word or mark with which no statement begins
pub record StartsNone (first : ℕ) (text : List ℕ) : Type 0 where
  pub no_semicolon : bytes_eq (codes ";") (first ∷ text) ≡ false
  pub no_begin : bytes_eq (codes "begin") (first ∷ text) ≡ false
  pub no_if : bytes_eq (codes "if") (first ∷ text) ≡ false
  pub no_brace : bytes_eq (codes "{") (first ∷ text) ≡ false

module _ (first : ℕ) (text : List ℕ) (none : StartsNone first text) where
  abbrev Other : List ℕ
  Other = first ∷ text

  statement_starts : (Inner : Dangles) → {dangling : Bool} {ts : List Tok} {s : Stmt} → Statement Inner dangling ts s → Starts Other ts
  statement_starts Inner (Statement.empty semi h) = starts_with (codes ";") Other semi [] h none.no_semicolon
  statement_starts Inner (Statement.block begin last ts inner h s h1) = starts_with (codes "begin") Other begin (ts ++ last ∷ []) h none.no_begin
  statement_starts Inner (Statement.only word opening closing condition ts cond inner h h1 s h2 i) = starts_with (codes "if") Other word (opening ∷ (condition ++ closing ∷ ts)) h none.no_if
  statement_starts Inner (Statement.both word opening closing other condition ts us cond inner second dangling h h1 s h2 i h3 j) =
      starts_with (codes "if") Other word (opening ∷ (condition ++ closing ∷ (ts ++ other ∷ us))) h none.no_if
  statement_starts Inner (Statement.set arrow semi front delay back target right s h d e free h1) =
      starts_longer Other front (arrow ∷ (delay ++ (back ++ semi ∷ []))) (left_some front target s, λ rest. left_begins first text none.no_brace front target s rest)

  pub stmt_starts : (n : ℕ) (dangling : Bool) (ts : List Tok) (s : Stmt) → IsStmt n dangling ts s → Starts Other ts
  stmt_starts zero dangling ts s h = absurd h
  stmt_starts (suc n) dangling ts s h = statement_starts (IsStmt n) h
