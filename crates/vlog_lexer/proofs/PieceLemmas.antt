-- Where the reader stands: the source is pieces up to this place, and these of their tokens are left.
use Rattle.std.proofs.Common.{◌≡◌, ◌<◌, ◌≤◌, ℕ, List, [], ◌∷◌, ◌++◌, length, refl, sym, ◌∙◌, ap, subst, arith, append_assoc, Option}
use Rattle.std.specs.List.{slice_range}
use Rattle.std.proofs.lemmas.List.{append-nil}
use Rattle.vlog_tokens.specs.Forms.{HasForm, IsPiece}
use Rattle.vlog_tokens.specs.Rows.{row_at}
use Rattle.vlog_tokens.specs.Toks.{Tok}
use Rattle.vlog_tokens.specs.Tokens.{ArePieces, AreTokens, token_of, tokens_of}
use Rattle.vlog_tokens.specs.declared.row.Row.{Row}
use Rattle.vlog_lexer.specs.Leaves.{Leaves}
use Rattle.vlog_lexer.specs.Faults.{FailsAt, fault_of}
use Rattle.vlog_lexer.specs.declared.fault.LexFault.{LexFault}
use Rattle.vlog_lexer.proofs.AttributeLemmas.{leaves_all}

pub record Stands (source : List ℕ) (at : ℕ) (left : List Tok) (opened : Option ℕ) : Type 0 where
  pub ends : List ℕ
  pub within : at ≤ length source
  pub pieces : ArePieces source 0 ends at
  pub leaves : Leaves (tokens_of source 0 ends) left opened

pub stands_first : (source : List ℕ) (left : List Tok) (opened : Option ℕ) → Leaves [] left opened → Stands source 0 left opened
stands_first source left opened l = record { ends = []; within = omega arith; pieces = refl; leaves = l }

pieces_push : (s : List ℕ) (f : ℕ) (ends : List ℕ) (mid to : ℕ) → ArePieces s f ends mid → IsPiece s mid to → ArePieces s f (ends ++ (to ∷ [])) to
pieces_push s f [] mid to p q = (subst (λ (n : ℕ). IsPiece s n to) (sym p) q, refl)
pieces_push s f (x ∷ ends) mid to p q = (p.0, pieces_push s x ends mid to p.1 q)

tokens_push : (s : List ℕ) (f : ℕ) (ends : List ℕ) (mid to : ℕ) → ArePieces s f ends mid
    → tokens_of s f (ends ++ (to ∷ [])) ≡ tokens_of s f ends ++ token_of (row_at s mid) mid (slice_range s mid to)
tokens_push s f [] mid to p =
    append-nil (token_of (row_at s f) f (slice_range s f to)) ∙ ap (λ (n : ℕ). token_of (row_at s n) n (slice_range s n to)) p
tokens_push s f (x ∷ ends) mid to p =
    ap (λ l. token_of (row_at s f) f (slice_range s f x) ++ l) (tokens_push s x ends mid to p.1)
    ∙ sym (append_assoc (token_of (row_at s f) f (slice_range s f x)) (tokens_of s x ends) (token_of (row_at s mid) mid (slice_range s mid to)))

pub stands_next : (source : List ℕ) (at to : ℕ) (row : Row) (text : List ℕ) (left after : List Tok) (opened opened' : Option ℕ) → Stands source at left opened
    → row ≡ row_at source at → text ≡ slice_range source at to → at < to → to ≤ length source → HasForm row source at to
    → ((raw : List Tok) → Leaves raw left opened → Leaves (raw ++ token_of row at text) after opened') → Stands source to after opened'
stands_next source at to row text left after opened opened' s e t some within form step =
    let piece : IsPiece source at to = record { some = some; within = within; form = subst (λ (r : Row). HasForm r source at to) e form } in
    let tokens : tokens_of source 0 s.ends ++ token_of row at text ≡ tokens_of source 0 (s.ends ++ (to ∷ [])) =
    ap (λ (r : Row). tokens_of source 0 s.ends ++ token_of r at text) e ∙ ap (λ (l : List ℕ). tokens_of source 0 s.ends ++ token_of (row_at source at) at l) t
    ∙ sym (tokens_push source 0 s.ends at to s.pieces) in
    record {
      ends = s.ends ++ (to ∷ []);
      within = within;
      pieces = pieces_push source 0 s.ends at to s.pieces piece;
      leaves = subst (λ (l : List Tok). Leaves l after opened') tokens (step (tokens_of source 0 s.ends) s.leaves);
    }

pub stands_last : (source : List ℕ) (at : ℕ) (left : List Tok) (opened : Option ℕ) → Stands source at left opened → length source ≤ at → AreTokens source left
stands_last source at left opened s h =
    let e : at ≡ length source = omega (arith, s.within) in
    record {
      ends = s.ends;
      pieces = subst (λ (n : ℕ). ArePieces source 0 s.ends n) e s.pieces;
      kept = leaves_all (tokens_of source 0 s.ends) left opened s.leaves;
    }

pub stands_nowhere : (source : List ℕ) (at : ℕ) (row : Row) (fault : LexFault) (left : List Tok) (opened : Option ℕ) → Stands source at left opened → at < length source
    → row ≡ row_at source at → ((to : ℕ) → HasForm row source at to → ⊥) → fault ≡ fault_of row at → FailsAt source fault
stands_nowhere source at row fault left opened s h e none is = record {
  at = at;
  ends = s.ends;
  pieces = s.pieces;
  within = h;
  none = λ to p. none to (subst (λ (r : Row). HasForm r source at to) (sym e) p.form);
  is = is ∙ ap (λ (r : Row). fault_of r at) e;
}
