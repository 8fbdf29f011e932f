-- The tokens of a source stand in it in order.
use Rattle.std.proofs.Common.{◌≡◌, ◌<◌, ◌≤◌, inl, inr, ℕ, ◌+◌, ◌-◌, Bool, true, false, ◌&&◌, List, [], ◌∷◌, ◌++◌, length, drop, sym, ◌∙◌, ap, subst, arith}
use Rattle.std.specs.List.{list_any, slice_range}
use Rattle.std.proofs.lemmas.Bool.{cases_Bool}
use Rattle.std.proofs.lemmas.List.{length-drop, length-take}
use Rattle.vlog_tokens.specs.Attributes.{closes, opens, stay}
use Rattle.vlog_tokens.specs.Rows.{row_at}
use Rattle.vlog_tokens.specs.Toks.{Tok}
use Rattle.vlog_tokens.specs.Tokens.{AreInOrder, ArePieces, IsOrdered, token_of, tokens_of}
use Rattle.vlog_tokens.specs.declared.row.Row.{Row}
use Rattle.vlog_tokens.specs.declared.row.Row.TheVariants.{Space, LineComment, BlockComment, Directive, Token}

earlier : (s : List ℕ) (from mid : ℕ) (ts : List Tok) → from ≤ mid → AreInOrder s mid ts → AreInOrder s from ts
earlier s from mid [] h p = tt
earlier s from mid (t ∷ ts) h (after, some, within, text, more) = (omega arith, some, within, text, more)

-- Fewer tokens stand in order too.
stay_in_order : (inside : Bool) (s : List ℕ) (from : ℕ) (ts : List Tok) → AreInOrder s from ts → AreInOrder s from (stay inside ts)
stay_in_order inside s from [] p = tt
stay_in_order false s from (t ∷ ts) (after, some, within, text, more) =
    let rest : ℕ = t.at + length t.text in
    let skipped : AreInOrder s from (stay true ts) = earlier s from rest (stay true ts) (omega arith) (stay_in_order true s rest ts more) in
    let kept : AreInOrder s from (t ∷ stay false ts) = (after, some, within, text, stay_in_order false s rest ts more) in
    elim (cases_Bool (opens t && list_any closes ts)) [
      | inl e ↦ rw e skipped
      | inr e ↦ rw e kept
    ]
stay_in_order true s from (t ∷ ts) (after, some, within, text, more) =
    let rest : ℕ = t.at + length t.text in
    elim (cases_Bool (closes t)) [
      | inl e ↦ rw e (earlier s from rest (stay false ts) (omega arith) (stay_in_order false s rest ts more))
      | inr e ↦ rw e (earlier s from rest (stay true ts) (omega arith) (stay_in_order true s rest ts more))
    ]

token_in_order : (row : Row) (s : List ℕ) (from mid : ℕ) (ts : List Tok) → from < mid → mid ≤ length s → AreInOrder s mid ts
    → AreInOrder s from (token_of row from (slice_range s from mid) ++ ts)
token_in_order Space s from mid ts h within p = earlier s from mid ts (omega arith) p
token_in_order LineComment s from mid ts h within p = earlier s from mid ts (omega arith) p
token_in_order BlockComment s from mid ts h within p = earlier s from mid ts (omega arith) p
token_in_order Directive s from mid ts h within p = earlier s from mid ts (omega arith) p
token_in_order (Token kind) s from mid ts h within p =
    let size : length (slice_range s from mid) ≡ mid - from = length-take (mid - from) (drop from s) ∙ omega (arith, length-drop from s) in
    let place : from + length (slice_range s from mid) ≡ mid = omega arith in
    (omega arith, omega arith, omega arith, ap (λ (n : ℕ). slice_range s from n) (sym place), subst (λ (n : ℕ). AreInOrder s n ts) (sym place) p)

pieces_in_order : (s : List ℕ) (from : ℕ) (ends : List ℕ) (to : ℕ) → ArePieces s from ends to → AreInOrder s from (tokens_of s from ends)
pieces_in_order s from [] to p = tt
pieces_in_order s from (mid ∷ ends) to p = token_in_order (row_at s from) s from mid (tokens_of s mid ends) p.0.some p.0.within (pieces_in_order s mid ends to p.1)

pub in_order : IsOrdered
in_order s ts p =
    subst (λ (us : List Tok). AreInOrder s 0 us) (sym p.kept) (stay_in_order false s 0 (tokens_of s 0 p.ends) (pieces_in_order s 0 p.ends (length s) p.pieces))
