-- At most one piece stands at a place, and so a source has one list of tokens or one fault at most.
use Rattle.std.proofs.Common.{◌≡◌, ◌<◌, ◌≤◌, inl, inr, ℕ, ◌+◌, List, [], ◌∷◌, length, refl, sym, ◌∙◌, ap, subst, arith}
use Rattle.std.proofs.lemmas.Bool.{false≢true, cases_lt}
use Rattle.vlog_tokens.specs.Attributes.{without_attributes}
use Rattle.vlog_tokens.specs.Comments.{IsFirstClose}
use Rattle.vlog_tokens.specs.Forms.{HasForm, IsBased, IsDirective, IsMark, IsPiece, IsToken, base_at}
use Rattle.vlog_tokens.specs.Rows.{row_at}
use Rattle.vlog_tokens.specs.Runs.{IsRun}
use Rattle.vlog_tokens.specs.Strings.{IsString}
use Rattle.vlog_tokens.specs.Tokens.{ArePieces, IsOneTokenList, tokens_of}
use Rattle.vlog_tokens.specs.declared.class.Class.{Class}
use Rattle.vlog_tokens.specs.declared.class.Class.TheVariants.{SpaceByte, WordByte, LineByte, NameByte, DecimalByte}
use Rattle.vlog_tokens.specs.declared.row.Row.{Row}
use Rattle.vlog_tokens.specs.declared.row.Row.TheVariants.{Space, LineComment, BlockComment, Directive, Token}
use Rattle.vlog_tokens.specs.declared.token.TokenKind.{TokenKind}
use Rattle.vlog_tokens.specs.declared.token.TokenKind.TheVariants.{Word, Escaped, System, Decimal, Based, Text, Mark}
use Rattle.vlog_lexer.specs.Faults.{IsOneFault, IsTokensOrFault, fault_of}

longer_run : (c : Class) (s : List ℕ) (f a b : ℕ) → IsRun c s f a → IsRun c s f b → a < b → ⊥
longer_run c s f a b p q h =
    let inside : a < length s = omega (arith, q.within) in
    false≢true (sym (p.ends inside) ∙ q.each a p.ordered h)

pub one_run : (c : Class) (s : List ℕ) (f a b : ℕ) → IsRun c s f a → IsRun c s f b → a ≡ b
one_run c s f a b p q = elim (cases_lt a b) [
  | inl h ↦ absurd (longer_run c s f a b p q h)
  | inr h ↦ elim (cases_lt b a) [
    | inl k ↦ absurd (longer_run c s f b a q p k)
    | inr k ↦ omega arith
  ]
]

one_close : (s : List ℕ) (f a b : ℕ) → IsFirstClose s f a → IsFirstClose s f b → a ≡ b
one_close s f a b p q = elim (cases_lt p.at q.at) [
  | inl h ↦ absurd (q.first p.at p.ordered h p.stands)
  | inr h ↦ elim (cases_lt q.at p.at) [
    | inl k ↦ absurd (p.first q.at q.ordered k q.stands)
    | inr k ↦ omega (arith, p.ends, q.ends)
  ]
]

one_string : (s : List ℕ) (f a b : ℕ) → IsString s f a → IsString s f b → a ≡ b
one_string s f a b p q = elim (cases_lt p.size q.size) [
  | inl h ↦ absurd (false≢true (sym (q.first p.size h) ∙ p.quote))
  | inr h ↦ elim (cases_lt q.size p.size) [
    | inl k ↦ absurd (false≢true (sym (p.first q.size k) ∙ q.quote))
    | inr k ↦ omega (arith, p.ends, q.ends)
  ]
]

one_directive : (s : List ℕ) (f a b : ℕ) → IsDirective s f a → IsDirective s f b → a ≡ b
one_directive s f a b p q =
    let e : p.word_end ≡ q.word_end = one_run WordByte s (f + 1) p.word_end q.word_end p.word q.word in
    one_run LineByte s q.word_end a b (subst (λ (n : ℕ). IsRun LineByte s n a) e p.line) q.line

one_based : (s : List ℕ) (f a b : ℕ) → IsBased s f a → IsBased s f b → a ≡ b
one_based s f a b p q =
    let d : p.digits ≡ q.digits = cc (p.base, q.base) in
    let e : p.first ≡ q.first = one_run SpaceByte s (base_at s f + 1) p.first q.first p.space q.space in
    one_run q.digits s q.first a b (subst (λ (k : Class). IsRun k s q.first a) d (subst (λ (n : ℕ). IsRun p.digits s n a) e p.run)) q.run

one_mark : (s : List ℕ) (f a b : ℕ) → IsMark s f a → IsMark s f b → a ≡ b
one_mark s f a b p q =
    let h : b ≤ a = p.longest b q.within q.known in
    let k : a ≤ b = q.longest a p.within p.known in
    omega arith

one_token : (kind : TokenKind) (s : List ℕ) (f a b : ℕ) → IsToken kind s f a → IsToken kind s f b → a ≡ b
one_token Word s f a b p q = one_run WordByte s (f + 1) a b p q
one_token Escaped s f a b p q = one_run NameByte s (f + 1) a b p.name q.name
one_token System s f a b p q = one_run WordByte s (f + 1) a b p.name q.name
one_token Decimal s f a b p q = one_run DecimalByte s (f + 1) a b p q
one_token Based s f a b p q = one_based s f a b p q
one_token Text s f a b p q = one_string s (f + 1) a b p q
one_token Mark s f a b p q = one_mark s f a b p q

one_form : (row : Row) (s : List ℕ) (f a b : ℕ) → HasForm row s f a → HasForm row s f b → a ≡ b
one_form Space s f a b p q = p ∙ sym q
one_form LineComment s f a b p q = one_run LineByte s (f + 2) a b p q
one_form BlockComment s f a b p q = one_close s (f + 2) a b p q
one_form Directive s f a b p q = one_directive s f a b p q
one_form (Token kind) s f a b p q = one_token kind s f a b p q

pub one_piece : (s : List ℕ) (f a b : ℕ) → IsPiece s f a → IsPiece s f b → a ≡ b
one_piece s f a b p q = one_form (row_at s f) s f a b p.form q.form

pub record IsOneWay (a b : ℕ) (xs ys : List ℕ) : Type 0 where
  pub place : a ≡ b
  pub ends : xs ≡ ys

-- Pieces from one place on to two at which none stands are the same.
one_way : (s : List ℕ) (f : ℕ) (xs ys : List ℕ) (a b : ℕ) → ArePieces s f xs a → ArePieces s f ys b
    → ((to : ℕ) → IsPiece s a to → ⊥) → ((to : ℕ) → IsPiece s b to → ⊥) → IsOneWay a b xs ys
one_way s f [] [] a b p q na nb = record { place = sym p ∙ q; ends = refl }
one_way s f [] (y ∷ ys) a b p q na nb = absurd (na y (subst (λ (n : ℕ). IsPiece s n y) p q.0))
one_way s f (x ∷ xs) [] a b p q na nb = absurd (nb x (subst (λ (n : ℕ). IsPiece s n x) q p.0))
one_way s f (x ∷ xs) (y ∷ ys) a b p q na nb =
    let e : x ≡ y = one_piece s f x y p.0 q.0 in
    let more : IsOneWay a b xs ys = one_way s y xs ys a b (subst (λ (n : ℕ). ArePieces s n xs a) e p.1) q.1 na nb in
    record { place = more.place; ends = λ i. e i ∷ more.ends i }

none_at_end : (s : List ℕ) (to : ℕ) → IsPiece s (length s) to → ⊥
none_at_end s to p = omega (arith, p.some, p.within)

pub one_list : IsOneTokenList
one_list s ts us p q =
    let way : IsOneWay (length s) (length s) p.ends q.ends = one_way s 0 p.ends q.ends (length s) (length s) p.pieces q.pieces (none_at_end s) (none_at_end s) in
    p.kept ∙ ap (λ (ends : List ℕ). without_attributes (tokens_of s 0 ends)) way.ends ∙ sym q.kept

pub one_place : IsOneFault
one_place s e f p q =
    let way : IsOneWay p.at q.at p.ends q.ends = one_way s 0 p.ends q.ends p.at q.at p.pieces q.pieces p.none q.none in
    p.is ∙ ap (λ (n : ℕ). fault_of (row_at s n) n) way.place ∙ sym q.is

pub list_or_fault : IsTokensOrFault
list_or_fault s ts e p q =
    let way : IsOneWay (length s) q.at p.ends q.ends = one_way s 0 p.ends q.ends (length s) q.at p.pieces q.pieces (none_at_end s) q.none in
    omega (arith, way.place, q.within)
