-- What it means that a rule reads a production, both ways, and the steps of which such proofs are made.
use Rattle.std.proofs.Common.{◌≡◌, ◌≤◌, ℕ, Bool, true, false, List, [], ◌∷◌, ◌++◌, length, Option, Some, None, Ok, Err, if◌then◌else◌, ◌⊎◌, inl, inr, bytes_eq, refl, sym, ap, ◌∙◌, subst}
use Rattle.std.proofs.lemmas.Slice.Eq.{bytes_eq-Decides}
use Rattle.vlog_tokens.specs.Toks.{Tok}
use Rattle.vlog_tree.specs.Spelling.Parts.{Is, Production, terminal}
use Rattle.vlog_parse.specs.Reads.{Outcome, Parser, and_then, expect, sees, take_if, taken_by, token_if}

-- `do` opens what one lemma after another gives.
infixl 10 ◌>>=◌
abbrev pub ◌>>=◌ : {A B : Type 0} → A → (A → B) → B
a >>= f = f a

-- ---- the two directions

-- The tokens that were taken spell this.
abbrev pub Took : {A : Type 0} → Production A → List Tok → A → List Tok → Type 0
Took Spelled ts a rest = (front : List Tok) × (ts ≡ front ++ rest) × Spelled front a

-- What the rule reads is spelled by the tokens that it takes.
abbrev pub Sound : {A : Type 0} → Parser A → Production A → Type 0
Sound {A} rule Spelled = (ts : List Tok) (a : A) (rest : List Tok) → rule ts ≡ Ok (a, rest) → Took Spelled ts a rest

-- What no more tokens than this spell is read by the rule, whatever follows that may end it.
abbrev pub Complete : {A : Type 0} → (List Tok → Type 0) → ℕ → Parser A → Production A → Type 0
Complete {A} Ends size rule Spelled = (front : List Tok) (a : A) (rest : List Tok) → Spelled front a → length front ≤ size → Ends rest → rule (front ++ rest) ≡ Ok (a, rest)

-- ---- steps of soundness: what an outcome that is Ok was made of

pair_is : {A : Type 0} {p q : A × List Tok} → ◌≡◌ {A = Outcome A} (Ok p) (Ok q) → p ≡ q
pair_is e = cc

pub found_is : {A : Type 0} {a b : A} {xs ys : List Tok} → ◌≡◌ {A = Outcome A} (Ok (a, xs)) (Ok (b, ys)) → b ≡ a
found_is {A} e = sym (ap (λ (p : A × List Tok). p.0) (pair_is e))

pub left_is : {A : Type 0} {a b : A} {xs ys : List Tok} → ◌≡◌ {A = Outcome A} (Ok (a, xs)) (Ok (b, ys)) → ys ≡ xs
left_is {A} e = sym (ap (λ (p : A × List Tok). p.1) (pair_is e))

-- a rule, and what goes on with what it read
pub then_took : {A B : Type 0} (outcome : Outcome A) (f : A → Parser B) (b : B) (rest : List Tok) → and_then outcome f ≡ Ok (b, rest)
    → (a : A) × (left : List Tok) × (outcome ≡ Ok (a, left)) × (f a left ≡ Ok (b, rest))
then_took (Ok (a, left)) f b rest e = (a, left, refl, e)
then_took (Err stuck) f b rest e = cc

meant : {A : Type 0} (meaning : Tok → Option A) (tok : Tok) (rest : List Tok) (a : A) (left : List Tok) (found : Option A) → meaning tok ≡ found
    → taken_by found tok rest ≡ Ok (a, left) → (meaning tok ≡ Some a) × (rest ≡ left)
meant meaning tok rest a left (Some b) h e = (h ∙ ap Some (sym (found_is e)), sym (left_is e))
meant meaning tok rest a left None h e = cc

-- a token that stands for something
pub take_took : {A : Type 0} (meaning : Tok → Option A) (ts : List Tok) (a : A) (rest : List Tok) → take_if meaning ts ≡ Ok (a, rest)
    → (tok : Tok) × (ts ≡ tok ∷ rest) × (meaning tok ≡ Some a)
unfolding take_if
take_took meaning [] a rest e = cc
take_took meaning (tok ∷ ts) a rest e = let (h, same) = meant meaning tok ts a rest (meaning tok) refl e in (tok, ap (λ (xs : List Tok). tok ∷ xs) same, h)

text_is : (found text : List ℕ) → bytes_eq found text ≡ true → found ≡ text
text_is found text h = (bytes_eq-Decides found text).0 h

is_text : (found text : List ℕ) → found ≡ text → bytes_eq found text ≡ true
is_text found text h = (bytes_eq-Decides found text).1 h

test : (b : Bool) → (b ≡ true) ⊎ (b ≡ false)
test true = inl refl
test false = inr refl

token_met : (text : List ℕ) (tok found : Tok) (b : Bool) → bytes_eq (terminal tok) text ≡ b → (if b then Some tok else None) ≡ Some found → (tok ≡ found) × Is text tok
token_met text tok found true h e = (cc, text_is (terminal tok) text h)
token_met text tok found false h e = cc

-- a reserved word or a mark
pub expect_took : (text : List ℕ) (ts : List Tok) (tok : Tok) (rest : List Tok) → expect text ts ≡ Ok (tok, rest) → (ts ≡ tok ∷ rest) × Is text tok
unfolding expect
expect_took text ts tok rest e = do
  (found, is, h) ← take_took (token_if text) ts tok rest e
  (same, met) ← token_met text found tok (bytes_eq (terminal found) text) refl h
  (is ∙ ap (λ (t : Tok). t ∷ rest) same, subst (λ (t : Tok). Is text t) same met)

-- a reserved word or a mark, and what goes on after it
pub mark_took : {B : Type 0} (text : List ℕ) (f : Tok → Parser B) (ts : List Tok) (b : B) (rest : List Tok) → and_then (expect text ts) f ≡ Ok (b, rest)
    → (tok : Tok) × (left : List Tok) × (ts ≡ tok ∷ left) × Is text tok × (f tok left ≡ Ok (b, rest))
mark_took text f ts b rest e = do
  (tok, left, was, next) ← then_took (expect text ts) f b rest e
  (is, met) ← expect_took text ts tok left was
  (tok, left, is, met, next)

-- ---- steps of completeness: what stands next is taken

pub takes : {A : Type 0} (meaning : Tok → Option A) (tok : Tok) (a : A) (rest : List Tok) → meaning tok ≡ Some a → take_if meaning (tok ∷ rest) ≡ Ok (a, rest)
unfolding take_if
takes {A} meaning tok a rest h = ap (λ (found : Option A). taken_by found tok rest) h

pub expects : (text : List ℕ) (tok : Tok) (rest : List Tok) → Is text tok → expect text (tok ∷ rest) ≡ Ok (tok, rest)
unfolding expect
expects text tok rest h = takes (token_if text) tok tok rest (ap (λ (b : Bool). if b then Some tok else None) (is_text (terminal tok) text h))

pub sees_is : (text : List ℕ) (tok : Tok) (rest : List Tok) → Is text tok → sees text (tok ∷ rest) ≡ true
sees_is text tok rest h = is_text (terminal tok) text h

pub sees_other : (text other : List ℕ) (tok : Tok) (rest : List Tok) → Is text tok → bytes_eq text other ≡ false → sees other (tok ∷ rest) ≡ false
sees_other text other tok rest h differs = ap (λ (t : List ℕ). bytes_eq t other) h ∙ differs

-- a token that is seen
pub seen_is : (text : List ℕ) (ts : List Tok) → sees text ts ≡ true → (tok : Tok) × (rest : List Tok) × (ts ≡ tok ∷ rest) × Is text tok
seen_is text [] h = cc
seen_is text (tok ∷ rest) h = (tok, rest, refl, text_is (terminal tok) text h)
