-- One token more on the way to the first that is too deep.
use Rattle.std.proofs.Common.{◌≡◌, ◌≤◌, ◌<◌, ℕ, ◌+◌, Bool, true, false, nat_lt, if◌then◌else◌, List, [], ◌∷◌, ◌++◌, length, take, drop, Option, Some, refl, sym, ap, ◌∙◌, subst, add-one, slice_index_or, arith}
use Rattle.std.specs.List.{fold}
use Rattle.std.proofs.lemmas.Bool.Decides.{Decides-ltb}
use Rattle.std.proofs.Math.Seq.{drop-cons, take-suc}
use Rattle.std.proofs.lemmas.List.{map-append}
use Rattle.vlog_tokens.specs.Toks.{Tok, tok_of, toks}
use Rattle.vlog_tokens.specs.declared.token.Token.{Token}
use Rattle.vlog_tree.specs.Spelling.Parts.{terminal}
use Rattle.vlog_parse.specs.Nest.{counted, ifs_after, nest_count, open_after, operators_after, too_deep_after}

fold_more : {A B : Type 0} (f : B → A → B) (start : B) (xs : List A) (x : A) → fold f start (xs ++ x ∷ []) ≡ f (fold f start xs) x
fold_more f start [] x = refl
fold_more f start (y ∷ xs) x = fold_more f (f start y) xs x

counted_more : (after : ℕ → List ℕ → ℕ) (front : List Tok) (tok : Tok) → counted after (front ++ tok ∷ []) ≡ after (counted after front) (terminal tok)
counted_more after front tok = fold_more (λ count t. after count (terminal t)) 0 front tok

not_below : (a b : ℕ) → b ≤ a → nat_lt a b ≡ false
not_below a b fits = by (nat_lt a b) refl
  where
    by : (r : Bool) → nat_lt a b ≡ r → nat_lt a b ≡ false
    by true h = let below = (Decides-ltb a b).0 h in absurd (omega (arith, below, fits))
    by false h = h

abbrev pub Fronts : List Token → ℕ → Token → Type 0
Fronts xs i x = (toks (take (i + 1) xs) ≡ toks (take i xs) ++ tok_of x ∷ []) × (toks (drop i xs) ≡ tok_of x ∷ toks (drop (i + 1) xs))

pub fronts : (xs : List Token) (i : ℕ) (none : Token) → i < length xs → Fronts xs i (slice_index_or xs i none)
fronts xs i none inside = (
  ap (λ (n : ℕ). toks (take n xs)) (add-one i) ∙ ap toks (take-suc xs i none inside) ∙ map-append tok_of (take i xs) (slice_index_or xs i none ∷ []),
  ap toks (drop-cons xs i none inside) ∙ ap (λ (n : ℕ). tok_of (slice_index_or xs i none) ∷ toks (drop n xs)) (sym (add-one i)),
)

-- the counts after one token more are those of the front with it
pub nest_is : (front : List Tok) (tok : Tok) (text : List ℕ) (open_before operators_before ifs_before open_now operators_now ifs_now : ℕ) → text ≡ terminal tok
    → open_before ≡ counted open_after front → operators_before ≡ counted operators_after front → ifs_before ≡ counted ifs_after front
    → open_now ≡ open_after open_before text → operators_now ≡ operators_after operators_before text → ifs_now ≡ ifs_after ifs_before text
    → (open_now ≡ counted open_after (front ++ tok ∷ [])) × (operators_now ≡ counted operators_after (front ++ tok ∷ [])) × (ifs_now ≡ counted ifs_after (front ++ tok ∷ []))
nest_is front tok text open_before operators_before ifs_before open_now operators_now ifs_now t a b c x y z = (
  x ∙ ap (λ (n : ℕ). open_after n text) a ∙ ap (open_after (counted open_after front)) t ∙ sym (counted_more open_after front tok),
  y ∙ ap (λ (n : ℕ). operators_after n text) b ∙ ap (operators_after (counted operators_after front)) t ∙ sym (counted_more operators_after front tok),
  z ∙ ap (λ (n : ℕ). ifs_after n text) c ∙ ap (ifs_after (counted ifs_after front)) t ∙ sym (counted_more ifs_after front tok),
)

pub is_too_deep : (front rest : List Tok) (tok : Tok) (whole : Option ℕ) (open_now operators_now ifs_now : ℕ) → whole ≡ too_deep_after front (tok ∷ rest)
    → (open_now ≡ counted open_after (front ++ tok ∷ [])) × (operators_now ≡ counted operators_after (front ++ tok ∷ [])) × (ifs_now ≡ counted ifs_after (front ++ tok ∷ []))
    → 500 < open_now + operators_now + ifs_now → whole ≡ Some tok.at
unfolding too_deep_after nest_count
is_too_deep front rest tok whole open_now operators_now ifs_now e (x, y, z) deep =
    let test : nat_lt 500 (counted open_after (front ++ tok ∷ []) + counted operators_after (front ++ tok ∷ []) + counted ifs_after (front ++ tok ∷ [])) ≡ true = (Decides-ltb 500 _).1 (subst (λ (n : ℕ). 500 < n) (cc (x, y, z)) deep) in
    e ∙ ap (λ (b : Bool). if b then Some tok.at else too_deep_after (front ++ tok ∷ []) rest) test

pub is_shallow : (front rest : List Tok) (tok : Tok) (whole : Option ℕ) (open_now operators_now ifs_now : ℕ) → whole ≡ too_deep_after front (tok ∷ rest)
    → (open_now ≡ counted open_after (front ++ tok ∷ [])) × (operators_now ≡ counted operators_after (front ++ tok ∷ [])) × (ifs_now ≡ counted ifs_after (front ++ tok ∷ []))
    → open_now + operators_now + ifs_now ≤ 500 → whole ≡ too_deep_after (front ++ tok ∷ []) rest
unfolding too_deep_after nest_count
is_shallow front rest tok whole open_now operators_now ifs_now e (x, y, z) shallow =
    let fits : counted open_after (front ++ tok ∷ []) + counted operators_after (front ++ tok ∷ []) + counted ifs_after (front ++ tok ∷ []) ≤ 500 = subst (λ (n : ℕ). n ≤ 500) (cc (x, y, z)) shallow in
    e ∙ ap (λ (b : Bool). if b then Some tok.at else too_deep_after (front ++ tok ∷ []) rest) (not_below 500 _ fits)
