-- Ranges and selects are read as their productions say, both ways.
use Rattle.std.proofs.Common.{◌≡◌, ℕ, Bool, true, false, List, [], ◌∷◌, ◌++◌, codes, Ok, refl, sym, ap, ◌∙◌, subst}
use Rattle.bm_base.specs.declared.range.Range.{Range}
use Rattle.vlog_tokens.specs.Toks.{Tok}
use Rattle.vlog_tree.specs.Spelling.Parts.{Is, IsDecimal, IsRange}
use Rattle.vlog_tree.specs.Spelling.Selects as spelled
use Rattle.vlog_tree.specs.Spelling.Selects.{IsSelect}
use Rattle.vlog_parse.specs.declared.select.Selection.{Selection}
use Rattle.vlog_parse.specs.declared.select.Selection.TheVariants.{Whole, Bit, Part}
use Rattle.vlog_parse.specs.Reads.{sees}
use Rattle.vlog_parse.specs.Selects.{bit_after, bracketed, part_after, range, range_after, select, select_after, select_of}
use Rattle.vlog_parse.specs.Terminals.{decimal}
use Rattle.vlog_parse.proofs.Rules.{◌>>=◌, Sound, Took, expects, found_is, left_is, mark_took, sees_is, sees_other, then_took}
use Rattle.vlog_parse.proofs.Terminals.{decimal_took, decimals}

-- ---- what is read is spelled

range_after_took : (high : ℕ) (ts : List Tok) (r : Range) (rest : List Tok) → range_after high ts ≡ Ok (r, rest)
    → (colon right closing : Tok) × (low : ℕ) × (ts ≡ colon ∷ right ∷ closing ∷ rest) × Is (codes ":") colon × IsDecimal right low × Is (codes "]") closing × (r ≡ record { left = high; right = low })
unfolding range_after
range_after_took high ts r rest e = do
  (colon, ts1, e1, h1, m1) ← mark_took (codes ":") _ ts r rest e
  (low, ts2, was, m2) ← then_took (decimal ts1) _ r rest m1
  (right, e2, h2) ← decimal_took ts1 low ts2 was
  (closing, ts3, e3, h3, m3) ← mark_took (codes "]") _ ts2 r rest m2
  (colon, right, closing, low, (cc (left_is m3)), h1, h2, h3, found_is m3)

ranged : (opening left colon right closing : Tok) (high low : ℕ) (r : Range) → Is (codes "[") opening → IsDecimal left high → Is (codes ":") colon → IsDecimal right low → Is (codes "]") closing
    → r ≡ record { left = high; right = low } → IsRange (opening ∷ left ∷ colon ∷ right ∷ closing ∷ []) r
ranged opening left colon right closing high low r h1 h2 h3 h4 h5 same =
    subst (λ (x : Range). IsRange (opening ∷ left ∷ colon ∷ right ∷ closing ∷ []) x) (sym same) (IsRange.range opening left colon right closing high low h1 h2 h3 h4 h5)

pub range_sound : Sound range IsRange
unfolding range
range_sound ts r rest e = do
  (opening, ts1, e1, h1, m1) ← mark_took (codes "[") _ ts r rest e
  (high, ts2, was, m2) ← then_took (decimal ts1) _ r rest m1
  (left, e2, h2) ← decimal_took ts1 high ts2 was
  (colon, right, closing, low, e3, h3, h4, h5, same) ← range_after_took high ts2 r rest m2
  (opening ∷ left ∷ colon ∷ right ∷ closing ∷ [], (cc), ranged opening left colon right closing high low r h1 h2 h3 h4 h5 same)

abbrev TookSelect : List Tok → Selection → List Tok → Type 0
TookSelect ts s rest = Took (λ front x. IsSelect front (select_of x)) ts s rest

part_took : (opening left : Tok) (high : ℕ) (ts : List Tok) (s : Selection) (rest : List Tok) → Is (codes "[") opening → IsDecimal left high → part_after high ts ≡ Ok (s, rest)
    → TookSelect (opening ∷ left ∷ ts) s rest
unfolding part_after
part_took opening left high ts s rest h1 h2 e = do
  (r, ts1, was, m1) ← then_took (range_after high ts) _ s rest e
  (colon, right, closing, low, e1, h3, h4, h5, same) ← range_after_took high ts r ts1 was
  (
    opening ∷ left ∷ colon ∷ right ∷ closing ∷ [],
    (cc (left_is m1)),
    subst (λ (x : Selection). IsSelect (opening ∷ left ∷ colon ∷ right ∷ closing ∷ []) (select_of x)) (sym (found_is m1))
        (IsSelect.range (opening ∷ left ∷ colon ∷ right ∷ closing ∷ []) r (ranged opening left colon right closing high low r h1 h2 h3 h4 h5 same)),
  )

bit_took : (opening digits : Tok) (place : ℕ) (ts : List Tok) (s : Selection) (rest : List Tok) → Is (codes "[") opening → IsDecimal digits place → bit_after place ts ≡ Ok (s, rest)
    → TookSelect (opening ∷ digits ∷ ts) s rest
unfolding bit_after
bit_took opening digits place ts s rest h1 h2 e = do
  (closing, ts1, e1, h3, m1) ← mark_took (codes "]") _ ts s rest e
  (
    opening ∷ digits ∷ closing ∷ [],
    (cc (left_is m1)),
    subst (λ (x : Selection). IsSelect (opening ∷ digits ∷ closing ∷ []) (select_of x)) (sym (found_is m1)) (IsSelect.index opening digits closing place h1 h2 h3),
  )

select_after_took : (opening digits : Tok) (first : ℕ) (ts : List Tok) (s : Selection) (rest : List Tok) → Is (codes "[") opening → IsDecimal digits first → select_after first ts ≡ Ok (s, rest)
    → TookSelect (opening ∷ digits ∷ ts) s rest
unfolding select_after
select_after_took opening digits first ts s rest h1 h2 e = by (sees (codes ":") ts) refl
  where
    by : (b : Bool) → sees (codes ":") ts ≡ b → TookSelect (opening ∷ digits ∷ ts) s rest
    by true h = part_took opening digits first ts s rest h1 h2 (rw h at e)
    by false h = bit_took opening digits first ts s rest h1 h2 (rw h at e)

bracketed_took : (ts : List Tok) (s : Selection) (rest : List Tok) → bracketed ts ≡ Ok (s, rest) → TookSelect ts s rest
unfolding bracketed
bracketed_took ts s rest e = do
  (opening, ts1, e1, h1, m1) ← mark_took (codes "[") _ ts s rest e
  (first, ts2, was, m2) ← then_took (decimal ts1) _ s rest m1
  (digits, e2, h2) ← decimal_took ts1 first ts2 was
  subst (λ (us : List Tok). TookSelect us s rest) (sym (e1 ∙ ap (λ (us : List Tok). opening ∷ us) e2)) (select_after_took opening digits first ts2 s rest h1 h2 m2)

pub select_sound : Sound select (λ front s. IsSelect front (select_of s))
unfolding select
select_sound ts s rest e = by (sees (codes "[") ts) refl
  where
    by : (b : Bool) → sees (codes "[") ts ≡ b → TookSelect ts s rest
    by true h = bracketed_took ts s rest (rw h at e)
    by false h = (let ends = rw h at e in ([], sym (left_is ends), subst (λ (x : Selection). IsSelect [] (select_of x)) (sym (found_is ends)) IsSelect.none))

-- ---- what is spelled is read

pub range_complete : {front : List Tok} {r : Range} → IsRange front r → (rest : List Tok) → range (front ++ rest) ≡ Ok (r, rest)
unfolding range range_after
range_complete (IsRange.range opening left colon right closing high low h1 h2 h3 h4 h5) rest =
    rw (
      expects (codes "[") opening (left ∷ colon ∷ right ∷ closing ∷ rest) h1,
      decimals left high (colon ∷ right ∷ closing ∷ rest) h2,
      expects (codes ":") colon (right ∷ closing ∷ rest) h3,
      decimals right low (closing ∷ rest) h4,
      expects (codes "]") closing rest h5,
    ) refl

-- a select of the grammar in the words of the code
abbrev pub selected : spelled.Select → Selection
selected spelled.whole = Whole
selected (spelled.bit index) = Bit index
selected (spelled.part found) = Part found

pub select_of_selected : (s : spelled.Select) → select_of (selected s) ≡ s
select_of_selected spelled.whole = refl
select_of_selected (spelled.bit index) = refl
select_of_selected (spelled.part found) = refl

part_complete : {front : List Tok} {r : Range} → IsRange front r → (rest : List Tok) → select (front ++ rest) ≡ Ok (Part r, rest)
unfolding select bracketed select_after part_after range_after
part_complete (IsRange.range opening left colon right closing high low h1 h2 h3 h4 h5) rest =
    rw (
      sees_is (codes "[") opening (left ∷ colon ∷ right ∷ closing ∷ rest) h1,
      expects (codes "[") opening (left ∷ colon ∷ right ∷ closing ∷ rest) h1,
      decimals left high (colon ∷ right ∷ closing ∷ rest) h2,
      sees_is (codes ":") colon (right ∷ closing ∷ rest) h3,
      expects (codes ":") colon (right ∷ closing ∷ rest) h3,
      decimals right low (closing ∷ rest) h4,
      expects (codes "]") closing rest h5,
    ) refl

-- What spells a select is read, if no bracket follows.
pub select_complete : {front : List Tok} {s : spelled.Select} → IsSelect front s → (rest : List Tok) → sees (codes "[") rest ≡ false → select (front ++ rest) ≡ Ok (selected s, rest)
unfolding select bracketed select_after bit_after
select_complete IsSelect.none rest ends = rw ends refl
select_complete (IsSelect.index opening digits closing place h1 h2 h3) rest ends =
    rw (
      sees_is (codes "[") opening (digits ∷ closing ∷ rest) h1,
      expects (codes "[") opening (digits ∷ closing ∷ rest) h1,
      decimals digits place (closing ∷ rest) h2,
      sees_other (codes "]") (codes ":") closing rest h3 refl,
      expects (codes "]") closing rest h3,
    ) refl
select_complete (IsSelect.range ts r is) rest ends = part_complete is rest
