-- The size of a code, one declaration at a time.
use Rattle.std.proofs.Common.{◌≡◌, ℕ, List, [], ◌∷◌, ◌++◌, Bool, true, false, cond, map, Option, Some, None, if◌then◌else◌, refl, sym, ap, ◌∙◌}
use Rattle.std.specs.List.{find}
use Rattle.std.specs.Option.{option_map, option_or}
use Rattle.std.specs.Str.{bytes_eq}
use Rattle.std.proofs.lemmas.Slice.Eq.{bytes_eq-Decides}
use Rattle.vcd_header.specs.declared.declaration.Declaration.{Declaration}
use Rattle.vcd_header.specs.Declares.{declares, size_among}
use Rattle.vcd_header.specs.Scopes.{Path}
use Rattle.vcd_header.specs.Variables.{Variable, size_of}

size_here : List ℕ → Declaration → Option ℕ
size_here code declaration = if bytes_eq declaration.code.now code then Some declaration.size else None

same_bytes : (xs ys : List ℕ) → bytes_eq xs ys ≡ true → xs ≡ ys
same_bytes xs ys h = (bytes_eq-Decides xs ys).0 h

or_none : (o : Option ℕ) → option_or o None ≡ o
or_none None = refl
or_none (Some x) = refl

-- one more declaration
pub size_more : (declarations : List Declaration) (declaration : Declaration) (code : List ℕ) (b : Bool) → bytes_eq declaration.code.now code ≡ b
    → size_among (declarations ++ declaration ∷ []) code ≡ option_or (size_among declarations code) (if b then Some declaration.size else None)
size_more [] declaration code b is = rw is (by b)
  where
    by : (b : Bool) → option_map (λ (d : Declaration). d.size) (cond b (Some declaration) None) ≡ option_or None (if b then Some declaration.size else None)
    by true = refl
    by false = refl
size_more (first ∷ rest) declaration code b is = by (bytes_eq first.code.now code) (size_more rest declaration code b is)
  where
    by : (t : Bool) → size_among (rest ++ declaration ∷ []) code ≡ option_or (size_among rest code) (if b then Some declaration.size else None)
        → option_map (λ (d : Declaration). d.size) (cond t (Some first) (find (λ d. bytes_eq d.code.now code) (rest ++ declaration ∷ [])))
        ≡ option_or (option_map (λ (d : Declaration). d.size) (cond t (Some first) (find (λ d. bytes_eq d.code.now code) rest))) (if b then Some declaration.size else None)
    by true ih = refl
    by false ih = ih

pub size_added : (declarations : List Declaration) (declaration : Declaration) (code : List ℕ) (before after : Option ℕ)
    → before ≡ size_among declarations code → size_among declarations declaration.code.now ≡ None
    → after ≡ (if bytes_eq declaration.code.now code then Some declaration.size else before)
    → after ≡ size_among (declarations ++ declaration ∷ []) code
size_added declarations declaration code before after kept fresh now = by (bytes_eq declaration.code.now code) refl now
  where
    by : (b : Bool) → bytes_eq declaration.code.now code ≡ b → after ≡ (if b then Some declaration.size else before) → after ≡ size_among (declarations ++ declaration ∷ []) code
    by true is now =
        let none : size_among declarations code ≡ None = ap (size_among declarations) (sym (same_bytes declaration.code.now code is)) ∙ fresh in
        now ∙ sym (size_more declarations declaration code true is ∙ ap (λ o. option_or o (Some declaration.size)) none)
    by false is now = now ∙ kept ∙ sym (size_more declarations declaration code false is ∙ or_none (size_among declarations code))

pub size_stays : (declarations : List Declaration) (declaration : Declaration) (code : List ℕ) (known : Option ℕ) (size : ℕ)
    → known ≡ size_among declarations code → size_among declarations declaration.code.now ≡ Some size
    → known ≡ size_among (declarations ++ declaration ∷ []) code
size_stays declarations declaration code known size kept there = by (bytes_eq declaration.code.now code) refl
  where
    by : (b : Bool) → bytes_eq declaration.code.now code ≡ b → known ≡ size_among (declarations ++ declaration ∷ []) code
    by true is =
        let some : size_among declarations code ≡ Some size = ap (size_among declarations) (sym (same_bytes declaration.code.now code is)) ∙ there in
        kept ∙ some ∙ sym (size_more declarations declaration code true is ∙ ap (λ o. option_or o (Some declaration.size)) some)
    by false is = kept ∙ sym (size_more declarations declaration code false is ∙ or_none (size_among declarations code))

-- The size is that of the variable as it is declared.
pub size_seen : (paths : List Path) (declarations : List Declaration) (code : List ℕ) → size_of (map (declares paths) declarations) code ≡ size_among declarations code
size_seen paths [] code = refl
size_seen paths (first ∷ rest) code = by (bytes_eq first.code.now code) (size_seen paths rest code)
  where
    by : (t : Bool) → size_of (map (declares paths) rest) code ≡ size_among rest code
        → option_map (λ (v : Variable). v.size) (cond t (Some (declares paths first)) (find (λ v. bytes_eq v.code code) (map (declares paths) rest)))
        ≡ option_map (λ (d : Declaration). d.size) (cond t (Some first) (find (λ d. bytes_eq d.code.now code) rest))
    by true ih = refl
    by false ih = ih
