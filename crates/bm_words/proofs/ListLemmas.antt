-- What lists of words are, told by their places.
use Rattle.std.proofs.Common.{◌≡◌, ℕ, List, [], ◌∷◌, Some, drop, slice_get, String, refl}
use Rattle.std.specs.declared.alloc.Global.{Global}
use Rattle.bm_words.specs.Words.{texts}

pub four_words : (xs rest : List (List ℕ)) (b c d : List ℕ)
    → slice_get xs 1 ≡ Some b → slice_get xs 2 ≡ Some c → slice_get xs 3 ≡ Some d
    → drop 4 xs ≡ rest → (a : List ℕ) × (xs ≡ a ∷ b ∷ c ∷ d ∷ rest)
four_words (x0 ∷ x1 ∷ x2 ∷ x3 ∷ xs) rest b c d p1 p2 p3 p4 = (x0, cc)
four_words (x0 ∷ x1 ∷ x2 ∷ []) rest b c d p1 p2 p3 p4 = cc
four_words (x0 ∷ x1 ∷ []) rest b c d p1 p2 p3 p4 = cc
four_words (x0 ∷ []) rest b c d p1 p2 p3 p4 = cc
four_words [] rest b c d p1 p2 p3 p4 = cc

pub five_words : (xs rest : List (List ℕ)) (b c d e : List ℕ)
    → slice_get xs 1 ≡ Some b → slice_get xs 2 ≡ Some c → slice_get xs 3 ≡ Some d → slice_get xs 4 ≡ Some e
    → drop 5 xs ≡ rest → (a : List ℕ) × (xs ≡ a ∷ b ∷ c ∷ d ∷ e ∷ rest)
five_words (x0 ∷ x1 ∷ x2 ∷ x3 ∷ x4 ∷ xs) rest b c d e p1 p2 p3 p4 p5 = (x0, cc)
five_words (x0 ∷ x1 ∷ x2 ∷ x3 ∷ []) rest b c d e p1 p2 p3 p4 p5 = cc
five_words (x0 ∷ x1 ∷ x2 ∷ []) rest b c d e p1 p2 p3 p4 p5 = cc
five_words (x0 ∷ x1 ∷ []) rest b c d e p1 p2 p3 p4 p5 = cc
five_words (x0 ∷ []) rest b c d e p1 p2 p3 p4 p5 = cc
five_words [] rest b c d e p1 p2 p3 p4 p5 = cc

pub no_words : (xs : List (String Global)) → texts xs ≡ [] → xs ≡ []
no_words [] none = refl
no_words (x ∷ xs) none = cc
