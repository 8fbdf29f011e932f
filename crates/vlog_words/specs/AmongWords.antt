-- A text among words, as a test and as a fact.
use Rattle.std.proofs.Common.{◌≡◌, ℕ, List, Bool, refl, Decides}
use Rattle.std.specs.List.{Contains, list_any}
use Rattle.std.specs.Str.{bytes_eq}
use Rattle.std.proofs.lemmas.Bool.Decides.{Decides-by_or}
use Rattle.std.proofs.lemmas.List.Elements.{Decides-contains}
use Rattle.std.proofs.lemmas.Slice.Eq.{bytes_eq-Decides}
use Rattle.vlog_words.specs.Words.{is_text_among}

pub is_text_among-Decides : (words : List (List ℕ)) (text : List ℕ)
    → Decides (is_text_among words text) (Contains words text)
is_text_among-Decides words text =
    let test : List ℕ → Bool = λ word. bytes_eq word text in
    let each : (word : List ℕ) → Decides (test word) (word ≡ text) = λ word. bytes_eq-Decides word text in
    Decides-contains words text _
    (Decides-by_or test (λ word. word ≡ text) (list_any test) each refl (λ _ _. refl) words)
