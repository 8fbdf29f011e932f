-- A word, as a test and as a fact.
use Rattle.std.proofs.Common.{◌≡◌, ℕ, List, [], ◌∷◌, Bool, true, refl, Decides}
use Rattle.std.specs.List.{list_all}
use Rattle.std.proofs.lemmas.Bool.{false≢true}
use Rattle.std.proofs.lemmas.Bool.Decides.{Decides-and, Decides-by_and}
use Rattle.vlog_words.specs.Words.{IsWord, is_word_byte, is_word_start, is_word_text}

itself : (b : Bool) → Decides b (b ≡ true)
itself b = (λ h. h, λ h. h)

pub is_word_text-Decides : (text : List ℕ) → Decides (is_word_text text) (IsWord text)
is_word_text-Decides [] = (λ h. false≢true h, λ h. absurd h)
is_word_text-Decides (first ∷ rest) =
    Decides-and _ _ (itself (is_word_start first)) (Decides-by_and is_word_byte (λ byte. is_word_byte byte ≡ true) (list_all is_word_byte) (λ byte. itself (is_word_byte byte)) refl (λ _ _. refl) rest)
