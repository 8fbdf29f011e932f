-- Places at the end of a list are taken off.
use Rattle.std.specs.Prelude.{◌≡◌, ℕ, ◌<◌, ◌≤◌, List, [], ◌∷◌, ◌++◌, length}
use Rattle.std.proofs.Common.{ap, arith, inl, inr, sym, ◌∙◌, subst}
use Rattle.net_order.specs.Marks.{Rising, Stands}
use Rattle.net_order.specs.Partings.{IsCut}
use Rattle.net_order.proofs.ListLemmas.{length_more, none_stands, rises_front, rises_to, stands_back, stands_kept}

-- Those that are gone stand behind a place.
pub record IsCutting (place : ℕ) (old new : List ℕ) : Type 0 where
  pub rises : Rising new
  pub kept : (first : ℕ) → Stands new first → Stands old first
  pub rest : (first : ℕ) → Stands old first → first ≤ place → Stands new first

pub cut_begun : (place : ℕ) (list : List ℕ) → Rising list → IsCutting place list list
cut_begun place list rises = record {
  rises = rises;
  kept = λ first stands. stands;
  rest = λ first stands le. stands;
}

module _ (place : ℕ) (old before : List ℕ) (is : IsCutting place old before) where
  pub cut_more : (rest : List ℕ) (last : ℕ) → before ≡ rest ++ last ∷ [] → place < last → IsCutting place old rest
  cut_more rest last same behind =
      let now : IsCutting place old (rest ++ last ∷ []) = subst (λ one. IsCutting place old one) same is in
      record {
        rises = rises_front rest last now.rises;
        kept = λ first stands. now.kept first (stands_kept rest last first stands);
        rest = λ first stands le. elim (stands_back rest last first (now.rest first stands le)) [
          | inl before ↦ before
          | inr is_last ↦ absurd (omega (arith, behind, le, is_last))
        ];
      }

  pub cut_here : (rest new : List ℕ) (last : ℕ) → before ≡ rest ++ last ∷ [] → last ≤ place → new ≡ rest ++ last ∷ []
      → IsCut place old new
  cut_here rest new last same le new_is =
      let now : IsCutting place old (rest ++ last ∷ []) = subst (λ one. IsCutting place old one) same is in
      subst (λ one. IsCut place old one) (sym new_is)
      record {
        rises = now.rises;
        kept = now.kept;
        below = λ first stands. let to = rises_to rest last now.rises first stands in omega (arith, to, le);
        rest = now.rest;
      }

  pub cut_all : (new : List ℕ) → before ≡ [] → new ≡ before → IsCut place old new
  cut_all new none same =
      subst (λ one. IsCut place old one) (sym same)
      record {
        rises = is.rises;
        kept = is.kept;
        below = λ first stands. absurd (none_stands before first none stands);
        rest = is.rest;
      }

pub cut_smaller : (before rest : List ℕ) (last : ℕ) → before ≡ rest ++ last ∷ [] → length rest < length before
cut_smaller before rest last same = let longer = ap length same ∙ length_more rest last in omega (arith, longer)
