-- Every left side is read, whatever follows it that may.
use Rattle.std.proofs.Common.{◌≡◌, ◌≤◌, ◌<◌, ℕ, zero, suc, false, List, [], ◌∷◌, ◌++◌, length, codes, bytes_eq, Ok, refl, append_assoc, arith}
use Rattle.vlog_tokens.specs.Toks.{Tok}
use Rattle.vlog_tree.specs.declared.left.Left.{Left}
use Rattle.vlog_tree.specs.Spelling.Lefts.{IsLeft, SpellsLeft, Target}
use Rattle.vlog_tree.specs.Spelling.Parts.{Production, place_of}
use Rattle.vlog_parse.specs.Lefts.{join, left, named, target}
use Rattle.vlog_parse.specs.Reads.{Parser, sees}
use Rattle.vlog_parse.proofs.Enclosures.{inside_fits}
use Rattle.vlog_parse.proofs.LeftFollows.{EndsLeft, left_ends, left_unseen}
use Rattle.vlog_parse.proofs.Lists.{separated_complete}
use Rattle.vlog_parse.proofs.Rules.{Complete, expects, sees_is, sees_other}
use Rattle.vlog_parse.proofs.Selects.{select_complete, select_of_selected}
use Rattle.vlog_parse.proofs.Terminals.{name_free, names}

module _ (inner : Parser Left) (Inner : Production Left) where
  target_complete : (size : ℕ) → Complete EndsLeft size inner Inner → {front : List Tok} {found : Left} → Target Inner front found → (rest : List Tok) → length front ≤ suc size → EndsLeft rest
      → target inner (front ++ rest) ≡ Ok (found, rest)
  unfolding target named join
  target_complete size complete (Target.name word ts text select is h) rest fits ends =
      rw (
        sees_other [] (codes "{") word (ts ++ rest) (name_free word text is) refl,
        names word text (ts ++ rest) is,
        select_complete h rest (left_unseen (codes "[") rest refl ends),
        select_of_selected select,
      ) refl
  target_complete size complete (Target.join opening closing ts parts h s h1) rest fits ends =
      let read = separated_complete inner Inner EndsLeft size complete (λ comma us is. left_ends (codes ",") comma us is refl) ts parts (closing ∷ rest) s (inside_fits opening closing ts size fits)
      (left_ends (codes "}") closing rest h1 refl, sees_other (codes "}") (codes ",") closing rest h1 refl) in
      rw (
        append_assoc ts (closing ∷ []) rest,
        sees_is (codes "{") opening (ts ++ closing ∷ rest) h,
        expects (codes "{") opening (ts ++ closing ∷ rest) h,
        read,
        expects (codes "}") closing rest h1,
      ) refl

  target_some : {front : List Tok} {found : Left} → Target Inner front found → 0 < length front
  target_some (Target.name word ts text select is h) = omega arith
  target_some (Target.join opening closing ts parts h s h1) = omega arith

  target_unseen : (first : ℕ) (text : List ℕ) → bytes_eq (codes "{") (first ∷ text) ≡ false → {front : List Tok} {found : Left} → Target Inner front found → (rest : List Tok) → sees (first ∷ text) (front ++ rest) ≡ false
  target_unseen first text other (Target.name word ts name select is h) rest = sees_other [] (first ∷ text) word (ts ++ rest) (name_free word name is) refl
  target_unseen first text other (Target.join opening closing ts parts h s h1) rest = sees_other (codes "{") (first ∷ text) opening ((ts ++ closing ∷ []) ++ rest) h other

  target_place : {front : List Tok} {found : Left} → Target Inner front found → (rest : List Tok) → place_of (front ++ rest) ≡ place_of front
  target_place (Target.name word ts name select is h) rest = refl
  target_place (Target.join opening closing ts parts h s h1) rest = refl

-- ---- left sides in which braces nest as deep as this

is_left_some : (n : ℕ) (front : List Tok) (found : Left) → IsLeft n front found → 0 < length front
is_left_some zero front found s = absurd s
is_left_some (suc n) front found s = target_some (left n) (IsLeft n) s

is_left_complete : (depth n : ℕ) → Complete EndsLeft depth (left depth) (IsLeft n)
unfolding left
is_left_complete depth zero front found rest s fits ends = absurd s
is_left_complete zero (suc n) front found rest s fits ends = let some = is_left_some (suc n) front found s in absurd (omega arith)
is_left_complete (suc depth) (suc n) front found rest s fits ends = target_complete (left depth) (IsLeft n) depth (is_left_complete depth n) s rest fits ends

is_left_unseen : (n first : ℕ) (text : List ℕ) → bytes_eq (codes "{") (first ∷ text) ≡ false → (front : List Tok) (found : Left) → IsLeft n front found → (rest : List Tok) → sees (first ∷ text) (front ++ rest) ≡ false
is_left_unseen zero first text other front found s rest = absurd s
is_left_unseen (suc n) first text other front found s rest = target_unseen (left n) (IsLeft n) first text other s rest

is_left_place : (n : ℕ) (front : List Tok) (found : Left) → IsLeft n front found → (rest : List Tok) → place_of (front ++ rest) ≡ place_of front
is_left_place zero front found s rest = absurd s
is_left_place (suc n) front found s rest = target_place (left n) (IsLeft n) s rest

-- ---- left sides

pub left_complete : (depth : ℕ) → Complete EndsLeft depth (left depth) SpellsLeft
left_complete depth front found rest (n, s) fits ends = is_left_complete depth n front found rest s fits ends

-- A left side takes a token.
pub left_some : (front : List Tok) (found : Left) → SpellsLeft front found → 0 < length front
left_some front found (n, s) = is_left_some n front found s

-- It begins with no reserved word, and with no mark but a brace.
pub left_begins : (first : ℕ) (text : List ℕ) → bytes_eq (codes "{") (first ∷ text) ≡ false → (front : List Tok) (found : Left) → SpellsLeft front found → (rest : List Tok) → sees (first ∷ text) (front ++ rest) ≡ false
left_begins first text other front found (n, s) rest = is_left_unseen n first text other front found s rest

-- The place of its first token is that of all that begins with it.
pub left_place : (front : List Tok) (found : Left) → SpellsLeft front found → (rest : List Tok) → place_of (front ++ rest) ≡ place_of front
left_place front found (n, s) rest = is_left_place n front found s rest
