-- What the rules of left sides read is spelled by the tokens that they take.
use Rattle.std.proofs.Common.{◌≡◌, ℕ, zero, suc, Bool, true, false, List, [], ◌∷◌, ◌++◌, codes, refl, sym, ap, ◌∙◌, subst}
use Rattle.vlog_tokens.specs.Toks.{Tok}
use Rattle.vlog_tree.specs.declared.left.Left.{Left}
use Rattle.vlog_tree.specs.Spelling.Lefts.{IsLeft, SpellsLeft, Target, assigned}
use Rattle.vlog_tree.specs.Spelling.Parts.{Production, place_of}
use Rattle.vlog_parse.specs.Lefts.{join, left, named, target}
use Rattle.vlog_parse.specs.Reads.{Parser, sees, separated}
use Rattle.vlog_parse.specs.Selects.{select, select_of}
use Rattle.vlog_parse.specs.Terminals.{name}
use Rattle.vlog_parse.proofs.Enclosures.{enclosed}
use Rattle.vlog_parse.proofs.Lists.{separated_sound}
use Rattle.vlog_parse.proofs.Rules.{◌>>=◌, Sound, Took, found_is, left_is, mark_took, then_took}
use Rattle.vlog_parse.proofs.Selects.{select_sound}
use Rattle.vlog_parse.proofs.Terminals.{name_took}

module _ (inner : Parser Left) (Inner : Production Left) where
  named_sound : Sound named (Target Inner)
  unfolding named
  named_sound ts found rest read = do
    (text, ts1, was, m1) ← then_took (name ts) _ found rest read
    (word, e1, h1) ← name_took ts text ts1 was
    (taken, ts2, was2, m2) ← then_took (select ts1) _ found rest m1
    (front, e2, h2) ← select_sound ts1 taken ts2 was2
    (
      word ∷ front,
      e1 ∙ ap (λ (us : List Tok). word ∷ us) (e2 ∙ ap (λ (us : List Tok). front ++ us) (sym (left_is m2))),
      subst (λ (x : Left). Target Inner (word ∷ front) x) (sym (found_is m2 ∙ ap (λ at. assigned (select_of taken) at text) (ap place_of e1))) (Target.name word front text (select_of taken) h1 h2),
    )

  join_sound : Sound inner Inner → Sound (join inner) (Target Inner)
  unfolding join
  join_sound sound ts found rest read = do
    (opening, ts1, e1, h1, m1) ← mark_took (codes "{") _ ts found rest read
    (parts, ts2, was, m2) ← then_took (separated inner ts1) _ found rest m1
    (front, e2, s) ← separated_sound inner Inner sound ts1 parts ts2 was
    (closing, ts3, e3, h3, m3) ← mark_took (codes "}") _ ts2 found rest m2
    (
      opening ∷ (front ++ closing ∷ []),
      enclosed opening closing ts ts1 ts2 ts3 front rest e1 e2 e3 (left_is m3),
      subst (λ (x : Left). Target Inner (opening ∷ (front ++ closing ∷ [])) x) (sym (found_is m3)) (Target.join opening closing front parts h1 s h3),
    )

  target_sound : Sound inner Inner → Sound (target inner) (Target Inner)
  unfolding target
  target_sound sound ts found rest read = by (sees (codes "{") ts) refl
    where
      by : (b : Bool) → sees (codes "{") ts ≡ b → Took (Target Inner) ts found rest
      by true h = join_sound sound ts found rest (rw h at read)
      by false h = named_sound ts found rest (rw h at read)

left_is_sound : (depth : ℕ) → Sound (left depth) (IsLeft depth)
unfolding left
left_is_sound zero ts found rest read = cc
left_is_sound (suc depth) ts found rest read = target_sound (left depth) (IsLeft depth) (left_is_sound depth) ts found rest read

pub left_sound : (depth : ℕ) → Sound (left depth) SpellsLeft
left_sound depth ts found rest read = do
  (front, is, s) ← left_is_sound depth ts found rest read
  (front, is, (depth, s))
