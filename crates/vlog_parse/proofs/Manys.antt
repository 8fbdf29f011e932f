-- Parts that are read as long as a test says so.
use Rattle.std.proofs.Common.{◌≡◌, ◌≤◌, ◌<◌, ℕ, zero, suc, Bool, true, false, List, [], ◌∷◌, ◌++◌, length, Ok, refl, sym, ap, ◌∙◌, subst, append_assoc, append-nil, length-append, arith}
use Rattle.vlog_tokens.specs.Toks.{Tok}
use Rattle.vlog_tree.specs.Spelling.Parts.{Many, Production}
use Rattle.vlog_parse.specs.Reads.{Parser, loop, loop_from, one_more}
use Rattle.vlog_parse.proofs.Rules.{◌>>=◌, Complete, Sound, found_is, left_is, then_took}

module _ {A : Type 0} (item : Parser A) (Spelled : Production A) (goes : List Tok → Bool) where
  many_one_took : Sound item Spelled → (found : List A) (ts : List Tok) (more : List A) (rest : List Tok) → one_more item found ts ≡ Ok (more, rest)
      → (a : A) × (front : List Tok) × (ts ≡ front ++ rest) × Spelled front a × (more ≡ found ++ a ∷ [])
  unfolding one_more
  many_one_took sound found ts more rest e = do
    (a, left, was, m) ← then_took (item ts) _ more rest e
    (front, is, s) ← sound ts a left was
    (a, front, is ∙ ap (λ (xs : List Tok). front ++ xs) (sym (left_is m)), s, found_is m)

  abbrev TookMany : List A → List Tok → List A → List Tok → Type 0
  TookMany found ts xs rest = (us : List Tok) × (more : List A) × (ts ≡ us ++ rest) × (xs ≡ found ++ more) × Many Spelled us more × (goes rest ≡ false)

  abbrev FoundMany : ℕ → Type 0
  FoundMany turns = (found : List A) (ts : List Tok) (xs : List A) (rest : List Tok) → loop_from goes (one_more item) turns found ts ≡ Ok (xs, rest) → TookMany found ts xs rest

  many_step : (turns : ℕ) → Sound item Spelled → FoundMany turns → FoundMany (suc turns)
  unfolding loop_from
  many_step turns sound found_rest found ts xs rest e = by (goes ts) refl
    where
      by : (b : Bool) → goes ts ≡ b → TookMany found ts xs rest
      by false h = let ends = rw h at e in ([], [], sym (left_is ends), found_is ends ∙ sym (append-nil found), Many.none, ap goes (left_is ends) ∙ h)
      by true h = do
        (state, left, was, next) ← then_took (one_more item found ts) (loop_from goes (one_more item) turns) xs rest (rw h at e)
        (a, front, e1, s, same) ← many_one_took sound found ts state left was
        (us, more, e2, all, spelled, stops) ← found_rest (found ++ a ∷ []) left xs rest (subst (λ (state : List A). loop_from goes (one_more item) turns state left ≡ Ok (xs, rest)) same next)
        (
          front ++ us,
          a ∷ more,
          e1 ∙ ap (λ (ys : List Tok). front ++ ys) e2 ∙ sym (append_assoc front us rest),
          all ∙ append_assoc found (a ∷ []) more,
          Many.next front us a more s spelled,
          stops,
        )

  many_from : Sound item Spelled → (turns : ℕ) → FoundMany turns
  unfolding loop_from
  many_from sound zero found ts xs rest e = cc
  many_from sound (suc turns) found ts xs rest e = many_step turns sound (many_from sound turns) found ts xs rest e

  pub many_sound : Sound item Spelled → (ts : List Tok) (xs : List A) (rest : List Tok) → loop goes (one_more item) [] ts ≡ Ok (xs, rest) → TookMany [] ts xs rest
  unfolding loop
  many_sound sound ts xs rest e = many_from sound (suc (length ts)) [] ts xs rest e

  many_stops : (turns : ℕ) (state : List A) (rest : List Tok) → length rest < turns → goes rest ≡ false → loop_from goes (one_more item) turns state rest ≡ Ok (state, rest)
  unfolding loop_from
  many_stops zero state rest enough h = absurd (omega arith)
  many_stops (suc turns) state rest enough h = rw h refl

  many_turns : (turns : ℕ) (state : List A) (a : A) (ts left : List Tok) → length ts < turns → goes ts ≡ true → item ts ≡ Ok (a, left) → length left < length ts
      → (more : ℕ) × (length left < more) × (loop_from goes (one_more item) turns state ts ≡ loop_from goes (one_more item) more (state ++ a ∷ []) left)
  unfolding loop_from one_more
  many_turns zero state a ts left enough h read shorter = absurd (omega arith)
  many_turns (suc turns) state a ts left enough h read shorter = (turns, omega arith, rw (h, read) refl)

  -- How each part begins: so that the test says so, and with a token.
  abbrev pub Starts : Type 0
  Starts = (front : List Tok) (a : A) (rest : List Tok) → Spelled front a → (goes (front ++ rest) ≡ true) × (0 < length front)

  many_goes : (size : ℕ) → Complete (λ _. Unit {0}) size item Spelled → Starts
      → {us : List Tok} {xs : List A} → Many Spelled us xs → (rest : List Tok) → goes rest ≡ false → length us ≤ size
      → (found : List A) (turns : ℕ) → length (us ++ rest) < turns → loop_from goes (one_more item) turns found (us ++ rest) ≡ Ok (found ++ xs, rest)
  many_goes size complete starts Many.none rest stops fits found turns enough = many_stops turns found rest enough stops ∙ ap (λ (ys : List A). Ok (ys, rest)) (sym (append-nil found))
  many_goes size complete starts (Many.next first more a others s spelled) rest stops fits found turns enough =
      let whole : (first ++ more) ++ rest ≡ first ++ (more ++ rest) = append_assoc first more rest in
      let start = starts first a (more ++ rest) s in
      let some : 0 < length first = start.1 in
      let both = rw length-append at fits in
      let read = complete first a (more ++ rest) s (omega arith) tt in
      let shorter : length (more ++ rest) < length (first ++ (more ++ rest)) = rw (length-append {A = Tok} first (more ++ rest)) (omega arith) in
      do
        (left_turns, enough_left, turn) ← many_turns turns found a (first ++ (more ++ rest)) (more ++ rest) (subst (λ (ts : List Tok). length ts < turns) whole enough) start.0 read shorter
        (
            ap (λ (ts : List Tok). loop_from goes (one_more item) turns found ts) whole ∙ turn
            ∙ many_goes size complete starts spelled rest stops (omega arith) (found ++ a ∷ []) left_turns enough_left
            ∙ ap (λ (ys : List A). Ok (ys, rest)) (append_assoc found (a ∷ []) others)
            )

  pub many_complete : (size : ℕ) → Complete (λ _. Unit {0}) size item Spelled → Starts
      → (front : List Tok) (xs : List A) (rest : List Tok) → Many Spelled front xs → length front ≤ size → goes rest ≡ false → loop goes (one_more item) [] (front ++ rest) ≡ Ok (xs, rest)
  unfolding loop
  many_complete size complete starts front xs rest spelled fits stops = many_goes size complete starts spelled rest stops fits [] (suc (length (front ++ rest))) (omega arith)
