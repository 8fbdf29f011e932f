-- Lists are read as their productions say, both ways, if their items are.
use Rattle.std.proofs.Common.{◌≡◌, ◌≤◌, ◌<◌, ℕ, zero, suc, Bool, true, false, not, List, [], ◌∷◌, ◌++◌, length, codes, Ok, refl, sym, ap, ◌∙◌, subst, append_assoc, append-nil, length-append, arith}
use Rattle.vlog_tokens.specs.Toks.{Tok}
use Rattle.vlog_tree.specs.Spelling.Parts.{Commas, Is, Many, Production}
use Rattle.vlog_parse.specs.Reads.{Outcome, Parser, and_then, loop, loop_from, one_more, one_more_after_comma, repeated_until, sees, separated}
use Rattle.vlog_parse.proofs.Rules.{◌>>=◌, Complete, Sound, expects, found_is, left_is, mark_took, sees_is, then_took}

first_of_both : (first second : List Tok) (size : ℕ) → length (first ++ second) ≤ size → length first ≤ size
first_of_both first second size fits = let both = rw length-append at fits in omega arith

second_of_both : (first : List Tok) (comma : Tok) (second : List Tok) (size : ℕ) → length (first ++ comma ∷ second) ≤ size → length second ≤ size
second_of_both first comma second size fits = let both = rw length-append at fits in omega arith

second_shorter : (first second whole : List Tok) → whole ≡ first ++ second → length second ≤ length whole
second_shorter first second whole e = rw (e, length-append) (omega arith)

rest_fits : (first second : List Tok) (size : ℕ) → length (first ++ second) ≤ size → length second ≤ size
rest_fits first second size fits = let both = rw length-append at fits in omega arith

longer : (first second : List Tok) → 0 < length first → length second < length (first ++ second)
longer first second some = rw length-append (omega arith)

module _ {A : Type 0} (item : Parser A) (Spelled : Production A) where
  one_more_took : Sound item Spelled → (found : List A) (ts : List Tok) (more : List A) (rest : List Tok) → one_more item found ts ≡ Ok (more, rest)
      → (a : A) × (front : List Tok) × (ts ≡ front ++ rest) × Spelled front a × (more ≡ found ++ a ∷ [])
  unfolding one_more
  one_more_took sound found ts more rest e = do
    (a, left, was, m) ← then_took (item ts) _ more rest e
    (front, is, s) ← sound ts a left was
    (a, front, is ∙ ap (λ (xs : List Tok). front ++ xs) (sym (left_is m)), s, found_is m)

  one_more_reads : (found : List A) (ts : List Tok) (a : A) (rest : List Tok) → item ts ≡ Ok (a, rest) → one_more item found ts ≡ Ok (found ++ a ∷ [], rest)
  unfolding one_more
  one_more_reads found ts a rest e = ap (λ (o : Outcome A). and_then o (λ x us. Ok (found ++ x ∷ [], us))) e

  -- ---- x,+

  abbrev Step : List A → Parser (List A)
  Step = one_more_after_comma item

  -- After an item, more of them follow a comma each.
  abbrev Followed : ℕ → Type 0
  Followed turns = (found : List A) (a : A) (front ts : List Tok) (all_of : List A) (rest : List Tok) → Spelled front a → loop_from (sees (codes ",")) Step turns (found ++ a ∷ []) ts ≡ Ok (all_of, rest)
      → (us : List Tok) × (xs : List A) × (ts ≡ us ++ rest) × (all_of ≡ found ++ xs) × Commas Spelled (front ++ us) xs

  followed_step : (turns : ℕ) → Sound item Spelled → Followed turns → Followed (suc turns)
  unfolding loop_from one_more_after_comma
  followed_step turns sound followed found a front ts all_of rest s e = by (sees (codes ",") ts) refl
    where
      by : (b : Bool) → sees (codes ",") ts ≡ b → (us : List Tok) × (xs : List A) × (ts ≡ us ++ rest) × (all_of ≡ found ++ xs) × Commas Spelled (front ++ us) xs
      by false h =
          let ends = rw h at e in
          ([], a ∷ [], sym (left_is ends), found_is ends, subst (λ (us : List Tok). Commas Spelled us (a ∷ [])) (sym (append-nil front)) (Commas.last front a s))
      by true h = do
        (more, left, was, next) ← then_took (Step (found ++ a ∷ []) ts) (loop_from (sees (codes ",")) Step turns) all_of rest (rw h at e)
        (comma, ts1, e1, is, m) ← mark_took (codes ",") (λ _. one_more item (found ++ a ∷ [])) ts more left was
        (x, second, e2, s2, same) ← one_more_took sound (found ++ a ∷ []) ts1 more left m
        (us, xs, e3, all, spelled) ← followed (found ++ a ∷ []) x second left all_of rest s2 (subst (λ (state : List A). loop_from (sees (codes ",")) Step turns state left ≡ Ok (all_of, rest)) same next)
        (
          comma ∷ (second ++ us),
          a ∷ xs,
          e1 ∙ ap (λ (ys : List Tok). comma ∷ ys) (e2 ∙ ap (λ (ys : List Tok). second ++ ys) e3 ∙ sym (append_assoc second us rest)),
          all ∙ append_assoc found (a ∷ []) xs,
          Commas.next front comma (second ++ us) a xs s is spelled,
        )

  follows : Sound item Spelled → (turns : ℕ) → Followed turns
  unfolding loop_from
  follows sound zero found a front ts all_of rest s e = cc
  follows sound (suc turns) found a front ts all_of rest s e = followed_step turns sound (follows sound turns) found a front ts all_of rest s e

  pub separated_sound : Sound item Spelled → Sound (separated item) (Commas Spelled)
  unfolding separated loop
  separated_sound sound ts all_of rest e = do
    (first, left, was, next) ← then_took (one_more item [] ts) (loop (sees (codes ",")) Step) all_of rest e
    (a, front, e1, s, same) ← one_more_took sound [] ts first left was
    (us, xs, e2, all, spelled) ← follows sound (suc (length left)) [] a front left all_of rest s (subst (λ (state : List A). loop_from (sees (codes ",")) Step (suc (length left)) state left ≡ Ok (all_of, rest)) same next)
    (front ++ us, e1 ∙ ap (λ (ys : List Tok). front ++ ys) e2 ∙ sym (append_assoc front us rest), subst (λ (ys : List A). Commas Spelled (front ++ us) ys) (sym all) spelled)

  loop_stops : (turns : ℕ) (state : List A) (rest : List Tok) → length rest < turns → sees (codes ",") rest ≡ false → loop_from (sees (codes ",")) Step turns state rest ≡ Ok (state, rest)
  unfolding loop_from
  loop_stops zero state rest enough h = absurd (omega arith)
  loop_stops (suc turns) state rest enough h = rw h refl

  loop_turns : (turns : ℕ) (state : List A) (comma : Tok) (ts : List Tok) → length (comma ∷ ts) < turns → Is (codes ",") comma
      → (more : ℕ) × (length ts < more) × (loop_from (sees (codes ",")) Step turns state (comma ∷ ts) ≡ and_then (one_more item state ts) (loop_from (sees (codes ",")) Step more))
  unfolding loop_from one_more_after_comma
  loop_turns zero state comma ts enough is = absurd (omega arith)
  loop_turns (suc turns) state comma ts enough is = (turns, omega arith, rw (sees_is (codes ",") comma ts is, expects (codes ",") comma ts is) refl)

  -- What a list of this many tokens at most is read from, whatever may end it, goes on with the state that it gives.
  separated_goes : (Ends : List Tok → Type 0) (size : ℕ) → Complete Ends size item Spelled → ((comma : Tok) (ts : List Tok) → Is (codes ",") comma → Ends (comma ∷ ts))
      → {us : List Tok} {xs : List A} → Commas Spelled us xs → (rest : List Tok) → Ends rest → sees (codes ",") rest ≡ false → length us ≤ size
      → (found : List A) (turns : List Tok → ℕ) → ((left : List Tok) → length left ≤ length (us ++ rest) → length left < turns left)
      → and_then (one_more item found (us ++ rest)) (λ state left. loop_from (sees (codes ",")) Step (turns left) state left) ≡ Ok (found ++ xs, rest)
  unfolding one_more_after_comma
  separated_goes Ends size complete commas (Commas.last only a s) rest ends no_comma fits found turns enough =
      let read = one_more_reads found (only ++ rest) a rest (complete only a rest s fits ends) in
      let stop = loop_stops (turns rest) (found ++ a ∷ []) rest (enough rest (rw length-append (omega arith))) no_comma in
      ap (λ (o : Outcome (List A)). and_then o (λ state left. loop_from (sees (codes ",")) Step (turns left) state left)) read ∙ stop
  separated_goes Ends size complete commas (Commas.next first comma more a others s is spelled) rest ends no_comma fits found turns enough =
      let Rest : (ts : List Tok) → Outcome (List A) = λ ts. and_then (one_more item found ts) (λ state left. loop_from (sees (codes ",")) Step (turns left) state left) in
      let whole : (first ++ comma ∷ more) ++ rest ≡ first ++ (comma ∷ (more ++ rest)) = append_assoc first (comma ∷ more) rest in
      let read = one_more_reads found (first ++ (comma ∷ (more ++ rest))) a (comma ∷ (more ++ rest)) (complete first a (comma ∷ (more ++ rest)) s (first_of_both first (comma ∷ more) size fits) (commas comma (more ++ rest) is)) in
      do
        (left_turns, enough_left, turn) ← loop_turns (turns (comma ∷ (more ++ rest))) (found ++ a ∷ []) comma (more ++ rest)
            (enough (comma ∷ (more ++ rest)) (second_shorter first (comma ∷ (more ++ rest)) ((first ++ comma ∷ more) ++ rest) whole)) is
        (
            ap Rest whole ∙ ap (λ (o : Outcome (List A)). and_then o (λ state left. loop_from (sees (codes ",")) Step (turns left) state left)) read ∙ turn
            ∙ separated_goes Ends size complete commas spelled rest ends no_comma (second_of_both first comma more size fits) (found ++ a ∷ []) (λ _. left_turns) (λ left h. omega (arith, h, enough_left))
            ∙ ap (λ (ys : List A). Ok (ys, rest)) (append_assoc found (a ∷ []) others)
            )

  pub separated_complete : (Ends : List Tok → Type 0) (size : ℕ) → Complete Ends size item Spelled → ((comma : Tok) (ts : List Tok) → Is (codes ",") comma → Ends (comma ∷ ts))
      → Complete (λ rest. Ends rest × (sees (codes ",") rest ≡ false)) size (separated item) (Commas Spelled)
  unfolding separated loop
  separated_complete Ends size complete commas front xs rest spelled fits (ends, no_comma) =
      separated_goes Ends size complete commas spelled rest ends no_comma fits [] (λ left. suc (length left)) (λ left h. omega arith)

  -- ---- x*

  module _ (stop : List ℕ) where
    abbrev Goes : List Tok → Bool
    Goes ts = not (sees stop ts)

    abbrev Found : ℕ → Type 0
    Found turns = (found : List A) (ts : List Tok) (xs : List A) (rest : List Tok) → loop_from Goes (one_more item) turns found ts ≡ Ok (xs, rest)
        → (us : List Tok) × (more : List A) × (ts ≡ us ++ rest) × (xs ≡ found ++ more) × Many Spelled us more

    found_step : (turns : ℕ) → Sound item Spelled → Found turns → Found (suc turns)
    unfolding loop_from
    found_step turns sound found_rest found ts xs rest e = by (sees stop ts) refl
      where
        by : (b : Bool) → sees stop ts ≡ b → (us : List Tok) × (more : List A) × (ts ≡ us ++ rest) × (xs ≡ found ++ more) × Many Spelled us more
        by true h = let ends = rw h at e in ([], [], sym (left_is ends), found_is ends ∙ sym (append-nil found), Many.none)
        by false h = do
          (state, left, was, next) ← then_took (one_more item found ts) (loop_from Goes (one_more item) turns) xs rest (rw h at e)
          (a, front, e1, s, same) ← one_more_took sound found ts state left was
          (us, more, e2, all, spelled) ← found_rest (found ++ a ∷ []) left xs rest (subst (λ (state : List A). loop_from Goes (one_more item) turns state left ≡ Ok (xs, rest)) same next)
          (
            front ++ us,
            a ∷ more,
            e1 ∙ ap (λ (ys : List Tok). front ++ ys) e2 ∙ sym (append_assoc front us rest),
            all ∙ append_assoc found (a ∷ []) more,
            Many.next front us a more s spelled,
          )

    found_all : Sound item Spelled → (turns : ℕ) → Found turns
    unfolding loop_from
    found_all sound zero found ts xs rest e = cc
    found_all sound (suc turns) found ts xs rest e = found_step turns sound (found_all sound turns) found ts xs rest e

    pub repeated_sound : Sound item Spelled → Sound (repeated_until stop item) (Many Spelled)
    unfolding repeated_until loop
    repeated_sound sound ts xs rest e = do
      (us, more, e1, all, spelled) ← found_all sound (suc (length ts)) [] ts xs rest e
      (us, e1, subst (λ (ys : List A). Many Spelled us ys) (sym all) spelled)

    -- How each item begins: not with the word that ends the list, with a token, and so that the item before it may end there.
    abbrev pub Begins : (List Tok → Type 0) → Type 0
    Begins Ends = (front : List Tok) (a : A) (rest : List Tok) → Spelled front a → (sees stop (front ++ rest) ≡ false) × (0 < length front) × Ends (front ++ rest)

    many_end : (Ends : List Tok → Type 0) → Begins Ends → {us : List Tok} {xs : List A} → Many Spelled us xs → (rest : List Tok) → Ends rest → Ends (us ++ rest)
    many_end Ends begins Many.none rest ends = ends
    many_end Ends begins (Many.next first more a others s spelled) rest ends = subst Ends (sym (append_assoc first more rest)) (begins first a (more ++ rest) s).2

    repeat_stops : (turns : ℕ) (state : List A) (rest : List Tok) → length rest < turns → sees stop rest ≡ true → loop_from Goes (one_more item) turns state rest ≡ Ok (state, rest)
    unfolding loop_from
    repeat_stops zero state rest enough h = absurd (omega arith)
    repeat_stops (suc turns) state rest enough h = rw h refl

    repeat_turns : (turns : ℕ) (state next : List A) (ts left : List Tok) → length ts < turns → sees stop ts ≡ false → one_more item state ts ≡ Ok (next, left) → length left < length ts
        → (more : ℕ) × (length left < more) × (loop_from Goes (one_more item) turns state ts ≡ loop_from Goes (one_more item) more next left)
    unfolding loop_from
    repeat_turns zero state next ts left enough h read shorter = absurd (omega arith)
    repeat_turns (suc turns) state next ts left enough h read shorter = (turns, omega arith, rw (h, read) refl)

    repeated_goes : (Ends : List Tok → Type 0) (size : ℕ) → Complete Ends size item Spelled → Begins Ends
        → {us : List Tok} {xs : List A} → Many Spelled us xs → (rest : List Tok) → Ends rest → sees stop rest ≡ true → length us ≤ size
        → (found : List A) (turns : ℕ) → length (us ++ rest) < turns → loop_from Goes (one_more item) turns found (us ++ rest) ≡ Ok (found ++ xs, rest)
    repeated_goes Ends size complete begins Many.none rest ends stops fits found turns enough = repeat_stops turns found rest enough stops ∙ ap (λ (ys : List A). Ok (ys, rest)) (sym (append-nil found))
    repeated_goes Ends size complete begins (Many.next first more a others s spelled) rest ends stops fits found turns enough =
        let whole : (first ++ more) ++ rest ≡ first ++ (more ++ rest) = append_assoc first more rest in
        let start = begins first a (more ++ rest) s in
        let read = one_more_reads found (first ++ (more ++ rest)) a (more ++ rest) (complete first a (more ++ rest) s (first_of_both first more size fits) (many_end Ends begins spelled rest ends)) in
        do
          (left_turns, enough_left, turn) ← repeat_turns turns found (found ++ a ∷ []) (first ++ (more ++ rest)) (more ++ rest) (subst (λ (ts : List Tok). length ts < turns) whole enough) start.0 read (longer first (more ++ rest) start.1)
          (
              ap (λ (ts : List Tok). loop_from Goes (one_more item) turns found ts) whole ∙ turn
              ∙ repeated_goes Ends size complete begins spelled rest ends stops (rest_fits first more size fits) (found ++ a ∷ []) left_turns enough_left
              ∙ ap (λ (ys : List A). Ok (ys, rest)) (append_assoc found (a ∷ []) others)
              )

    pub repeated_complete : (Ends : List Tok → Type 0) (size : ℕ) → Complete Ends size item Spelled → Begins Ends
        → Complete (λ rest. Ends rest × (sees stop rest ≡ true)) size (repeated_until stop item) (Many Spelled)
    unfolding repeated_until loop
    repeated_complete Ends size complete begins front xs rest spelled fits (ends, stops) = repeated_goes Ends size complete begins spelled rest ends stops fits [] (suc (length (front ++ rest))) (omega arith)
