-- What is gathered from parts: the lists of parts that were read, with the items of each.
use Rattle.std.proofs.Common.{◌≡◌, ◌≤◌, ℕ, zero, suc, Bool, true, false, not, List, [], ◌∷◌, ◌++◌, length, codes, Ok, Err, refl, sym, ap, ◌∙◌, append-nil}
use Rattle.std.specs.List.{flat_map}
use Rattle.std.proofs.lemmas.List.{flat_map_more}
use Rattle.vlog_tokens.specs.Toks.{Tok}
use Rattle.vlog_tree.specs.Spelling.Parts.{Commas, Is, Many, Production}
use Rattle.vlog_parse.specs.Gathers.{add, add_after_comma, gathered, gathered_until}
use Rattle.vlog_parse.specs.Reads.{Outcome, Parser, and_then, expect, loop, loop_from, one_more, one_more_after_comma, repeated_until, sees, separated}
use Rattle.vlog_parse.proofs.Lists.{repeated_complete, repeated_sound, separated_complete, separated_sound, Begins}
use Rattle.vlog_parse.proofs.Rules.{◌>>=◌, Complete, Sound, found_is, left_is}

-- ---- an outcome of which something is made

abbrev pub made : {A B : Type 0} → (A → B) → Outcome A → Outcome B
made f (Ok p) = Ok (f p.0, p.1)
made f (Err left) = Err left

made_took : {A B : Type 0} (f : A → B) (outcome : Outcome A) (b : B) (rest : List Tok) → made f outcome ≡ Ok (b, rest) → (a : A) × (outcome ≡ Ok (a, rest)) × (b ≡ f a)
made_took f (Ok (a, left)) b rest e = (a, ap (λ (xs : List Tok). Ok (a, xs)) (sym (left_is e)), found_is e)
made_took f (Err stuck) b rest e = cc

-- Two loops whose turns keep what is made of the state.
module _ {S T : Type 0} (f : S → T) (goes : List Tok → Bool) (step : S → Parser S) (other : T → Parser T) (same : (state : S) (ts : List Tok) → other (f state) ts ≡ made f (step state ts)) where
  abbrev Keeps : ℕ → Type 0
  Keeps turns = (state : S) (ts : List Tok) → loop_from goes other turns (f state) ts ≡ made f (loop_from goes step turns state ts)

  turn_kept : (turns : ℕ) → Keeps turns → (outcome : Outcome S) → and_then (made f outcome) (loop_from goes other turns) ≡ made f (and_then outcome (loop_from goes step turns))
  turn_kept turns keeps (Ok (state, left)) = keeps state left
  turn_kept turns keeps (Err stuck) = refl

  more_kept : (turns : ℕ) → Keeps turns → Keeps (suc turns)
  unfolding loop_from
  more_kept turns keeps state ts = by (goes ts) refl
    where
      by : (b : Bool) → goes ts ≡ b → loop_from goes other (suc turns) (f state) ts ≡ made f (loop_from goes step (suc turns) state ts)
      by true h = rw (h, same state ts) (turn_kept turns keeps (step state ts))
      by false h = rw h refl

  kept : (turns : ℕ) → Keeps turns
  unfolding loop_from
  kept zero state ts = refl
  kept (suc turns) state ts = more_kept turns (kept turns) state ts

  pub loop_kept : (state : S) (ts : List Tok) → loop goes other (f state) ts ≡ made f (loop goes step state ts)
  unfolding loop
  loop_kept state ts = kept (suc (length ts)) state ts

  pub after_kept : (outcome : Outcome S) → and_then (made f outcome) (loop goes other) ≡ made f (and_then outcome (loop goes step))
  after_kept (Ok (state, left)) = loop_kept state left
  after_kept (Err stuck) = refl

module _ {A B : Type 0} (items_of : A → List B) (part : Parser A) (base : List B) where
  abbrev Items : List A → List B
  Items parts = base ++ flat_map items_of parts

  add_made : (found : List A) (outcome : Outcome A) → and_then outcome (λ a left. Ok (Items found ++ items_of a, left)) ≡ made Items (and_then outcome (λ a left. Ok (found ++ a ∷ [], left)))
  add_made found (Ok (a, left)) = ap (λ (items : List B). Ok (items, left)) (flat_map_more items_of base found a)
  add_made found (Err stuck) = refl

  pub add_is : (found : List A) (ts : List Tok) → add items_of part (Items found) ts ≡ made Items (one_more part found ts)
  unfolding add one_more
  add_is found ts = add_made found (part ts)

  comma_made : (found : List A) (outcome : Outcome Tok) → and_then outcome (λ _. add items_of part (Items found)) ≡ made Items (and_then outcome (λ _. one_more part found))
  comma_made found (Ok (comma, left)) = add_is found left
  comma_made found (Err stuck) = refl

  pub add_after_comma_is : (found : List A) (ts : List Tok) → add_after_comma items_of part (Items found) ts ≡ made Items (one_more_after_comma part found ts)
  unfolding add_after_comma one_more_after_comma
  add_after_comma_is found ts = comma_made found (expect (codes ",") ts)

module _ {A B : Type 0} (items_of : A → List B) (part : Parser A) where
  gathered_is : (ts : List Tok) → gathered items_of part ts ≡ made (flat_map items_of) (separated part ts)
  unfolding gathered separated
  gathered_is ts = ap (λ (o : Outcome (List B)). and_then o (loop (sees (codes ",")) (add_after_comma items_of part))) (add_is items_of part [] [] ts)
      ∙ after_kept (flat_map items_of) (sees (codes ",")) (one_more_after_comma part) (add_after_comma items_of part) (add_after_comma_is items_of part []) (one_more part [] ts)

  until_is : (stop : List ℕ) (base : List B) (ts : List Tok) → gathered_until stop items_of part base ts ≡ made (λ parts. base ++ flat_map items_of parts) (repeated_until stop part ts)
  unfolding gathered_until repeated_until
  until_is stop base ts = ap (λ (found : List B). loop (λ us. not (sees stop us)) (add items_of part) found ts) (sym (append-nil base))
      ∙ loop_kept (λ parts. base ++ flat_map items_of parts) (λ us. not (sees stop us)) (one_more part) (add items_of part) (add_is items_of part base) [] ts

  module _ (Spelled : Production A) where
    -- The items of parts that are spelled with commas between.
    abbrev pub Gathered : Production (List B)
    Gathered ts items = (parts : List A) × Commas Spelled ts parts × (items ≡ flat_map items_of parts)

    pub gathered_sound : Sound part Spelled → Sound (gathered items_of part) Gathered
    gathered_sound sound ts items rest e = do
      (parts, read, same) ← made_took (flat_map items_of) (separated part ts) items rest (sym (gathered_is ts) ∙ e)
      (front, is, spelled) ← separated_sound part Spelled sound ts parts rest read
      (front, is, (parts, spelled, same))

    pub gathered_complete : (Ends : List Tok → Type 0) (size : ℕ) → Complete Ends size part Spelled → ((comma : Tok) (ts : List Tok) → Is (codes ",") comma → Ends (comma ∷ ts))
        → (front : List Tok) (parts : List A) (rest : List Tok) → Commas Spelled front parts → length front ≤ size → Ends rest → sees (codes ",") rest ≡ false → gathered items_of part (front ++ rest) ≡ Ok (flat_map items_of parts, rest)
    gathered_complete Ends size complete commas front parts rest spelled fits ends no_comma =
        gathered_is (front ++ rest) ∙ ap (made (flat_map items_of)) (separated_complete part Spelled Ends size complete commas front parts rest spelled fits (ends, no_comma))

    pub until_sound : Sound part Spelled → (stop : List ℕ) (base : List B) → Sound (gathered_until stop items_of part base) (λ ts items. (parts : List A) × Many Spelled ts parts × (items ≡ base ++ flat_map items_of parts))
    until_sound sound stop base ts items rest e = do
      (parts, read, same) ← made_took (λ found. base ++ flat_map items_of found) (repeated_until stop part ts) items rest (sym (until_is stop base ts) ∙ e)
      (front, is, spelled) ← repeated_sound part Spelled stop sound ts parts rest read
      (front, is, (parts, spelled, same))

    pub until_complete : (Ends : List Tok → Type 0) (size : ℕ) → Complete Ends size part Spelled → (stop : List ℕ) → Begins part Spelled stop Ends
        → (base : List B) (front : List Tok) (parts : List A) (rest : List Tok) → Many Spelled front parts → length front ≤ size → Ends rest → sees stop rest ≡ true
        → gathered_until stop items_of part base (front ++ rest) ≡ Ok (base ++ flat_map items_of parts, rest)
    until_complete Ends size complete stop begins base front parts rest spelled fits ends stops =
        until_is stop base (front ++ rest) ∙ ap (made (λ found. base ++ flat_map items_of found)) (repeated_complete part Spelled stop Ends size complete begins front parts rest spelled fits (ends, stops))
