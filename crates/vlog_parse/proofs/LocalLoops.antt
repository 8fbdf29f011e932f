-- Rules that take a token, and what loops of them make of the tokens up to one of them.
use Rattle.std.proofs.Common.{◌≡◌, ◌<◌, ◌≤◌, ◌+◌, ℕ, zero, suc, Bool, true, false, not, List, [], ◌∷◌, ◌++◌, length, length-append, codes, Option, Some, None, Ok, if◌then◌else◌, refl, ap, ◌∙◌, arith}
use Rattle.vlog_tokens.specs.Toks.{Tok}
use Rattle.vlog_parse.specs.Gathers.{add, add_after_comma, gathered, gathered_until}
use Rattle.vlog_parse.specs.Reads.{Parser, ◌>>=◌, and_then, expect, loop, loop_from, one_more, one_more_after_comma, pure, repeated_until, sees, separated, take_if, taken_by, token_if}
use Rattle.vlog_parse.proofs.Locals.{Keeps, Local, ending, expect_local, pure_local, same_left, then_keeps, then_local, then_moves}
use Rattle.vlog_parse.proofs.Rules.{left_is, then_took}

-- What the rule reads takes a token at least.
pub record Takes {A : Type 0} (rule : Parser A) : Type 0 where
  pub takes : (ts : List Tok) (a : A) (left : List Tok) → rule ts ≡ Ok (a, left) → length left < length ts

pub take_takes : {A : Type 0} (meaning : Tok → Option A) → Takes (take_if meaning)
unfolding take_if
take_takes {A} meaning = record { takes = took }
  where
    by : (o : Option A) (tok : Tok) (ts : List Tok) (a : A) (left : List Tok) → taken_by o tok ts ≡ Ok (a, left) → length left < length (tok ∷ ts)
    by (Some b) tok ts a left e = let same = ap (length {A = Tok}) (left_is e) in omega arith
    by None tok ts a left e = cc

    took : (ts : List Tok) (a : A) (left : List Tok) → take_if meaning ts ≡ Ok (a, left) → length left < length ts
    took [] a left e = cc
    took (tok ∷ ts) a left e = by (meaning tok) tok ts a left e

pub expect_takes : (text : List ℕ) → Takes (expect text)
unfolding expect
expect_takes text = take_takes (token_if text)

no_longer : {A : Type 0} (rule : Parser A) → Keeps rule → (ts : List Tok) (a : A) (left : List Tok) → rule ts ≡ Ok (a, left) → length left ≤ length ts
no_longer rule keeps ts a left e =
    let (front, same) = keeps ts (Some a) left e in
    let whole : length ts ≡ length front + length left = ap (length {A = Tok}) same ∙ length-append front left in
    omega arith

pub first_takes : {A B : Type 0} {p : Parser A} {f : A → Parser B} → Takes p → ((a : A) → Keeps (f a)) → Takes (p >>= f)
first_takes {A} {B} {p} {f} takes keeps = record { takes = took }
  where
    took : (ts : List Tok) (b : B) (left : List Tok) → and_then (p ts) f ≡ Ok (b, left) → length left < length ts
    took ts b left e =
        let (a, mid, was, next) = then_took (p ts) f b left e in
        let shorter = takes.takes ts a mid was in
        let shorter2 = no_longer (f a) (keeps a) mid b left next in
        omega arith

pub later_takes : {A B : Type 0} {p : Parser A} {f : A → Parser B} → Keeps p → ((a : A) → Takes (f a)) → Takes (p >>= f)
later_takes {A} {B} {p} {f} keeps takes = record { takes = took }
  where
    took : (ts : List Tok) (b : B) (left : List Tok) → and_then (p ts) f ≡ Ok (b, left) → length left < length ts
    took ts b left e =
        let (a, mid, was, next) = then_took (p ts) f b left e in
        let shorter = no_longer p keeps ts a mid was in
        let shorter2 = (takes a).takes mid b left next in
        omega arith

pub if_takes : {A : Type 0} {one two : Parser A} (goes : List Tok → Bool) → Takes one → Takes two → Takes (λ ts. if goes ts then one ts else two ts)
if_takes {A} {one} {two} goes takes takes2 = record { takes = λ ts a left e. by (goes ts) ts a left e }
  where
    by : (b : Bool) (ts : List Tok) (a : A) (left : List Tok) → (if b then one ts else two ts) ≡ Ok (a, left) → length left < length ts
    by true ts a left e = takes.takes ts a left e
    by false ts a left e = takes2.takes ts a left e

-- ---- loops

module _ {S : Type 0} (goes : List Tok → Bool) (step : S → Parser S) (keeps : (s : S) → Keeps (step s)) where
  loop_keeps_step : (turns : ℕ) → ((s : S) → Keeps (loop_from goes step turns s)) → (s : S) → Keeps (loop_from goes step (suc turns) s)
  unfolding loop_from
  loop_keeps_step turns after s ts found left e = by (goes ts) e
    where
      by : (b : Bool) → (if b then and_then (step s ts) (loop_from goes step turns) else Ok (s, ts)) ≡ ending found left → (front : List Tok) × (ts ≡ front ++ left)
      by true e = then_keeps (step s) (loop_from goes step turns) (keeps s) after ts found left e
      by false e = ([], same_left (Some s) found ts left e)

  pub loop_keeps : (turns : ℕ) (s : S) → Keeps (loop_from goes step turns s)
  unfolding loop_from
  loop_keeps zero s ts found left e = ([], same_left None found ts left e)
  loop_keeps (suc turns) s ts found left e = loop_keeps_step turns (loop_keeps turns) s ts found left e

module _ {S : Type 0} {n m : ℕ} (goes : List Tok → Bool) (same : (tok : Tok) (rest more : List Tok) → goes (tok ∷ rest) ≡ goes (tok ∷ more)) {step step2 : S → Parser S} (local : (s : S) → Local n m (step s) (step2 s))
    (takes : (s : S) → Takes (step s)) where
  looks : (front : List Tok) (tok : Tok) (rest more : List Tok) → goes (front ++ tok ∷ more) ≡ goes (front ++ tok ∷ rest)
  looks [] tok rest more = same tok more rest
  looks (first ∷ front) tok rest more = same first (front ++ tok ∷ more) (front ++ tok ∷ rest)

  abbrev MovesFrom : ℕ → Type 0
  MovesFrom turns = (turns2 : ℕ) (s : S) (front : List Tok) (tok : Tok) (rest more : List Tok) (found : Option S) → length front + length rest < n → length front + length more < m
      → length front + length rest < turns → length front < turns2 → loop_from goes step turns s (front ++ tok ∷ rest) ≡ ending found (tok ∷ rest) → loop_from goes step2 turns2 s (front ++ tok ∷ more) ≡ ending found (tok ∷ more)

  moves_step : (turns : ℕ) → MovesFrom turns → MovesFrom (suc turns)
  unfolding loop_from
  moves_step turns later zero s front tok rest more found fits fits2 enough enough2 e = absurd (omega arith)
  moves_step turns later (suc turns2) s front tok rest more found fits fits2 enough enough2 e =
      ap (λ (b : Bool). if b then and_then (step2 s (front ++ tok ∷ more)) (loop_from goes step2 turns2) else Ok (s, front ++ tok ∷ more)) (looks front tok rest more) ∙ by (goes (front ++ tok ∷ rest)) e
    where
      on : (a : S) (one two : List Tok) → front ≡ one ++ two → step s (front ++ tok ∷ rest) ≡ Ok (a, two ++ tok ∷ rest) → loop_from goes step turns a (two ++ tok ∷ rest) ≡ ending found (tok ∷ rest)
          → loop_from goes step2 turns2 a (two ++ tok ∷ more) ≡ ending found (tok ∷ more)
      on a one two is h next =
          let longs : length front ≡ length one + length two = ap (length {A = Tok}) is ∙ length-append one two in
          let took = (takes s).takes (front ++ tok ∷ rest) a (two ++ tok ∷ rest) h in
          let shorter : length two + suc (length rest) < length front + suc (length rest) = rw (length-append, length-append) at took in
          later turns2 a two tok rest more found (omega arith) (omega arith) (omega arith) (omega arith) next

      by : (b : Bool) → (if b then and_then (step s (front ++ tok ∷ rest)) (loop_from goes step turns) else Ok (s, front ++ tok ∷ rest)) ≡ ending found (tok ∷ rest)
          → (if b then and_then (step2 s (front ++ tok ∷ more)) (loop_from goes step2 turns2) else Ok (s, front ++ tok ∷ more)) ≡ ending found (tok ∷ more)
      by true e = then_moves (loop_from goes step turns) (loop_from goes step2 turns2) (local s) (λ a. loop_keeps goes step (λ x. (local x).keeps) turns a) front tok rest more found fits fits2 on e
      by false e = let stays : Local n m (pure s) (pure s) = pure_local s in stays.moves front tok rest more found fits fits2 e

  moves_from : (turns : ℕ) → MovesFrom turns
  unfolding loop_from
  moves_from zero turns2 s front tok rest more found fits fits2 enough enough2 e = absurd (omega arith)
  moves_from (suc turns) turns2 s front tok rest more found fits fits2 enough enough2 e = moves_step turns (moves_from turns) turns2 s front tok rest more found fits fits2 enough enough2 e

  pub loop_local : (s : S) → Local n m (loop goes step s) (loop goes step2 s)
  unfolding loop
  loop_local s = record {
    keeps = λ ts found left e. loop_keeps goes step (λ x. (local x).keeps) (suc (length ts)) s ts found left e;
    moves = λ front tok rest more found fits fits2 e. moves_from (suc (length (front ++ tok ∷ rest))) (suc (length (front ++ tok ∷ more))) s front tok rest more found fits fits2 (rw length-append (omega arith)) (rw length-append (omega arith)) e;
  }

-- ---- lists

module _ {A : Type 0} {n m : ℕ} {item item2 : Parser A} (local : Local n m item item2) where
  pub one_more_local : (found : List A) → Local n m (one_more item found) (one_more item2 found)
  unfolding one_more
  one_more_local found = then_local local (λ a. pure_local (found ++ a ∷ []))

  after_comma_local : (found : List A) → Local n m (one_more_after_comma item found) (one_more_after_comma item2 found)
  unfolding one_more_after_comma
  after_comma_local found = then_local (expect_local (codes ",")) (λ _. one_more_local found)

  after_comma_takes : (found : List A) → Takes (one_more_after_comma item found)
  unfolding one_more_after_comma
  after_comma_takes found = first_takes (expect_takes (codes ",")) (λ _. (one_more_local found).keeps)

  pub separated_local : Local n m (separated item) (separated item2)
  unfolding separated
  separated_local = then_local (one_more_local []) (λ first. loop_local (sees (codes ",")) (λ tok rest more. refl) after_comma_local after_comma_takes first)

  one_more_takes : Takes item → (found : List A) → Takes (one_more item found)
  unfolding one_more
  one_more_takes takes found = first_takes takes (λ a. (let stays : Local n m (pure (found ++ a ∷ [])) (pure (found ++ a ∷ [])) = pure_local (found ++ a ∷ []) in stays.keeps))

  pub many_local : Takes item → (goes : List Tok → Bool) → ((tok : Tok) (rest more : List Tok) → goes (tok ∷ rest) ≡ goes (tok ∷ more)) → (found : List A) → Local n m (loop goes (one_more item) found) (loop goes (one_more item2) found)
  many_local takes goes same found = loop_local goes same one_more_local (one_more_takes takes) found

  pub repeated_local : (stop : List ℕ) → Takes item → Local n m (repeated_until stop item) (repeated_until stop item2)
  unfolding repeated_until
  repeated_local stop takes = many_local takes (λ ts. not (sees stop ts)) (λ tok rest more. refl) []

-- the same of parts that add some items each
module _ {A B : Type 0} {n m : ℕ} (items_of : A → List B) {part part2 : Parser A} (local : Local n m part part2) where
  add_local : (found : List B) → Local n m (add items_of part found) (add items_of part2 found)
  unfolding add
  add_local found = then_local local (λ a. pure_local (found ++ items_of a))

  add_comma_local : (found : List B) → Local n m (add_after_comma items_of part found) (add_after_comma items_of part2 found)
  unfolding add_after_comma
  add_comma_local found = then_local (expect_local (codes ",")) (λ _. add_local found)

  add_comma_takes : (found : List B) → Takes (add_after_comma items_of part found)
  unfolding add_after_comma
  add_comma_takes found = first_takes (expect_takes (codes ",")) (λ _. (add_local found).keeps)

  add_takes : Takes part → (found : List B) → Takes (add items_of part found)
  unfolding add
  add_takes takes found = first_takes takes (λ a. (let stays : Local n m (pure (found ++ items_of a)) (pure (found ++ items_of a)) = pure_local (found ++ items_of a) in stays.keeps))

  pub gathered_local : Local n m (gathered items_of part) (gathered items_of part2)
  unfolding gathered
  gathered_local = then_local (add_local []) (λ found. loop_local (sees (codes ",")) (λ tok rest more. refl) add_comma_local add_comma_takes found)

  pub gathered_until_local : (stop : List ℕ) → Takes part → (found : List B) → Local n m (gathered_until stop items_of part found) (gathered_until stop items_of part2 found)
  unfolding gathered_until
  gathered_until_local stop takes found = loop_local (λ ts. not (sees stop ts)) (λ tok rest more. refl) add_local (add_takes takes) found
