-- What a rule makes of the tokens up to one of them is told by these alone, whatever follows.
use Rattle.std.proofs.Common.{◌≡◌, ◌<◌, ◌≤◌, ◌+◌, ℕ, suc, Bool, true, false, List, [], ◌∷◌, ◌++◌, length, length-append, Option, Some, None, Ok, Err, if◌then◌else◌, refl, sym, ap, ◌∙◌, append_assoc, arith}
use Rattle.std.proofs.lemmas.List.{append_cancel_right}
use Rattle.vlog_tokens.specs.Toks.{Tok}
use Rattle.vlog_tree.specs.Spelling.Parts.{place_of}
use Rattle.vlog_parse.specs.Reads.{Outcome, Parser, ◌>>=◌, and_then, expect, here, pure, refuse, take_if, taken_by, token_if}
use Rattle.vlog_parse.proofs.Rules.{found_is, left_is}

-- an outcome by what was read, or nothing where the next token does not fit, and by what is left
abbrev pub ending : {A : Type 0} → Option A → List Tok → Outcome A
ending (Some a) left = Ok (a, left)
ending None left = Err left

-- What is left is the end of what there was. And where the rule comes to a token in a list of n tokens at most, the other
-- rule comes to it too, and to the same, in each list of m tokens at most that begins with the tokens up to it.
pub record Local {A : Type 0} (n m : ℕ) (rule other : Parser A) : Type 0 where
  pub keeps : (ts : List Tok) (found : Option A) (left : List Tok) → rule ts ≡ ending found left → (front : List Tok) × (ts ≡ front ++ left)
  pub moves : (front : List Tok) (tok : Tok) (rest more : List Tok) (found : Option A) → length front + length rest < n → length front + length more < m
      → rule (front ++ tok ∷ rest) ≡ ending found (tok ∷ rest) → other (front ++ tok ∷ more) ≡ ending found (tok ∷ more)

-- ---- outcomes

pub ending_of : {A : Type 0} (outcome : Outcome A) → (found : Option A) × (left : List Tok) × (outcome ≡ ending found left)
ending_of (Ok (a, left)) = (Some a, left, refl)
ending_of (Err left) = (None, left, refl)

stuck_is : {A : Type 0} {xs ys : List Tok} → ◌≡◌ {A = Outcome A} (Err xs) (Err ys) → xs ≡ ys
stuck_is e = cc

pub same_left : {A : Type 0} (one other : Option A) (xs ys : List Tok) → ending one xs ≡ ending other ys → xs ≡ ys
same_left (Some a) (Some b) xs ys e = sym (left_is e)
same_left (Some a) None xs ys e = cc
same_left None (Some b) xs ys e = cc
same_left None None xs ys e = stuck_is e

pub same_found : {A : Type 0} (one other : Option A) (xs ys : List Tok) → ending one xs ≡ ending other ys → one ≡ other
same_found (Some a) (Some b) xs ys e = ap Some (sym (found_is e))
same_found (Some a) None xs ys e = cc
same_found None (Some b) xs ys e = cc
same_found None None xs ys e = refl

-- what ends here ends at the other tokens with the same
at_other : {A : Type 0} (one other : Option A) (xs ys zs : List Tok) → ending one xs ≡ ending other ys → ending one zs ≡ ending other zs
at_other one other xs ys zs e = ap (λ o. ending o zs) (same_found one other xs ys e)

-- ---- lengths

-- no list is longer than itself
pub never_longer : (front : List Tok) (tok : Tok) (rest : List Tok) → rest ≡ front ++ tok ∷ rest → ⊥
never_longer front tok rest e = let both = rw length-append at (ap (length {A = Tok}) e) in omega arith

pub nothing_before : (front : List Tok) (tok : Tok) (rest : List Tok) → front ++ tok ∷ rest ≡ tok ∷ rest → front ≡ []
nothing_before [] tok rest e = refl
nothing_before (first ∷ front) tok rest e = let both = rw length-append at (ap (length {A = Tok}) e) in absurd (omega arith)

-- the tokens before two ends of one list
pub fronts : (front one two left : List Tok) (tok : Tok) (rest : List Tok) → front ++ tok ∷ rest ≡ one ++ left → left ≡ two ++ tok ∷ rest → front ≡ one ++ two
fronts front one two left tok rest e e2 = append_cancel_right front (one ++ two) (tok ∷ rest) (e ∙ ap (λ (xs : List Tok). one ++ xs) e2 ∙ sym (append_assoc one two (tok ∷ rest)))

-- ---- rules on one token

pub look_local : {A : Type 0} {n m : ℕ} (look : List Tok → A) → ((tok : Tok) (rest more : List Tok) → look (tok ∷ rest) ≡ look (tok ∷ more)) → Local n m (λ ts. Ok (look ts, ts)) (λ ts. Ok (look ts, ts))
look_local {A} look same = record {
  keeps = λ ts found left e. ([], same_left (Some (look ts)) found ts left e);
  moves = λ front tok rest more found fits fits2 e. moved front tok rest more found e;
}
  where
    moved : (front : List Tok) (tok : Tok) (rest more : List Tok) (found : Option A) → ◌≡◌ {A = Outcome A} (Ok (look (front ++ tok ∷ rest), front ++ tok ∷ rest)) (ending found (tok ∷ rest))
        → ◌≡◌ {A = Outcome A} (Ok (look (front ++ tok ∷ more), front ++ tok ∷ more)) (ending found (tok ∷ more))
    moved [] tok rest more found e = ap (λ (a : A). Ok (a, tok ∷ more)) (sym (same tok rest more)) ∙ at_other (Some (look (tok ∷ rest))) found (tok ∷ rest) (tok ∷ rest) (tok ∷ more) e
    moved (first ∷ front) tok rest more found e = let none = nothing_before (first ∷ front) tok rest (same_left (Some (look (first ∷ (front ++ tok ∷ rest)))) found (first ∷ (front ++ tok ∷ rest)) (tok ∷ rest) e) in cc

pub pure_local : {A : Type 0} {n m : ℕ} (a : A) → Local n m (pure a) (pure a)
pure_local a = look_local (λ ts. a) (λ tok rest more. refl)

pub here_local : {n m : ℕ} → Local n m here here
here_local = look_local place_of (λ tok rest more. refl)

pub refuse_local : {A : Type 0} {n m : ℕ} → Local n m (refuse {A = A}) (refuse {A = A})
refuse_local {A} = record {
  keeps = λ ts found left e. ([], same_left None found ts left e);
  moves = λ front tok rest more found fits fits2 e. moved front tok rest more found e;
}
  where
    moved : (front : List Tok) (tok : Tok) (rest more : List Tok) (found : Option A) → ◌≡◌ {A = Outcome A} (Err (front ++ tok ∷ rest)) (ending found (tok ∷ rest)) → ◌≡◌ {A = Outcome A} (Err (front ++ tok ∷ more)) (ending found (tok ∷ more))
    moved front tok rest more found e =
        ap (λ (us : List Tok). Err (us ++ tok ∷ more)) (nothing_before front tok rest (same_left None found (front ++ tok ∷ rest) (tok ∷ rest) e)) ∙ at_other None found (front ++ tok ∷ rest) (tok ∷ rest) (tok ∷ more) e

-- ---- one rule after another

-- a token that stands for something, and what goes on after it, which has one token less
pub taken_local : {A B : Type 0} {n m : ℕ} (meaning : Tok → Option A) {f g : A → Parser B} → ((a : A) → Local n m (f a) (g a)) → Local (suc n) (suc m) (take_if meaning >>= f) (take_if meaning >>= g)
unfolding take_if
taken_local {A} {B} {n} {m} meaning {f} {g} local = record {
  keeps = kept;
  moves = moved;
}
  where
    kept_by : (o : Option A) (tok : Tok) (ts : List Tok) (found : Option B) (left : List Tok) → and_then (taken_by o tok ts) f ≡ ending found left → (front : List Tok) × (tok ∷ ts ≡ front ++ left)
    kept_by (Some a) tok ts found left e = let (front, same) = (local a).keeps ts found left e in (tok ∷ front, ap (λ (xs : List Tok). tok ∷ xs) same)
    kept_by None tok ts found left e = ([], same_left None found (tok ∷ ts) left e)

    kept : (ts : List Tok) (found : Option B) (left : List Tok) → and_then (take_if meaning ts) f ≡ ending found left → (front : List Tok) × (ts ≡ front ++ left)
    kept [] found left e = ([], same_left None found [] left e)
    kept (tok ∷ ts) found left e = kept_by (meaning tok) tok ts found left e

    first_by : (o : Option A) (tok : Tok) (rest more : List Tok) (found : Option B) → and_then (taken_by o tok rest) f ≡ ending found (tok ∷ rest) → and_then (taken_by o tok more) g ≡ ending found (tok ∷ more)
    first_by (Some a) tok rest more found e = let (front, same) = (local a).keeps rest found (tok ∷ rest) e in absurd (never_longer front tok rest same)
    first_by None tok rest more found e = at_other None found (tok ∷ rest) (tok ∷ rest) (tok ∷ more) e

    later_by : (o : Option A) (first : Tok) (front : List Tok) (tok : Tok) (rest more : List Tok) (found : Option B) → length front + length rest < n → length front + length more < m
        → and_then (taken_by o first (front ++ tok ∷ rest)) f ≡ ending found (tok ∷ rest) → and_then (taken_by o first (front ++ tok ∷ more)) g ≡ ending found (tok ∷ more)
    later_by (Some a) first front tok rest more found fits fits2 e = (local a).moves front tok rest more found fits fits2 e
    later_by None first front tok rest more found fits fits2 e = let none = nothing_before (first ∷ front) tok rest (same_left None found (first ∷ (front ++ tok ∷ rest)) (tok ∷ rest) e) in cc

    moved : (front : List Tok) (tok : Tok) (rest more : List Tok) (found : Option B) → length front + length rest < suc n → length front + length more < suc m
        → and_then (take_if meaning (front ++ tok ∷ rest)) f ≡ ending found (tok ∷ rest) → and_then (take_if meaning (front ++ tok ∷ more)) g ≡ ending found (tok ∷ more)
    moved [] tok rest more found fits fits2 e = first_by (meaning tok) tok rest more found e
    moved (first ∷ front) tok rest more found fits fits2 e = later_by (meaning first) first front tok rest more found (omega arith) (omega arith) e

pub weaker : {A : Type 0} {n m k l : ℕ} {rule other : Parser A} → n ≤ k → m ≤ l → Local k l rule other → Local n m rule other
weaker low low2 local = record {
  keeps = local.keeps;
  moves = λ front tok rest more found fits fits2 e. local.moves front tok rest more found (omega arith) (omega arith) e;
}

pub take_local : {A : Type 0} {n m : ℕ} (meaning : Tok → Option A) → Local n m (take_if meaning) (take_if meaning)
take_local {A} {n} {m} meaning = record {
  keeps = λ ts found left e. both.keeps ts found left (again (take_if meaning ts) ∙ e);
  moves = λ front tok rest more found fits fits2 e. sym (again (take_if meaning (front ++ tok ∷ more))) ∙ both.moves front tok rest more found (omega arith) (omega arith) (again (take_if meaning (front ++ tok ∷ rest)) ∙ e);
}
  where
    both : Local (suc n) (suc m) (take_if meaning >>= pure) (take_if meaning >>= pure)
    both = taken_local meaning (λ a. pure_local a)

    again : (o : Outcome A) → and_then o pure ≡ o
    again (Ok (a, left)) = refl
    again (Err left) = refl

-- tokens that stand between are passed by as well
pub across : {A : Type 0} {n m : ℕ} {rule other : Parser A} → Local n m rule other → (one two : List Tok) (tok : Tok) (rest more : List Tok) (found : Option A)
    → length one + length two + length rest < n → length one + length two + length more < m → rule (one ++ (two ++ tok ∷ rest)) ≡ ending found (two ++ tok ∷ rest) → other (one ++ (two ++ tok ∷ more)) ≡ ending found (two ++ tok ∷ more)
across local one [] tok rest more found fits fits2 e = local.moves one tok rest more found (omega arith) (omega arith) e
across local one (first ∷ two) tok rest more found fits fits2 e =
    local.moves one first (two ++ tok ∷ rest) (two ++ tok ∷ more) found (rw length-append (omega arith)) (rw length-append (omega arith)) e

-- what is left of what is left
abbrev pub Keeps : {A : Type 0} → Parser A → Type 0
Keeps {A} rule = (ts : List Tok) (found : Option A) (left : List Tok) → rule ts ≡ ending found left → (front : List Tok) × (ts ≡ front ++ left)

pub then_keeps : {A B : Type 0} (p : Parser A) (f : A → Parser B) → Keeps p → ((a : A) → Keeps (f a)) → Keeps (p >>= f)
then_keeps {A} {B} p f keeps after ts found left e = by (ending_of (p ts)).0 (ending_of (p ts)).1 (ending_of (p ts)).2
  where
    by : (o : Option A) (mid : List Tok) → p ts ≡ ending o mid → (front : List Tok) × (ts ≡ front ++ left)
    by (Some a) mid h =
        let (one, e1) = keeps ts (Some a) mid h in
        let (two, e2) = after a mid found left (ap (λ (x : Outcome A). and_then x f) (sym h) ∙ e) in
        (one ++ two, e1 ∙ ap (λ (xs : List Tok). one ++ xs) e2 ∙ sym (append_assoc one two left))
    by None mid h =
        let same = same_left None found mid left (ap (λ (x : Outcome A). and_then x f) (sym h) ∙ e) in
        keeps ts None left (h ∙ ap (λ (xs : List Tok). Err xs) same)

-- Both rules come to the token if what goes on from where the first one stands does.
pub then_moves : {A B : Type 0} {n m : ℕ} {p q : Parser A} (f g : A → Parser B) → Local n m p q → ((a : A) → Keeps (f a)) → (front : List Tok) (tok : Tok) (rest more : List Tok) (found : Option B)
    → length front + length rest < n → length front + length more < m
    → ((a : A) (one two : List Tok) → front ≡ one ++ two → p (front ++ tok ∷ rest) ≡ Ok (a, two ++ tok ∷ rest) → f a (two ++ tok ∷ rest) ≡ ending found (tok ∷ rest) → g a (two ++ tok ∷ more) ≡ ending found (tok ∷ more))
    → and_then (p (front ++ tok ∷ rest)) f ≡ ending found (tok ∷ rest) → and_then (q (front ++ tok ∷ more)) g ≡ ending found (tok ∷ more)
then_moves {A} {B} {n} {m} {p} {q} f g local keeps front tok rest more found fits fits2 goes_on e = by (ending_of (p (front ++ tok ∷ rest))).0 (ending_of (p (front ++ tok ∷ rest))).1 (ending_of (p (front ++ tok ∷ rest))).2
  where
    through : (a : A) (one two : List Tok) → front ≡ one ++ two → p (front ++ tok ∷ rest) ≡ Ok (a, two ++ tok ∷ rest) → f a (two ++ tok ∷ rest) ≡ ending found (tok ∷ rest) → and_then (q (front ++ tok ∷ more)) g ≡ ending found (tok ∷ more)
    through a one two same h next =
        let longs : length front ≡ length one + length two = ap (length {A = Tok}) same ∙ length-append one two in
        let old : front ++ tok ∷ rest ≡ one ++ (two ++ tok ∷ rest) = ap (λ (xs : List Tok). xs ++ tok ∷ rest) same ∙ append_assoc one two (tok ∷ rest) in
        let new : front ++ tok ∷ more ≡ one ++ (two ++ tok ∷ more) = ap (λ (xs : List Tok). xs ++ tok ∷ more) same ∙ append_assoc one two (tok ∷ more) in
        let here : q (one ++ (two ++ tok ∷ more)) ≡ Ok (a, two ++ tok ∷ more) = across local one two tok rest more (Some a) (omega arith) (omega arith) (ap p (sym old) ∙ h) in
        ap (λ (xs : List Tok). and_then (q xs) g) new ∙ ap (λ (x : Outcome A). and_then x g) here ∙ goes_on a one two same h next

    by : (o : Option A) (mid : List Tok) → p (front ++ tok ∷ rest) ≡ ending o mid → and_then (q (front ++ tok ∷ more)) g ≡ ending found (tok ∷ more)
    by (Some a) mid h =
        let next : f a mid ≡ ending found (tok ∷ rest) = ap (λ (x : Outcome A). and_then x f) (sym h) ∙ e in
        let (one, e1) = local.keeps (front ++ tok ∷ rest) (Some a) mid h in
        let (two, e2) = keeps a mid found (tok ∷ rest) next in
        through a one two (fronts front one two mid tok rest e1 e2) (h ∙ ap (λ (xs : List Tok). Ok (a, xs)) e2) (ap (f a) (sym e2) ∙ next)
    by None mid h =
        let ends : ending None mid ≡ ending found (tok ∷ rest) = ap (λ (x : Outcome A). and_then x f) (sym h) ∙ e in
        let stuck : p (front ++ tok ∷ rest) ≡ ending None (tok ∷ rest) = h ∙ ap (λ (xs : List Tok). Err xs) (same_left None found mid (tok ∷ rest) ends) in
        ap (λ (x : Outcome A). and_then x g) (local.moves front tok rest more None fits fits2 stuck) ∙ at_other None found mid (tok ∷ rest) (tok ∷ more) ends

pub then_local : {A B : Type 0} {n m : ℕ} {p q : Parser A} {f g : A → Parser B} → Local n m p q → ((a : A) → Local n m (f a) (g a)) → Local n m (p >>= f) (q >>= g)
then_local {A} {B} {n} {m} {p} {q} {f} {g} local after = record {
  keeps = then_keeps p f local.keeps (λ a. (after a).keeps);
  moves = λ front tok rest more found fits fits2 e. then_moves f g local (λ a. (after a).keeps) front tok rest more found fits fits2 (on front tok rest more found fits fits2) e;
}
  where
    on : (front : List Tok) (tok : Tok) (rest more : List Tok) (found : Option B) → length front + length rest < n → length front + length more < m
        → (a : A) (one two : List Tok) → front ≡ one ++ two → p (front ++ tok ∷ rest) ≡ Ok (a, two ++ tok ∷ rest) → f a (two ++ tok ∷ rest) ≡ ending found (tok ∷ rest) → g a (two ++ tok ∷ more) ≡ ending found (tok ∷ more)
    on front tok rest more found fits fits2 a one two same h next =
        let longs : length front ≡ length one + length two = ap (length {A = Tok}) same ∙ length-append one two in
        (after a).moves two tok rest more found (omega arith) (omega arith) next

-- ---- choices by the next token

-- what the next token tells decides on the rule
pub by_local : {X A : Type 0} {n m : ℕ} (look : List Tok → X) → ((tok : Tok) (rest more : List Tok) → look (tok ∷ rest) ≡ look (tok ∷ more)) → (rule other : X → Parser A) → ((x : X) → Local n m (rule x) (other x))
    → Local n m (λ ts. rule (look ts) ts) (λ ts. other (look ts) ts)
by_local {X} {A} {n} {m} look same rule other local = record {
  keeps = λ ts found left e. (local (look ts)).keeps ts found left e;
  moves = λ front tok rest more found fits fits2 e. ap (λ (x : X). other x (front ++ tok ∷ more)) (looks front tok rest more) ∙ (local (look (front ++ tok ∷ rest))).moves front tok rest more found fits fits2 e;
}
  where
    looks : (front : List Tok) (tok : Tok) (rest more : List Tok) → look (front ++ tok ∷ more) ≡ look (front ++ tok ∷ rest)
    looks [] tok rest more = same tok more rest
    looks (first ∷ front) tok rest more = same first (front ++ tok ∷ more) (front ++ tok ∷ rest)

pub if_local : {A : Type 0} {n m : ℕ} {one one2 two two2 : Parser A} (goes : List Tok → Bool) → ((tok : Tok) (rest more : List Tok) → goes (tok ∷ rest) ≡ goes (tok ∷ more)) → Local n m one one2 → Local n m two two2
    → Local n m (λ ts. if goes ts then one ts else two ts) (λ ts. if goes ts then one2 ts else two2 ts)
if_local {A} {n} {m} {one} {one2} {two} {two2} goes same local local2 = by_local goes same (λ b ts. if b then one ts else two ts) (λ b ts. if b then one2 ts else two2 ts) by
  where
    by : (b : Bool) → Local n m (λ ts. if b then one ts else two ts) (λ ts. if b then one2 ts else two2 ts)
    by true = local
    by false = local2

-- ---- a reserved word or a mark

pub expect_local : {n m : ℕ} (text : List ℕ) → Local n m (expect text) (expect text)
unfolding expect
expect_local text = take_local (token_if text)

pub expected_local : {B : Type 0} {n m : ℕ} (text : List ℕ) {f g : Tok → Parser B} → ((tok : Tok) → Local n m (f tok) (g tok)) → Local (suc n) (suc m) (expect text >>= f) (expect text >>= g)
unfolding expect
expected_local text local = taken_local (token_if text) local

-- the same rules, written otherwise
pub as_local : {A : Type 0} {n m : ℕ} {rule rule2 other other2 : Parser A} → ((ts : List Tok) → rule ts ≡ rule2 ts) → ((ts : List Tok) → other ts ≡ other2 ts) → Local n m rule2 other2 → Local n m rule other
as_local same same2 local = record {
  keeps = λ ts found left e. local.keeps ts found left (sym (same ts) ∙ e);
  moves = λ front tok rest more found fits fits2 e. same2 (front ++ tok ∷ more) ∙ local.moves front tok rest more found fits fits2 (sym (same (front ++ tok ∷ rest)) ∙ e);
}
