-- Rules that take a token at least, of which the tokens up to one of them tell all.
use Rattle.std.proofs.Common.{◌≡◌, ◌≤◌, ℕ, suc, Bool, true, false, List, ◌∷◌, if◌then◌else◌}
use Rattle.vlog_tokens.specs.Toks.{Tok}
use Rattle.vlog_parse.specs.Reads.{Parser, ◌>>=◌, expect}
use Rattle.vlog_parse.proofs.LocalLoops.{Takes, expect_takes, first_takes, if_takes, later_takes}
use Rattle.vlog_parse.proofs.Locals.{Local, by_local, expect_local, expected_local, if_local, then_local, weaker}

pub record Both {A : Type 0} (n m : ℕ) (rule other : Parser A) : Type 0 where
  pub local : Local n m rule other
  pub takes : Takes rule

module _ {A B : Type 0} {n m : ℕ} {p q : Parser A} {f g : A → Parser B} where
  pub first_both : Takes p → Local n m p q → ((a : A) → Local n m (f a) (g a)) → Both n m (p >>= f) (q >>= g)
  first_both takes local after = record { local = then_local local after; takes = first_takes takes (λ a. (after a).keeps) }

  pub later_both : Local n m p q → ((a : A) → Both n m (f a) (g a)) → Both n m (p >>= f) (q >>= g)
  later_both local after = record { local = then_local local (λ a. (after a).local); takes = later_takes local.keeps (λ a. (after a).takes) }

-- a reserved word or a mark, and what goes on after it, which has one token less
pub expected_both : {B : Type 0} {n m : ℕ} (text : List ℕ) {f g : Tok → Parser B} → ((tok : Tok) → Local n m (f tok) (g tok)) → Both (suc n) (suc m) (expect text >>= f) (expect text >>= g)
expected_both text after = record { local = expected_local text after; takes = first_takes (expect_takes text) (λ tok. (after tok).keeps) }

-- the same where it does not count how many there are
pub mark_both : {B : Type 0} {n m : ℕ} (text : List ℕ) {f g : Tok → Parser B} → ((tok : Tok) → Local n m (f tok) (g tok)) → Both n m (expect text >>= f) (expect text >>= g)
mark_both text after = first_both (expect_takes text) (expect_local text) after

pub if_both : {A : Type 0} {n m : ℕ} {one one2 two two2 : Parser A} (goes : List Tok → Bool) → ((tok : Tok) (rest more : List Tok) → goes (tok ∷ rest) ≡ goes (tok ∷ more)) → Both n m one one2 → Both n m two two2
    → Both n m (λ ts. if goes ts then one ts else two ts) (λ ts. if goes ts then one2 ts else two2 ts)
if_both goes same both both2 = record { local = if_local goes same both.local both2.local; takes = if_takes goes both.takes both2.takes }

pub by_both : {X A : Type 0} {n m : ℕ} (look : List Tok → X) → ((tok : Tok) (rest more : List Tok) → look (tok ∷ rest) ≡ look (tok ∷ more)) → (rule other : X → Parser A) → ((x : X) → Both n m (rule x) (other x))
    → Both n m (λ ts. rule (look ts) ts) (λ ts. other (look ts) ts)
by_both look same rule other both = record {
  local = by_local look same rule other (λ x. (both x).local);
  takes = record { takes = λ ts a left e. (both (look ts)).takes.takes ts a left e };
}

-- one of two rules, whatever decides on it
pub choose_both : {A : Type 0} {n m : ℕ} {one one2 two two2 : Parser A} (b : Bool) → Both n m one one2 → Both n m two two2 → Both n m (if b then one else two) (if b then one2 else two2)
choose_both true both both2 = both
choose_both false both both2 = both2

-- in shorter lists
pub fewer : {A : Type 0} {n m k l : ℕ} {rule other : Parser A} → n ≤ k → m ≤ l → Both k l rule other → Both n m rule other
fewer low low2 both = record { local = weaker low low2 both.local; takes = both.takes }
