-- The places of the modules of a design.
use Rattle.std.proofs.Common.{◌≡◌, ℕ, suc, ◌+◌, ◌<◌, Bool, true, false, cond, inl, inr, get_or, List, [], ◌∷◌, ◌++◌, Option, Some, None, refl, sym, ◌∙◌, ap, subst, arith, bytes_eq, find, length, length-append, slice_get, zero}
use Rattle.std.proofs.lemmas.Option.{same_Some, slice_get_read}
use Rattle.std.proofs.lemmas.Slice.Eq.{bytes_eq-Decides}
use Rattle.bm_base.specs.declared.Size.{Size}
use Rattle.flat_net.specs.declared.fault.FlatFault.{FlatFault}
use Rattle.flat_net.specs.declared.fault.FlatFault.TheVariants as fault
use Rattle.std.proofs.lemmas.Bool.{false≢true}
use Rattle.hierarchy.specs.Graph.{name_at}
use Rattle.hierarchy.specs.Reach.{reaches}
use Rattle.lowering.specs.Limits.{Excuses}
use Rattle.vlog_tree.specs.declared.design.Module.{Module}
use Rattle.vlog_tree.specs.Meaning.Uses.{Text}
use Rattle.numbering.proofs.NumberListLemmas.{append_cases}
use Rattle.numbering.specs.Places.{Placing, count_of_bits, placing}
use Rattle.frames.specs.Found.{HavePlaces, IsFound, clock_by, placing_of}
use Rattle.frames.specs.Numbered.{Numbered}

-- ---- the module of a name

pub found_passes : {X : Type 0} (test : X → Bool) (xs : List X) (x : X) → find test xs ≡ Some x → test x ≡ true
found_passes test [] x is = absurd (cc)
found_passes test (y ∷ xs) x is = by (test y) refl is (found_passes test xs x)
  where
    by : (b : Bool) → test y ≡ b → cond b (Some y) (find test xs) ≡ Some x → (find test xs ≡ Some x → test x ≡ true) → test x ≡ true
    by true passes found later = subst (λ z. test z ≡ true) (same_Some y x found) passes
    by false fails found later = later found

pub named : (modules : List Module) (name : Text) (m : Module) → find (λ m. bytes_eq m.name name) modules ≡ Some m → m.name ≡ name
named modules name m is = (bytes_eq-Decides m.name name).0 (found_passes (λ m. bytes_eq m.name name) modules m is)

module _ (it : Numbered) (name : Text) (m : Module) (other : Text) (b : Bool)
    (top : find (λ m. bytes_eq m.name it.top) it.design.modules ≡ Some m) (same : other ≡ m.name) (tested : b ≡ bytes_eq name other) where
  pub clock_is : cond b (Some it.clock) None ≡ clock_by it name
  clock_is =
      ap (λ b. cond b (Some it.clock) None)
      (tested ∙ ap (bytes_eq name) (same ∙ named it.design.modules it.top m top))

-- ---- the module at a place

pub at_place : (modules items : List Module) (i : ℕ) (m : Module) → items ≡ modules → i < length modules → m ≡ get_or items i m
    → slice_get modules i ≡ Some m
at_place modules items i m same within is =
    ap (λ list. slice_get list i) (sym same) ∙ slice_get_read items (length modules) i m (ap length (sym same)) within is

pub name_there : (modules : List Module) (i : ℕ) (m : Module) → slice_get modules i ≡ Some m → name_at modules i ≡ m.name
name_there [] i m at = absurd (cc)
name_there (first ∷ modules) zero m at = ap (λ m. m.name) (same_Some first m at)
name_there (first ∷ modules) (suc i) m at = name_there modules i m at

module _ (it : Numbered) (place : ℕ) (b : Bool) (reach : b ≡ reaches it.design it.top (name_at it.design.modules place)) where
  pub reached_by : (m : Module) → slice_get it.design.modules place ≡ Some m → b ≡ reaches it.design it.top m.name
  reached_by m at = reach ∙ ap (reaches it.design it.top) (name_there it.design.modules place m at)

  pub not_reached : b ≡ false → (m : Module) → slice_get it.design.modules place ≡ Some m → IsFound it m None
  not_reached fails m at reaches_it = absurd (false≢true (sym fails ∙ reached_by m at ∙ reaches_it))

module _ (it : Numbered) (place : ℕ) (own : Module) (clock : Option Text) (name : Text)
    (there : slice_get it.design.modules place ≡ Some own) (clocked : clock ≡ clock_by it name) (named_so : name ≡ own.name) where
  placing_is : (m : Module) → slice_get it.design.modules place ≡ Some m → placing own clock ≡ placing_of it m
  placing_is m at =
      ap (placing own) (clocked ∙ ap (clock_by it) named_so) ∙ ap (placing_of it) (same_Some own m (sym there ∙ at))

  pub found : (places : Placing) → places ≡ placing own clock → (m : Module) → slice_get it.design.modules place ≡ Some m
      → IsFound it m (Some places)
  found places is m at = is ∙ placing_is m at

  pub too_many : (why : FlatFault) (what : Size) → why ≡ fault.TooLarge what → Excuses (count_of_bits (placing own clock)) why → (m : Module)
      → slice_get it.design.modules place ≡ Some m → IsFound it m None
  too_many why what is excused m at reaches_it =
      let large : Excuses (count_of_bits (placing own clock)) (fault.TooLarge what) = subst (Excuses (count_of_bits (placing own clock))) is excused in
      subst (λ it. 1048576 < count_of_bits it) (placing_is m at) large.1

-- ---- one module more

pub no_places : (it : Numbered) (places : List (Option Placing)) → places ≡ [] → HavePlaces it 0 places
no_places it places none = record {
  counted = ap length none;
  each = λ place m one at here. absurd (empty place one (ap (λ places. slice_get places place) (sym none) ∙ here));
}
  where
    empty : (place : ℕ) (one : Option Placing) → slice_get {X = Option Placing} [] place ≡ Some one → ⊥
    empty place one at = cc

pub more_places : (it : Numbered) (count : ℕ) (places after : List (Option Placing)) (more : Option Placing) → HavePlaces it count places
    → after ≡ places ++ more ∷ []
    → ((m : Module) → slice_get it.design.modules count ≡ Some m → IsFound it m more)
    → HavePlaces it (count + 1) after
more_places it count places after more so_far is found = record {
  counted = ap length is ∙ length-append places (more ∷ []) ∙ ap (λ n. n + 1) so_far.counted;
  each = λ place m one at here. elim (append_cases places (more ∷ []) place one (ap (λ places. slice_get places place) (sym is) ∙ here)) [
    | inl before ↦ so_far.each place m one at before
    | inr last ↦ at_end place m one at last.0 last.1 last.2
  ];
}
  where
    at_end : (place : ℕ) (m : Module) (one : Option Placing) → slice_get it.design.modules place ≡ Some m → (rest : ℕ) → place ≡ length places + rest
        → slice_get (more ∷ []) rest ≡ Some one → IsFound it m one
    at_end place m one at zero e here =
        let end : place ≡ count = (let c : length places ≡ count = so_far.counted in omega arith) in
        subst (IsFound it m) (same_Some more one here) (found m (ap (slice_get it.design.modules) (sym end) ∙ at))
    at_end place m one at (suc rest) e here = absurd (cc)
