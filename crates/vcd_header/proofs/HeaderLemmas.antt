-- A section of a header, by its first token and those behind it.
use Rattle.std.proofs.Common.{◌≡◌, ◌⊎◌, inl, inr, List, ◌∷◌, Bool, true, false, not, ◌||◌, codes, Option, Some, None, IfSome, if◌then◌else◌, refl, subst, sym, ap, ◌∙◌}
use Rattle.vcd_header.specs.declared.fault.VcdFault.{VcdFault}
use Rattle.vcd_header.specs.declared.fault.VcdFault.TheVariants.{Memory, Truncated}
use Rattle.vcd_header.specs.Declares.{Declared, declared_behind, declared_with}
use Rattle.vcd_header.specs.Header.{begins_section, fault_within, form_fault}
use Rattle.vcd_header.specs.Scopes.{Path}
use Rattle.vcd_header.specs.Sections.{group_rest, inner, is_closed, is_end, is_word}
use Rattle.vcd_header.specs.Tokens.{Tok}
use Rattle.vcd_header.specs.Variables.{Variable}
use Rattle.vcd_header.proofs.ListLemmas.{any_taken, before_taken}

begun : (earlier : List Variable) (path : Path) (first : Tok) (rest : List Tok) (closed : Bool) → is_end first ≡ false → begins_section first.text ≡ true → is_closed rest ≡ closed
    → fault_within earlier path (first ∷ rest) ≡ (if not closed then Some (Truncated first.at) else form_fault earlier path first (inner rest))
begun earlier path first rest closed other begins is = rw (other, begins, is) refl

pub within_form : (earlier : List Variable) (path : Path) (first : Tok) (rest : List Tok) → is_end first ≡ false → begins_section first.text ≡ true → is_closed rest ≡ true
    → fault_within earlier path (first ∷ group_rest rest) ≡ form_fault earlier path first (inner rest)
within_form earlier path first rest other begins closed =
    begun earlier path first (group_rest rest) true other begins (any_taken is_end rest ∙ closed)
    ∙ ap (form_fault earlier path first) (before_taken is_end rest)

pub within_open : (earlier : List Variable) (path : Path) (first : Tok) (rest : List Tok) → is_end first ≡ false → begins_section first.text ≡ true → is_closed rest ≡ false
    → fault_within earlier path (first ∷ group_rest rest) ≡ Some (Truncated first.at)
within_open earlier path first rest other begins open_end = begun earlier path first (group_rest rest) false other begins (any_taken is_end rest ∙ open_end)

-- whether a section says something of scopes or variables
abbrev pub is_command : Tok → Bool
is_command first = is_word (codes "$scope") first || is_word (codes "$upscope") first || is_word (codes "$var") first

pub form_of_other : (earlier : List Variable) (path : Path) (first : Tok) (inside : List Tok) → is_command first ≡ false → form_fault earlier path first inside ≡ None
form_of_other earlier path first inside other = by (is_word (codes "$scope") first) (is_word (codes "$upscope") first) (is_word (codes "$var") first) refl refl refl other
  where
    by : (a b c : Bool) → is_word (codes "$scope") first ≡ a → is_word (codes "$upscope") first ≡ b → is_word (codes "$var") first ≡ c → (a || b || c) ≡ false → form_fault earlier path first inside ≡ None
    by true b c ea eb ec h = absurd (cc)
    by false true c ea eb ec h = absurd (cc)
    by false false true ea eb ec h = absurd (cc)
    by false false false ea eb ec h = rw (ea, eb, ec) refl

pub declared_inside : (before : Declared) (first : Tok) (rest : List Tok) → declared_behind before (first ∷ group_rest rest) ≡ declared_with before first (inner rest)
declared_inside before first rest = ap (declared_with before first) (before_taken is_end rest)

-- a fault of the commands is one of the group
pub fault_of_form : (earlier : List Variable) (path : Path) (first : Tok) (rest inside : List Tok) (fault : VcdFault) → is_end first ≡ false → begins_section first.text ≡ true → is_closed rest ≡ true
    → inside ≡ inner rest → (form_fault earlier path first inside ≡ Some fault) ⊎ (fault ≡ Memory)
    → (fault_within earlier path (first ∷ group_rest rest) ≡ Some fault) ⊎ (fault ≡ Memory)
fault_of_form earlier path first rest inside fault other begins closed same (inl is) =
    inl (within_form earlier path first rest other begins closed ∙ ap (form_fault earlier path first) (sym same) ∙ is)
fault_of_form earlier path first rest inside fault other begins closed same (inr is) = inr is

-- what is said of the tokens inside, where they are there
pub told : {V : Type 0} (toks_of : V → List Tok) (found : Option V) (inside : V) (toks : List Tok) → found ≡ Some inside → IfSome found (λ inside. toks_of inside ≡ toks) → toks_of inside ≡ toks
told toks_of found inside toks is said = subst (λ found. IfSome found (λ inside. toks_of inside ≡ toks)) is said
