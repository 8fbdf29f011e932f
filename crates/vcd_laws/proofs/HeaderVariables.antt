-- What the written header declares: one scope, and in it the clock, the checker where there is one, and the ports.
use Rattle.std.proofs.Common.{◌≡◌, ◌≢◌, ℕ, ◌+◌, ◌≤◌, suc, List, [], ◌∷◌, ◌++◌, All, Bool, true, false, codes, decimal, length, map, Option, Some, None, if◌then◌else◌, arith, refl, subst, sym, ap, ◌∙◌}
use Rattle.std.specs.Option.{option_map}
use Rattle.std.specs.Str.{bytes_eq}
use Rattle.std.proofs.lemmas.List.{append_assoc, append-nil}
use Rattle.bm_base.specs.declared.range.Range.{Range}
use Rattle.trace_rows.specs.declared.labels.Labels.{Labels}
use Rattle.trace_rows.specs.declared.labels.PortLabel.{PortLabel}
use Rattle.vcd_header.specs.declared.fault.VcdFault.TheVariants.{BadCode}
use Rattle.vcd_header.specs.declared.select.Select.{Select}
use Rattle.vcd_header.specs.Decimals.{small_number}
use Rattle.vcd_header.specs.Declares.{Declared, declared_with}
use Rattle.vcd_header.specs.Faults.{fault_if}
use Rattle.vcd_header.specs.Header.{clashes, declaration_fault, form_fault}
use Rattle.vcd_header.specs.Scopes.{Path, without_backslash}
use Rattle.vcd_header.specs.Tokens.{Tok}
use Rattle.vcd_header.specs.Variables.{Variable, declared_by, name_and_select, one_or_none, size_of, variable_of}
use Rattle.vcd_header.proofs.HeaderSteps.{HasDone}
use Rattle.vcd_writer.specs.Code.{code_of}
use Rattle.vcd_writer.specs.WrittenName.{written_name}
use Rattle.trace_rows.specs.Writable.{HasWidth, IsPort}
use Rattle.vcd_laws.proofs.HeaderGroups.{line_more, next}
use Rattle.vcd_laws.proofs.HeaderLines.{AreInside, AreSections, closed, port_words, range_words, variable_words}
use Rattle.vcd_laws.proofs.HeaderNames.{IsSmall, name_read, select_for}
use Rattle.vcd_laws.proofs.TextTokens.{placed, placed_lines, tok_at}
use Rattle.vcd_laws.proofs.TextWords.{code_printable, other_code, same_bytes, small_read}

-- ---- the variables

abbrev pub variable_at : Path → ℕ → ℕ → List ℕ → Option Range → Variable
variable_at path number width name range =
    record { path = path; name = name; select = select_for range; size = width; code = code_of number }

abbrev pub port_variables : Path → ℕ → List PortLabel → List Variable
port_variables path number [] = []
port_variables path number (port ∷ ports) =
    variable_at path number port.width port.name port.range ∷ port_variables path (number + 1) ports

abbrev pub check_variables : Path → List ℕ → Bool → List Variable
check_variables path name checked = if checked then variable_at path 1 1 name None ∷ [] else []

abbrev pub first_variables : Path → Labels → Bool → List Variable
first_variables path labels checked =
    variable_at path 0 1 labels.clock None ∷ check_variables path labels.check checked

abbrev pub path_of : List ℕ → Path
path_of top = without_backslash (written_name top) ∷ []

abbrev pub declared_at : Path → List Path → List Variable → Declared
declared_at path scopes variables = record { path = path; scopes = scopes; variables = variables }

-- ---- sizes of codes

-- No variable has the code of this number or of a later one.
abbrev pub NoCodeFrom : ℕ → List Variable → Type 0
NoCodeFrom number variables = (k : ℕ) → number ≤ k → size_of variables (code_of k) ≡ None

size_now : (variable : Variable) (variables : List Variable) (code : List ℕ) → bytes_eq variable.code code ≡ true
    → size_of (variable ∷ variables) code ≡ Some variable.size
size_now variable variables code same = rw same refl

size_past : (variable : Variable) (variables : List Variable) (code : List ℕ) → bytes_eq variable.code code ≡ false
    → size_of (variable ∷ variables) code ≡ size_of variables code
size_past variable variables code other = rw other refl

pub size_behind : (front back : List Variable) (code : List ℕ) → size_of front code ≡ None → size_of (front ++ back) code ≡ size_of back code
size_behind [] back code none = refl
size_behind (variable ∷ front) back code none = by (bytes_eq variable.code code) refl (size_behind front back code)
  where
    by : (b : Bool) → bytes_eq variable.code code ≡ b → (size_of front code ≡ None → size_of (front ++ back) code ≡ size_of back code)
        → size_of (variable ∷ (front ++ back)) code ≡ size_of back code
    by true e ih = let some = sym (size_now variable front code e) ∙ none in absurd (cc)
    by false e ih = size_past variable (front ++ back) code e ∙ ih (sym (size_past variable front code e) ∙ none)

pub size_here : (path : Path) (number width : ℕ) (name : List ℕ) (range : Option Range) (back : List Variable)
    → size_of (variable_at path number width name range ∷ back) (code_of number) ≡ Some width
size_here path number width name range back = size_now (variable_at path number width name range) back (code_of number) (same_bytes (code_of number))

pub size_of_other : (path : Path) (number width k : ℕ) (name : List ℕ) (range : Option Range) (back : List Variable) → number ≢ k
    → size_of (variable_at path number width name range ∷ back) (code_of k) ≡ size_of back (code_of k)
size_of_other path number width k name range back apart = size_past (variable_at path number width name range) back (code_of k) (other_code number k apart)

pub no_code_more : (path : Path) (number width : ℕ) (name : List ℕ) (range : Option Range) (front : List Variable)
    → NoCodeFrom number front → NoCodeFrom (number + 1) (front ++ variable_at path number width name range ∷ [])
no_code_more path number width name range front none k later =
    size_behind front (variable_at path number width name range ∷ []) (code_of k) (none k (omega arith))
    ∙ size_of_other path number width k name range [] (λ same. omega arith)

-- ---- one declaration

module _ (path : Path) (number width : ℕ) (name : List ℕ) (range : Option Range) where
  abbrev variable : Variable
  variable = variable_at path number width name range

  abbrev words : List (List ℕ)
  words = codes "wire" ∷ decimal width ∷ code_of number ∷ written_name name ∷ range_words range

  declared_read : (at : ℕ) → width ≤ 2147483647 → IsSmall range → declared_by path (placed at words) ≡ Some variable
  declared_read at small smalls =
      let at_name = at + 4 + 1 + length (decimal width) + 1 + length (code_of number) + 1 in
      let at_range = at_name + length (written_name name) + 1 in
      let code = tok_at (at + 4 + 1 + length (decimal width) + 1) (code_of number) in
      let named = name_and_select (written_name name) (placed at_range (range_words range)) in
      ap (λ test. if test then option_map (variable_of path code named) (small_number (decimal width)) else None) (code_printable number)
      ∙ ap (λ size. option_map (variable_of path code named) size) (small_read width small)
      ∙ ap (λ (named : List ℕ × Select). Some (variable_of path code named width)) (name_read at_range name range smalls)

  -- a declaration more
  pub variable_more : (whole rest : List Tok) (at : ℕ) (lines : List (List (List ℕ))) (scopes : List Path) (variables : List Variable)
      → HasDone whole (placed_lines at (closed (variable_words width (code_of number) name range) ∷ lines) ++ rest) (declared_at path scopes variables)
      → AreInside (variable_words width (code_of number) name range) → width ≤ 2147483647 → IsSmall range → NoCodeFrom number variables
      → HasDone whole (placed_lines (next at (variable_words width (code_of number) name range)) lines ++ rest) (declared_at path scopes (variables ++ variable ∷ []))
  variable_more whole rest at lines scopes variables done inside small smalls none =
      let first = tok_at at (codes "$var") in
      let within = at + 4 + 1 in
      let read = declared_read within small smalls in
      let old = declared_at path scopes variables in
      let new = declared_at path scopes (variables ++ variable ∷ []) in
      let fault : form_fault variables path first (placed within words) ≡ None =
      ap (λ found. declaration_fault variables at found) read
      ∙ ap (λ known. fault_if (clashes known width) (BadCode at)) (none number (omega arith)) in
      let declares : new ≡ declared_with old first (placed within words) =
      ap (λ opened. declared_at path opened (variables ++ variable ∷ [])) (sym (append-nil scopes))
      ∙ ap (λ found. declared_at path (scopes ++ []) (variables ++ one_or_none found)) (sym read) in
      line_more whole rest at (codes "$var") words lines old new done inside refl fault declares refl

-- ---- the ports

abbrev pub place_behind : ℕ → List (List (List ℕ)) → ℕ
place_behind at [] = at
place_behind at (words ∷ sections) = place_behind (next at words) sections

small_range : (range : Option Range) (width : ℕ) → HasWidth range width → IsSmall range
small_range None width has = tt
small_range (Some range) width (is, left, right) = (left, right)

pub ports_more : (whole rest : List Tok) (at number : ℕ) (ports : List PortLabel) (later : List (List (List ℕ))) (path : Path) (scopes : List Path) (variables : List Variable)
    → HasDone whole (placed_lines at (map closed (port_words number ports ++ later)) ++ rest) (declared_at path scopes variables)
    → AreSections (port_words number ports) → All IsPort ports → NoCodeFrom number variables
    → HasDone whole (placed_lines (place_behind at (port_words number ports)) (map closed later) ++ rest) (declared_at path scopes (variables ++ port_variables path number ports))
ports_more whole rest at number [] later path scopes variables done inside are none =
    subst (λ all. HasDone whole (placed_lines at (map closed later) ++ rest) (declared_at path scopes all)) (sym (append-nil variables)) done
ports_more whole rest at number (port ∷ ports) later path scopes variables done (inside, insides) are none =
    let (printable, has, small) = are 0 port (omega arith) in
    let words = variable_words port.width (code_of number) port.name port.range in
    let here = variable_at path number port.width port.name port.range in
    let more = variable_more path number port.width port.name port.range whole rest at (map closed (port_words (number + 1) ports ++ later)) scopes variables done inside small (small_range port.range port.width has) none in
    let all = ports_more whole rest (next at words) (number + 1) ports later path scopes (variables ++ here ∷ []) more insides (λ k d h. are (suc k) d (omega arith)) (no_code_more path number port.width port.name port.range variables none) in
    subst (λ all. HasDone whole (placed_lines (place_behind at (port_words number (port ∷ ports))) (map closed later) ++ rest) (declared_at path scopes all))
    (append_assoc variables (here ∷ []) (port_variables path (number + 1) ports)) all
