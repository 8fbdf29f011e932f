-- The written header, from its first line to its last.
use Rattle.std.proofs.Common.{◌≡◌, ℕ, ◌+◌, List, [], ◌∷◌, ◌++◌, Bool, true, false, codes, length, map, None, arith, refl, subst, sym, ap}
use Rattle.std.proofs.lemmas.List.{append-nil}
use Rattle.trace_rows.specs.declared.labels.Labels.{Labels}
use Rattle.vcd_header.specs.Declares.{Declared}
use Rattle.vcd_header.specs.Scopes.{Path}
use Rattle.vcd_header.specs.Tokens.{Tok}
use Rattle.vcd_header.specs.Variables.{Variable}
use Rattle.vcd_header.proofs.HeaderSteps.{HasDone}
use Rattle.vcd_writer.specs.Code.{clock_code, first_port}
use Rattle.vcd_writer.specs.WrittenName.{written_name}
use Rattle.trace_rows.specs.Writable.{AreWritable}
use Rattle.vcd_laws.proofs.HeaderGroups.{IsLast, begun, line_last, line_more, next}
use Rattle.vcd_laws.proofs.HeaderLines.{AreFew, AreSections, check_sections, check_words, closed, closing_words, header_words, later_sections, name_no_end, port_words, ports_sections, scope_words, timescale_words, variable_inside, variable_words, version_words}
use Rattle.vcd_laws.proofs.HeaderVariables.{NoCodeFrom, check_variables, declared_at, first_variables, no_code_more, path_of, place_behind, port_variables, ports_more, variable_at, variable_more}
use Rattle.vcd_laws.proofs.TextTokens.{placed_lines}
use Rattle.vcd_laws.proofs.TextWords.{name_run}

-- the declaration of the checker, where there is one
check_more : (whole rest : List Tok) (at : ℕ) (name : List ℕ) (checked : Bool) (later : List (List (List ℕ))) (path : Path) (scopes : List Path) (variables : List Variable)
    → HasDone whole (placed_lines at (map closed (check_words name checked ++ later)) ++ rest) (declared_at path scopes variables)
    → AreSections (check_words name checked) → NoCodeFrom 1 variables
    → HasDone whole (placed_lines (place_behind at (check_words name checked)) (map closed later) ++ rest) (declared_at path scopes (variables ++ check_variables path name checked))
check_more whole rest at name true later path scopes variables done (inside, insides) none =
    variable_more path 1 1 name None whole rest at (map closed later) scopes variables done inside (omega arith) tt none
check_more whole rest at name false later path scopes variables done insides none =
    subst (λ all. HasDone whole (placed_lines at (map closed later) ++ rest) (declared_at path scopes all)) (sym (append-nil variables)) done

pub no_code_after_first : (path : Path) (labels : Labels) (checked : Bool) → NoCodeFrom 2 (first_variables path labels checked)
no_code_after_first path labels true =
    no_code_more path 1 1 labels.check None (variable_at path 0 1 labels.clock None ∷ []) (no_code_more path 0 1 labels.clock None [] (λ k h. refl))
no_code_after_first path labels false =
    λ k h. no_code_more path 0 1 labels.clock None [] (λ k h. refl) k (omega arith)

-- all that the header declares
abbrev pub all_variables : Labels → Bool → List Variable
all_variables labels checked =
    first_variables (path_of labels.top) labels checked ++ port_variables (path_of labels.top) first_port labels.ports

abbrev pub all_declared : Labels → Bool → Declared
all_declared labels checked = declared_at [] (path_of labels.top ∷ []) (all_variables labels checked)

abbrev nothing : Declared
nothing = declared_at [] [] []

abbrev pub front : Labels → Bool → List Tok
front labels checked = placed_lines 0 (map closed (header_words labels checked))

module _ (labels : Labels) (checked : Bool) (rest : List Tok) where
  abbrev whole : List Tok
  whole = front labels checked ++ rest

  abbrev path : Path
  path = path_of labels.top

  abbrev behind_clock : List (List (List ℕ))
  behind_clock = variable_words 1 clock_code labels.clock None ∷ later_sections labels checked

  abbrev clock : Variable
  clock = variable_at path 0 1 labels.clock None

  abbrev at_scope : ℕ
  at_scope = next (next 0 version_words) timescale_words

  abbrev at_clock : ℕ
  at_clock = next at_scope (scope_words labels.top)

  abbrev at_check : ℕ
  at_check = next at_clock (variable_words 1 clock_code labels.clock None)

  abbrev at_ports : ℕ
  at_ports = place_behind at_check (check_words labels.check checked)

  abbrev at_closing : ℕ
  at_closing = place_behind at_ports (port_words first_port labels.ports)

  abbrev left_at : ℕ → List (List (List ℕ)) → List Tok
  left_at at sections = placed_lines at (map closed sections) ++ rest

  version_done : HasDone whole (left_at (next 0 version_words) (timescale_words ∷ scope_words labels.top ∷ behind_clock)) nothing
  version_done =
      line_more whole rest 0 (codes "$version") (codes "butramin" ∷ codes "1" ∷ []) (map closed (timescale_words ∷ scope_words labels.top ∷ behind_clock)) nothing nothing
      (begun whole) ((refl, refl), ((refl, refl), ((refl, refl), tt))) refl refl refl refl

  timescale_done : HasDone whole (left_at at_scope (scope_words labels.top ∷ behind_clock)) nothing
  timescale_done =
      line_more whole rest (next 0 version_words) (codes "$timescale") (codes "1ns" ∷ []) (map closed (scope_words labels.top ∷ behind_clock)) nothing nothing
      version_done ((refl, refl), ((refl, refl), tt)) refl refl refl refl

  scope_done : AreWritable labels → HasDone whole (left_at at_clock behind_clock) (declared_at path (path ∷ []) [])
  scope_done are =
      line_more whole rest at_scope (codes "$scope") (codes "module" ∷ written_name labels.top ∷ []) (map closed behind_clock) nothing (declared_at path (path ∷ []) [])
      timescale_done ((refl, refl), ((refl, refl), ((name_run labels.top are.top, name_no_end labels.top), tt))) refl refl refl refl

  clock_done : AreWritable labels → HasDone whole (left_at at_check (later_sections labels checked)) (declared_at path (path ∷ []) (clock ∷ []))
  clock_done are =
      variable_more path 0 1 labels.clock None whole rest at_clock (map closed (later_sections labels checked)) (path ∷ []) []
      (scope_done are) (variable_inside 0 1 labels.clock None are.clock refl (omega arith) (omega arith)) (omega arith) tt (λ k h. refl)

  check_done : AreWritable labels → HasDone whole (left_at at_ports (port_words first_port labels.ports ++ closing_words)) (declared_at path (path ∷ []) (first_variables path labels checked))
  check_done are =
      check_more whole rest at_check labels.check checked (port_words first_port labels.ports ++ closing_words) path (path ∷ []) (clock ∷ [])
      (clock_done are) (check_sections labels.check checked are.check) (no_code_more path 0 1 labels.clock None [] (λ k h. refl))

  ports_done : AreWritable labels → AreFew first_port (length labels.ports) → HasDone whole (left_at at_closing closing_words) (declared_at path (path ∷ []) (all_variables labels checked))
  ports_done are few =
      ports_more whole rest at_ports first_port labels.ports closing_words path (path ∷ []) (first_variables path labels checked)
      (check_done are) (ports_sections first_port labels.ports are.ports few) are.ports (no_code_after_first path labels checked)

  none_more : all_declared labels checked ≡ declared_at [] (path ∷ []) (all_variables labels checked ++ [])
  none_more = ap (declared_at [] (path ∷ [])) (sym (append-nil (all_variables labels checked)))

  upscope_done : AreWritable labels → AreFew first_port (length labels.ports) → HasDone whole (left_at (next at_closing (codes "$upscope" ∷ [])) ((codes "$enddefinitions" ∷ []) ∷ [])) (all_declared labels checked)
  upscope_done are few =
      line_more whole rest at_closing (codes "$upscope") [] (map closed ((codes "$enddefinitions" ∷ []) ∷ [])) (declared_at path (path ∷ []) (all_variables labels checked)) (all_declared labels checked)
      (ports_done are few) ((refl, refl), tt) refl refl none_more refl

  pub header_done : AreWritable labels → AreFew first_port (length labels.ports) → (size : ℕ)
      → IsLast whole rest (next at_closing (codes "$upscope" ∷ [])) (codes "$enddefinitions") [] [] (all_declared labels checked) (all_declared labels checked) size
  header_done are few size =
      line_last whole rest (next at_closing (codes "$upscope" ∷ [])) (codes "$enddefinitions") [] [] (all_declared labels checked) (all_declared labels checked) size
      (upscope_done are few) ((refl, refl), tt) refl refl none_more refl
