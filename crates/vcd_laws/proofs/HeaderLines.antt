-- The lines of the header, word by word. Each line is a section: it ends in `$end`, and no other word of it is `$end`.
use Rattle.std.proofs.Common.{◌≡◌, ℕ, ◌+◌, ◌^◌, ◌<◌, ◌≤◌, suc, List, [], ◌∷◌, ◌++◌, All, Bool, true, false, cond, codes, decimal, length, map, Option, Some, None, if◌then◌else◌, arith, refl, sym, ap, ◌∙◌}
use Rattle.std.specs.Char.{is_ascii_digit, is_ascii_graphic}
use Rattle.std.specs.List.{list_all}
use Rattle.std.specs.Str.{bytes_eq}
use Rattle.std.proofs.lemmas.List.{append_assoc}
use Rattle.std.proofs.lemmas.List.Folds.{list_all-append}
use Rattle.bm_base.specs.declared.range.Range.{Range}
use Rattle.trace_rows.specs.declared.labels.Labels.{Labels}
use Rattle.trace_rows.specs.declared.labels.PortLabel.{PortLabel}
use Rattle.vcd_header.specs.Tokens.{is_ink, tokens_from}
use Rattle.vcd_writer.specs.Code.{check_code, clock_code, code_of, first_port}
use Rattle.vcd_writer.specs.Header.{check_declaration, closing_lines, header, opening_lines, port_lines, range_part, variable_line}
use Rattle.vcd_writer.specs.Line.{text_of}
use Rattle.vcd_writer.specs.WrittenName.{is_plain, written_name}
use Rattle.vcd_writer.proofs.CodeSteps.{code_of_last, code_of_step}
use Rattle.trace_rows.specs.Writable.{AreWritable, HasWidth, IsPort}
use Rattle.vcd_laws.specs.Written.{header_text}
use Rattle.vcd_laws.proofs.TextTokens.{AreLines, AreRuns, is_run, lines_tokens, placed_lines, spaced}
use Rattle.vcd_laws.proofs.TextWords.{all_weaker, code_number, code_number_of, code_run, decimal_digits, decimal_run, digit_ink, name_run, other_bytes}

-- ---- the words of each line but the last, which is `$end`

abbrev pub end_word : List ℕ
end_word = codes "$end"

abbrev pub closed : List (List ℕ) → List (List ℕ)
closed words = words ++ end_word ∷ []

abbrev pub range_text : Range → List ℕ
range_text range = 91 ∷ (decimal range.left ++ 58 ∷ (decimal range.right ++ 93 ∷ []))

abbrev pub range_words : Option Range → List (List ℕ)
range_words None = []
range_words (Some range) = range_text range ∷ []

abbrev pub variable_words : ℕ → List ℕ → List ℕ → Option Range → List (List ℕ)
variable_words width code name range =
    codes "$var" ∷ codes "wire" ∷ decimal width ∷ code ∷ written_name name ∷ range_words range

abbrev pub port_words : ℕ → List PortLabel → List (List (List ℕ))
port_words number [] = []
port_words number (port ∷ ports) = variable_words port.width (code_of number) port.name port.range ∷ port_words (number + 1) ports

abbrev pub version_words : List (List ℕ)
version_words = codes "$version" ∷ codes "butramin" ∷ codes "1" ∷ []

abbrev pub timescale_words : List (List ℕ)
timescale_words = codes "$timescale" ∷ codes "1ns" ∷ []

abbrev pub scope_words : List ℕ → List (List ℕ)
scope_words top = codes "$scope" ∷ codes "module" ∷ written_name top ∷ []

abbrev pub check_words : List ℕ → Bool → List (List (List ℕ))
check_words name checked = if checked then variable_words 1 check_code name None ∷ [] else []

abbrev pub closing_words : List (List (List ℕ))
closing_words = (codes "$upscope" ∷ []) ∷ (codes "$enddefinitions" ∷ []) ∷ []

-- the words behind the clock's declaration
abbrev pub later_sections : Labels → Bool → List (List (List ℕ))
later_sections labels checked = check_words labels.check checked ++ (port_words first_port labels.ports ++ closing_words)

abbrev pub header_words : Labels → Bool → List (List (List ℕ))
header_words labels checked =
    version_words ∷ timescale_words ∷ scope_words labels.top ∷ variable_words 1 clock_code labels.clock None
    ∷ later_sections labels checked

-- ---- that these are the lines

abbrev pub lines_of : List (List (List ℕ)) → List (List ℕ)
lines_of sections = map spaced (map closed sections)

lines_of_append : (left right : List (List (List ℕ))) → lines_of (left ++ right) ≡ lines_of left ++ lines_of right
lines_of_append [] right = refl
lines_of_append (words ∷ left) right = ap (λ lines. spaced (closed words) ∷ lines) (lines_of_append left right)

parts_joined : (front width space code name part back : List ℕ)
    → front ++ (width ++ (space ++ (code ++ (space ++ (name ++ (part ++ back)))))) ≡ front ++ width ++ space ++ code ++ space ++ name ++ part ++ back
parts_joined front width space code name part back = simp append_assoc

range_joined : (front left colon right last back : List ℕ)
    → front ++ ((left ++ (colon ++ (right ++ last))) ++ back) ≡ front ++ left ++ colon ++ right ++ last ++ back
range_joined front left colon right last back = simp append_assoc

variable_is : (width : ℕ) (code name : List ℕ) (range : Option Range) → spaced (closed (variable_words width code name range)) ≡ variable_line width code name range
unfolding variable_line
variable_is width code name None = simp append_assoc
variable_is width code name (Some range) =
    let front = codes "$var wire " in
    let space = codes " " in
    let behind = λ (part : List ℕ). front ++ (decimal width ++ (space ++ (code ++ (space ++ (written_name name ++ part))))) in
    ap behind (range_joined (codes " [") (decimal range.left) (codes ":") (decimal range.right) (codes "]") (codes " $end"))
    ∙ parts_joined front (decimal width) space code (written_name name) (range_part (Some range)) (codes " $end")

ports_are : (number : ℕ) (ports : List PortLabel) → lines_of (port_words number ports) ≡ port_lines number ports
ports_are number [] = refl
ports_are number (port ∷ ports) =
    ap (λ line. line ∷ lines_of (port_words (number + 1) ports)) (variable_is port.width (code_of number) port.name port.range)
    ∙ ap (λ lines. variable_line port.width (code_of number) port.name port.range ∷ lines) (ports_are (number + 1) ports)

check_is : (name : List ℕ) (checked : Bool) → lines_of (check_words name checked) ≡ check_declaration name checked
check_is name true = ap (λ line. line ∷ []) (variable_is 1 check_code name None)
check_is name false = refl

later_are : (labels : Labels) (checked : Bool)
    → lines_of (later_sections labels checked) ≡ check_declaration labels.check checked ++ (port_lines first_port labels.ports ++ closing_lines)
later_are labels checked =
    lines_of_append (check_words labels.check checked) (port_words first_port labels.ports ++ closing_words)
    ∙ ap (λ lines. lines ++ lines_of (port_words first_port labels.ports ++ closing_words)) (check_is labels.check checked)
    ∙ ap (λ lines. check_declaration labels.check checked ++ lines) (lines_of_append (port_words first_port labels.ports) closing_words)
    ∙ ap (λ lines. check_declaration labels.check checked ++ (lines ++ closing_lines)) (ports_are first_port labels.ports)

pub header_is : (labels : Labels) (checked : Bool) → lines_of (header_words labels checked) ≡ header labels checked
header_is labels checked =
    let check = check_declaration labels.check checked in
    let ports = port_lines first_port labels.ports in
    ap (λ lines. opening_lines labels.top ++ spaced (closed (variable_words 1 clock_code labels.clock None)) ∷ lines) (later_are labels checked)
    ∙ ap (λ line. opening_lines labels.top ++ line ∷ (check ++ (ports ++ closing_lines))) (variable_is 1 clock_code labels.clock None)
    ∙ ap (λ lines. opening_lines labels.top ++ variable_line 1 clock_code labels.clock None ∷ lines) (sym (append_assoc check ports closing_lines))

-- ---- that each word is one token, and not `$end`

abbrev pub AreInside : List (List ℕ) → Type 0
AreInside [] = Unit {0}
AreInside (word ∷ words) = ((is_run word ≡ true) × (bytes_eq word end_word ≡ false)) × AreInside words

abbrev pub AreSections : List (List (List ℕ)) → Type 0
AreSections [] = Unit {0}
AreSections (words ∷ sections) = AreInside words × AreSections sections

closed_runs : (words : List (List ℕ)) → AreInside words → AreRuns (closed words)
closed_runs [] inside = (refl, tt)
closed_runs (word ∷ words) ((run, other), inside) = (run, closed_runs words inside)

sections_lines : (sections : List (List (List ℕ))) → AreSections sections → AreLines (map closed sections)
sections_lines [] are = tt
sections_lines (words ∷ sections) (inside, are) = (closed_runs words inside, sections_lines sections are)

sections_append : (left right : List (List (List ℕ))) → AreSections left → AreSections right → AreSections (left ++ right)
sections_append [] right tt are = are
sections_append (words ∷ left) right (inside, lefts) rights = (inside, sections_append left right lefts rights)

-- A code that is `$end`: a declaration of it would end at its code.
pub end_is_code : code_of 56335895 ≡ end_word
end_is_code =
    code_of_step 56335895 (omega arith)
    ∙ ap (λ later. 36 ∷ later) (code_of_step 599318 (omega arith))
    ∙ ap (λ later. 36 ∷ 101 ∷ later) (code_of_step 6375 (omega arith))
    ∙ ap (λ later. 36 ∷ 101 ∷ 110 ∷ later) (code_of_last 67 (omega arith))

-- There are so few ports, from this number on, that no code of theirs is `$end`, which is the code of 56335895.
abbrev pub AreFew : ℕ → ℕ → Type 0
AreFew number count = number + count ≤ 56335895

pub code_no_end : (number : ℕ) → number < 56335895 → bytes_eq (code_of number) end_word ≡ false
code_no_end number small = other_bytes (code_of number) end_word (λ same. apart (sym (code_number_of number) ∙ ap code_number same))
  where
    apart : number ≡ code_number end_word → ⊥
    apart e = omega arith

decimal_no_end : (n : ℕ) → n < 2 ^ 64 → bytes_eq (decimal n) end_word ≡ false
decimal_no_end n h = other_bytes (decimal n) end_word (λ same. apart (sym (decimal_digits n h) ∙ ap (list_all is_ascii_digit) same))
  where
    apart : true ≡ list_all is_ascii_digit end_word → ⊥
    apart e = absurd (cc)

no_end_plain : (name : List ℕ) → is_plain name ≡ true → bytes_eq name end_word ≡ false
no_end_plain name plain = other_bytes name end_word (λ same. apart (sym plain ∙ ap is_plain same))
  where
    apart : true ≡ is_plain end_word → ⊥
    apart e = absurd (cc)

pub name_no_end : (name : List ℕ) → bytes_eq (written_name name) end_word ≡ false
name_no_end name = by (is_plain name) refl
  where
    by : (b : Bool) → is_plain name ≡ b → bytes_eq (cond b name (codes "\\" ++ name)) end_word ≡ false
    by true plain = no_end_plain name plain
    by false other = refl

all_both : (p : ℕ → Bool) (left right : List ℕ) → list_all p left ≡ true → list_all p right ≡ true → list_all p (left ++ right) ≡ true
all_both p left right hl hr = list_all-append p left right ∙ rw (hl, hr) refl

range_run : (range : Range) → range.left < 2 ^ 64 → range.right < 2 ^ 64 → is_run (range_text range) ≡ true
range_run range left right =
    let ink_left = all_weaker is_ascii_digit is_ink digit_ink (decimal range.left) (decimal_digits range.left left) in
    let ink_right = all_weaker is_ascii_digit is_ink digit_ink (decimal range.right) (decimal_digits range.right right) in
    let behind = all_both is_ink (decimal range.right) (93 ∷ []) ink_right refl in
    all_both is_ink (decimal range.left) (58 ∷ (decimal range.right ++ 93 ∷ [])) ink_left behind

range_inside : (range : Option Range) (width : ℕ) → HasWidth range width → AreInside (range_words range)
range_inside None width has = tt
range_inside (Some range) width (is, left, right) = ((range_run range (omega arith) (omega arith), refl), tt)

pub variable_inside : (number width : ℕ) (name : List ℕ) (range : Option Range) → list_all is_ascii_graphic name ≡ true → HasWidth range width → width ≤ 2147483647
    → number < 56335895 → AreInside (variable_words width (code_of number) name range)
variable_inside number width name range printable has small few =
    let below : width < 2 ^ 64 = omega arith in (
      (refl, refl),
      (
        (refl, refl),
        (
          (decimal_run width below, decimal_no_end width below),
          ((code_run number, code_no_end number few), ((name_run name printable, name_no_end name), range_inside range width has)),
        ),
      ),
    )

pub ports_sections : (number : ℕ) (ports : List PortLabel) → All IsPort ports → AreFew number (length ports) → AreSections (port_words number ports)
ports_sections number [] are few = tt
ports_sections number (port ∷ ports) are few =
    let (printable, has, small) = are 0 port (omega arith) in (
      variable_inside number port.width port.name port.range printable has small (omega arith),
      ports_sections (number + 1) ports (λ k d h. are (suc k) d (omega arith)) (omega arith),
    )

pub check_sections : (name : List ℕ) (checked : Bool) → list_all is_ascii_graphic name ≡ true → AreSections (check_words name checked)
check_sections name true printable = (variable_inside 1 1 name None printable refl (omega arith) (omega arith), tt)
check_sections name false printable = tt

pub header_sections : (labels : Labels) (checked : Bool) → AreWritable labels → AreFew first_port (length labels.ports) → AreSections (header_words labels checked)
header_sections labels checked are few =
    let ports = ports_sections first_port labels.ports are.ports few in
    let closing = sections_append (port_words first_port labels.ports) closing_words ports (((refl, refl), tt), (((refl, refl), tt), tt)) in
    let later = sections_append (check_words labels.check checked) (port_words first_port labels.ports ++ closing_words) (check_sections labels.check checked are.check) closing in (
      ((refl, refl), ((refl, refl), ((refl, refl), tt))),
      (
        ((refl, refl), ((refl, refl), tt)),
        (
          ((refl, refl), ((refl, refl), ((name_run labels.top are.top, name_no_end labels.top), tt))),
          (variable_inside 0 1 labels.clock None are.clock refl (omega arith) (omega arith), later),
        ),
      ),
    )

pub header_tokens : (labels : Labels) (checked : Bool) → AreSections (header_words labels checked)
    → tokens_from 0 (header_text labels checked) ≡ placed_lines 0 (map closed (header_words labels checked))
header_tokens labels checked are =
    ap (λ lines. tokens_from 0 (text_of lines)) (sym (header_is labels checked))
    ∙ lines_tokens 0 (map closed (header_words labels checked)) (sections_lines (header_words labels checked) are)
