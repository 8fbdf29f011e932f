-- Of what kinds the faults of bytes are.
use Rattle.std.proofs.Common.{◌≡◌, ◌⊎◌, inl, inr, ℕ, ◌==◌, List, [], ◌∷◌, ◌++◌, Bool, true, false, not, codes, length, nat_lt, Option, Some, None, Result, Ok, Err, if◌then◌else◌, refl, ap, sym, subst, ◌∙◌}
use Rattle.std.specs.Option.{option_map, option_or}
use Rattle.bm_base.specs.declared.size.Size.{Size}
use Rattle.trace_rows.specs.declared.labels.Labels.{Labels}
use Rattle.vcd_header.specs.Declares.{Declared, declared_by_groups, matched_in}
use Rattle.vcd_header.specs.Faults.{fault_if, first_fault}
use Rattle.vcd_header.specs.Header.{begins_section, clashes, declaration_fault, fault_within, form_fault, group_fault, header_fault}
use Rattle.vcd_header.specs.Matching.{Source, Wanted, scope_for, source_of, sources_in, sources_of, wanted, with_source, within}
use Rattle.vcd_header.specs.Scopes.{Path, scope_of}
use Rattle.vcd_header.specs.Sections.{body, has_header_end, header, inner, is_closed, is_end, is_word}
use Rattle.vcd_header.specs.Tokens.{Tok, tokens}
use Rattle.vcd_header.specs.Variables.{Variable, declared_by, size_of, variables}
use Rattle.vcd_header.specs.declared.fault.VcdFault.{VcdFault}
use Rattle.vcd_header.specs.declared.fault.VcdFault.TheVariants.{Token, Truncated, TimeBack, BadCode, TooWide, NoTime, Limit, Read, Memory}
use Rattle.vcd_reader.specs.Body.{Item, items}
use Rattle.vcd_reader.specs.Body.Item.{time, change, misplaced, unfinished}
use Rattle.vcd_reader.specs.Changes.{all_times, last_time}
use Rattle.vcd_reader.specs.Laws.{FaultsAreOfBytes}
use Rattle.vcd_reader.specs.Rows.{Reading, reading}
use Rattle.vcd_reader.specs.Waveform.{body_fault, body_of, body_reading, change_fault, item_fault, limit_passed, limited, sourced, unless, waveform}

-- whether the fault is one that bytes can have: it is neither that of a read nor want of memory
abbrev is_of_bytes : VcdFault → Bool
is_of_bytes Read = false
is_of_bytes Memory = false
is_of_bytes other = true

-- a fault, if there is one, is one that bytes can have
abbrev IsOfBytes : Option VcdFault → Type 0
IsOfBytes None = Unit {0}
IsOfBytes (Some fault) = is_of_bytes fault ≡ true

-- the same of an outcome
abbrev ErrsOfBytes : {X : Type 0} → Result X VcdFault → Type 0
ErrsOfBytes (Ok value) = Unit {0}
ErrsOfBytes (Err fault) = is_of_bytes fault ≡ true

-- ---- faults

if_of_bytes : (test : Bool) (fault : VcdFault) → is_of_bytes fault ≡ true → IsOfBytes (fault_if test fault)
if_of_bytes true fault is = is
if_of_bytes false fault is = tt

either_of_bytes : (test : Bool) (left right : Option VcdFault) → IsOfBytes left → IsOfBytes right → IsOfBytes (if test then left else right)
either_of_bytes true left right left_is right_is = left_is
either_of_bytes false left right left_is right_is = right_is

or_of_bytes : (first later : Option VcdFault) → IsOfBytes first → IsOfBytes later → IsOfBytes (option_or first later)
or_of_bytes None later first_is later_is = later_is
or_of_bytes (Some fault) later first_is later_is = first_is

first_of_bytes : {X : Type 0} (fault : List X → X → Option VcdFault) → ((before : List X) (item : X) → IsOfBytes (fault before item))
    → (before given : List X) → IsOfBytes (first_fault fault before given)
first_of_bytes fault each before [] = tt
first_of_bytes fault each before (item ∷ given) =
    or_of_bytes (fault before item) (first_fault fault (before ++ item ∷ []) given) (each before item) (first_of_bytes fault each (before ++ item ∷ []) given)

-- ---- the header

declaration_of_bytes : (earlier : List Variable) (at : ℕ) (variable : Option Variable) → IsOfBytes (declaration_fault earlier at variable)
declaration_of_bytes earlier at None = refl
declaration_of_bytes earlier at (Some variable) = if_of_bytes (clashes (size_of earlier variable.code) variable.size) (BadCode at) refl

form_of_bytes : (earlier : List Variable) (path : Path) (first : Tok) (inside : List Tok) → IsOfBytes (form_fault earlier path first inside)
form_of_bytes earlier path first inside =
    let closes = option_or (fault_if (not (length inside == 0)) (Token first.at)) (fault_if (length path == 0) (Token first.at)) in
    let declares = if is_word (codes "$var") first then declaration_fault earlier first.at (declared_by path inside) else None in
    either_of_bytes (is_word (codes "$scope") first) (fault_if (not (length inside == 2)) (Token first.at)) (if is_word (codes "$upscope") first then closes else declares)
    (if_of_bytes (not (length inside == 2)) (Token first.at) refl)
    (either_of_bytes (is_word (codes "$upscope") first) closes declares
    (or_of_bytes (fault_if (not (length inside == 0)) (Token first.at)) (fault_if (length path == 0) (Token first.at)) (if_of_bytes (not (length inside == 0)) (Token first.at) refl) (if_of_bytes (length path == 0) (Token first.at) refl))
    (either_of_bytes (is_word (codes "$var") first) (declaration_fault earlier first.at (declared_by path inside)) None (declaration_of_bytes earlier first.at (declared_by path inside)) tt))

within_of_bytes : (earlier : List Variable) (path : Path) (group : List Tok) → IsOfBytes (fault_within earlier path group)
within_of_bytes earlier path [] = tt
within_of_bytes earlier path (first ∷ rest) =
    let formed = form_fault earlier path first (inner rest) in
    let closed = if not (is_closed rest) then Some (Truncated first.at) else formed in
    let begun = if not (begins_section first.text) then Some (Token first.at) else closed in
    either_of_bytes (is_end first) (Some (Token first.at)) begun refl
    (either_of_bytes (not (begins_section first.text)) (Some (Token first.at)) closed refl
    (either_of_bytes (not (is_closed rest)) (Some (Truncated first.at)) formed refl (form_of_bytes earlier path first (inner rest))))

header_of_bytes : (size : ℕ) (toks : List Tok) → IsOfBytes (header_fault size toks)
header_of_bytes size toks =
    or_of_bytes (first_fault group_fault [] (header toks)) (fault_if (not (has_header_end toks)) (Truncated size))
    (first_of_bytes group_fault (λ before group. within_of_bytes (variables before) (scope_of before) group) [] (header toks))
    (if_of_bytes (not (has_header_end toks)) (Truncated size) refl)

-- ---- the sources

source_of_bytes : (name : List ℕ) (found : Option Source) (rest : Result (List Source) VcdFault) → ErrsOfBytes rest → ErrsOfBytes (with_source name found rest)
source_of_bytes name None rest is = refl
source_of_bytes name (Some source) (Ok sources) is = tt
source_of_bytes name (Some source) (Err fault) is = is

sources_of_bytes : (variables : List Variable) (bits : List Wanted) → ErrsOfBytes (sources_of variables bits)
sources_of_bytes variables [] = tt
sources_of_bytes variables (bit ∷ bits) =
    source_of_bytes bit.name (source_of variables bit) (sources_of variables bits) (sources_of_bytes variables bits)

scope_of_bytes : (variables : List Variable) (bits : List Wanted) (path : Option Path) → ErrsOfBytes (sources_in variables bits path)
scope_of_bytes variables bits None = refl
scope_of_bytes variables bits (Some path) = sources_of_bytes (within path variables) bits

-- ---- the body

change_of_bytes : (at : ℕ) (digits : List ℕ) (size : Option ℕ) → IsOfBytes (change_fault at digits size)
change_of_bytes at digits None = refl
change_of_bytes at digits (Some size) = if_of_bytes (nat_lt size (length digits)) (TooWide at) refl

item_of_bytes : (declared : List Variable) (before : List Item) (item : Item) → IsOfBytes (item_fault declared before item)
item_of_bytes declared before (time at value) = if_of_bytes (nat_lt value (last_time before)) (TimeBack at) refl
item_of_bytes declared before (change at code digits) = change_of_bytes at digits (size_of declared code)
item_of_bytes declared before (misplaced at) = refl
item_of_bytes declared before (unfinished at) = refl

body_of_bytes : (declared : List Variable) (said : List Item) → IsOfBytes (body_fault declared said)
body_of_bytes declared said =
    or_of_bytes (first_fault (item_fault declared) [] said) (fault_if (length (all_times said) == 0) NoTime)
    (first_of_bytes (item_fault declared) (item_of_bytes declared) [] said)
    (if_of_bytes (length (all_times said) == 0) NoTime refl)

-- ---- the whole

unless_of_bytes : (fault : Option VcdFault) (outcome : Result Reading VcdFault) → IsOfBytes fault → ErrsOfBytes outcome → ErrsOfBytes (unless fault outcome)
unless_of_bytes None outcome fault_is outcome_is = outcome_is
unless_of_bytes (Some fault) outcome fault_is outcome_is = fault_is

reading_of_bytes : (declared : List Variable) (said : List Item) (sources : List Source) → ErrsOfBytes (body_reading declared said sources)
reading_of_bytes declared said [] = refl
reading_of_bytes declared said (clock ∷ inputs) =
    unless_of_bytes (body_fault declared said) (Ok (reading said clock inputs)) (body_of_bytes declared said) tt

sourced_of_bytes : (declared : List Variable) (said : List Item) (found : Result (List Source) VcdFault) → ErrsOfBytes found → ErrsOfBytes (sourced declared said found)
sourced_of_bytes declared said (Err fault) is = is
sourced_of_bytes declared said (Ok sources) is = reading_of_bytes declared said sources

declared_of_bytes : (all : Declared) (said : List Item) (labels : Labels) (scope : Option (List ℕ)) → ErrsOfBytes (body_of all said labels scope)
declared_of_bytes all said labels scope =
    sourced_of_bytes all.variables said (matched_in all labels scope)
    (scope_of_bytes all.variables (wanted labels) (scope_for all.scopes all.variables (wanted labels) scope))

waveform_of_bytes : (bytes : List ℕ) (labels : Labels) (scope : Option (List ℕ)) → ErrsOfBytes (waveform bytes labels scope)
unfolding waveform
waveform_of_bytes bytes labels scope =
    let toks = tokens bytes in
    let all = declared_by_groups (header toks) in
    unless_of_bytes (header_fault (length bytes) toks) (body_of all (items (body toks)) labels scope) (header_of_bytes (length bytes) toks)
    (declared_of_bytes all (items (body toks)) labels scope)

passed_of_bytes : (passed : Option Size) → IsOfBytes (option_map (λ what. Limit what) passed)
passed_of_bytes None = tt
passed_of_bytes (Some what) = refl

limited_of_bytes : (registers : ℕ) (outcome : Result Reading VcdFault) → ErrsOfBytes outcome → ErrsOfBytes (limited registers outcome)
limited_of_bytes registers (Err fault) is = is
limited_of_bytes registers (Ok read) is =
    unless_of_bytes (option_map (λ what. Limit what) (limit_passed registers read.trace)) (Ok read) (passed_of_bytes (limit_passed registers read.trace)) tt

pub faults_are_of_bytes : FaultsAreOfBytes
faults_are_of_bytes registers bytes labels scope fault is =
    let of_bytes : is_of_bytes fault ≡ true = subst ErrsOfBytes is (limited_of_bytes registers (waveform bytes labels scope) (waveform_of_bytes bytes labels scope)) in
    (λ read. apart (sym (ap is_of_bytes read) ∙ of_bytes), λ memory. apart (sym (ap is_of_bytes memory) ∙ of_bytes))
  where
    apart : false ≡ true → ⊥
    apart same = cc

-- A fault of bytes, or want of memory, is not that of a read.
pub never_of_a_read : (registers : ℕ) (bytes : List ℕ) (labels : Labels) (scope : Option (List ℕ)) (fault : VcdFault) (P : Type 0)
    → (limited registers (waveform bytes labels scope) ≡ Err fault) ⊎ (fault ≡ Memory) → fault ≡ Read → P
never_of_a_read registers bytes labels scope fault P (inl is) read = absurd ((faults_are_of_bytes registers bytes labels scope fault is).0 read)
never_of_a_read registers bytes labels scope fault P (inr memory) read = absurd (cc)
