-- The faults of a header. Each stands at the first byte of a section.
use Rattle.std.specs.Prelude.{ℕ, ◌==◌, not, Bool, false, List, [], ◌∷◌, codes, length, Option, None, Some, if◌then◌else◌}
use Rattle.std.specs.Option.{option_or}
use Rattle.vcd_header.specs.declared.fault.VcdFault.{VcdFault}
use Rattle.vcd_header.specs.declared.fault.VcdFault.TheVariants.{Token, Truncated, BadCode}
use Rattle.vcd_header.specs.Faults.{fault_if, first_fault}
use Rattle.vcd_header.specs.Scopes.{Path, scope_of}
use Rattle.vcd_header.specs.Sections.{has_header_end, header, inner, is_closed, is_end, is_word}
use Rattle.vcd_header.specs.Tokens.{Tok}
use Rattle.vcd_header.specs.Variables.{Variable, declared_by, size_of, variables}

-- a token that begins with `$`
abbrev pub begins_section : List ℕ → Bool
begins_section [] = false
begins_section (byte ∷ bytes) = byte == 36

-- the code of a variable was declared with another size
abbrev pub clashes : Option ℕ → ℕ → Bool
clashes None size = false
clashes (Some other) size = not (other == size)

-- a declaration breaks its form, or declares a code with another size
abbrev pub declaration_fault : List Variable → ℕ → Option Variable → Option VcdFault
declaration_fault earlier at None = Some (Token at)
declaration_fault earlier at (Some variable) =
    fault_if (clashes (size_of earlier variable.code) variable.size) (BadCode at)

-- the fault of a whole section: its first token and those between that and its `$end`, behind these variables, in
-- this scope
abbrev pub form_fault : List Variable → Path → Tok → List Tok → Option VcdFault
form_fault earlier path first inside =
    if is_word (codes "$scope") first then fault_if (not (length inside == 2)) (Token first.at)
    else (if is_word (codes "$upscope") first
    then option_or (fault_if (not (length inside == 0)) (Token first.at))
    (fault_if (length path == 0) (Token first.at))
    else (if is_word (codes "$var") first then declaration_fault earlier first.at (declared_by path inside)
    else None))

-- the fault of a group, behind these variables, in this scope: no section begins there, it has no end, or it is whole
-- and has a fault
abbrev pub fault_within : List Variable → Path → List Tok → Option VcdFault
fault_within earlier path [] = None
fault_within earlier path (first ∷ rest) =
    if is_end first then Some (Token first.at)
    else (if not (begins_section first.text) then Some (Token first.at)
    else (if not (is_closed rest) then Some (Truncated first.at)
    else form_fault earlier path first (inner rest)))

-- the fault of a group, behind these groups
abbrev pub group_fault : List (List Tok) → List Tok → Option VcdFault
group_fault before group = fault_within (variables before) (scope_of before) group

-- the first fault of the header's sections, and that the file of this length ends before the header does
abbrev pub header_fault : ℕ → List Tok → Option VcdFault
header_fault size tokens =
    option_or (first_fault group_fault [] (header tokens)) (fault_if (not (has_header_end tokens)) (Truncated size))
