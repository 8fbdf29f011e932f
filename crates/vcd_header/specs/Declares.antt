-- What a header declares, section by section, and how that is kept.
use Rattle.std.specs.Prelude.{ℕ, suc, ◌<◌, List, [], ◌∷◌, ◌++◌, All, codes, length, map, slice_index, slice_index_or, Option, None, Some, IfSome, Result, if◌then◌else◌}
use Rattle.std.specs.List.{find, position_or_len}
use Rattle.std.specs.Option.{option_map}
use Rattle.std.specs.Str.{bytes_eq}
use Rattle.trace_rows.specs.declared.labels.Labels.{Labels}
use Rattle.vcd_header.specs.declared.fault.VcdFault.{VcdFault}
use Rattle.vcd_header.specs.Names.{Place}
use Rattle.vcd_header.specs.Matching.{Source, scope_for, sources_in, wanted}
use denote.Ref.{Bor}
use Rattle.vcd_header.specs.declared.declaration.Declaration.{Declaration}
use Rattle.vcd_header.specs.declared.scope.Scope.{Scope}
use Rattle.vcd_header.specs.Scopes.{Path, same_path, scope_after, scope_by, scope_of, scopes}
use Rattle.vcd_header.specs.Sections.{begins_with, is_word}
use Rattle.vcd_header.specs.Tokens.{Tok}
use Rattle.vcd_header.specs.Variables.{Variable, declared, one_or_none, variable_by, variables}

-- the scope that is open, the scopes that were opened, and the variables
pub record Declared : Type 0 where
  pub path : Path
  pub scopes : List Path
  pub variables : List Variable

-- what groups declare
abbrev pub declared_by_groups : List (List Tok) → Declared
declared_by_groups groups = record { path = scope_of groups; scopes = scopes groups; variables = variables groups }

-- the scope that a group opens, in this scope, if it does
abbrev pub opened_by : Path → List Tok → List Path
opened_by path group = if begins_with (codes "$scope") group then scope_after path group ∷ [] else []

-- what is declared with one more group behind these
abbrev pub declared_behind : Declared → List Tok → Declared
declared_behind before group = record {
  path = scope_after before.path group;
  scopes = before.scopes ++ opened_by before.path group;
  variables = before.variables ++ one_or_none (declared before.path group);
}

-- what is declared with one more section, of this first token and these up to its `$end`
abbrev pub declared_with : Declared → Tok → List Tok → Declared
declared_with before first inside = record {
  path = scope_by before.path first inside;
  scopes = before.scopes ++ (if is_word (codes "$scope") first then scope_by before.path first inside ∷ [] else []);
  variables = before.variables ++ one_or_none (variable_by before.path first inside);
}

-- where the wanted bits come from, or why that is not known
abbrev pub matched_in : Declared → Labels → Option (List ℕ) → Result (List Source) VcdFault
matched_in all labels scope =
    sources_in all.variables (wanted labels) (scope_for all.scopes all.variables (wanted labels) scope)

-- names as contracts see them
abbrev pub texts : List (Bor (List ℕ)) → Path
texts names = map (λ (name : Bor (List ℕ)). name.now) names

-- ---- scopes by numbers

-- the scope of a number, if there is one
abbrev pub path_in : List Path → Option ℕ → Path
path_in paths None = []
path_in paths (Some number) = slice_index_or paths number []

-- scopes, each behind the scope that it stands in, where these come before them
abbrev pub paths_from : List Path → List Scope → List Path
paths_from paths [] = paths
paths_from paths (scope ∷ scopes) =
    paths_from (paths ++ (path_in paths scope.parent ++ scope.name.now ∷ []) ∷ []) scopes

abbrev pub paths_of : List Scope → List Path
paths_of scopes = paths_from [] scopes

-- the number of the first that is this path, and for each path the number of the first that is the same
abbrev pub first_of : List Path → Path → ℕ
first_of paths path = position_or_len (same_path path) paths

abbrev pub firsts_of : List Path → List ℕ
firsts_of paths = map (first_of paths) paths

-- where a scope stands, by the first numbers of those before it
abbrev pub place_by : List ℕ → Scope → Place
place_by firsts scope = (option_map (slice_index firsts) scope.parent, scope.name)

-- the variable of a declaration, where its scope is one of these
abbrev pub declares : List Path → Declaration → Variable
declares paths declaration = record {
  path = path_in paths declaration.scope;
  name = declaration.name.now;
  select = declaration.select;
  size = declaration.size;
  code = declaration.code.now;
}

-- the size with which a code is declared first
abbrev pub size_among : List Declaration → List ℕ → Option ℕ
size_among declarations code =
    option_map (λ (declaration : Declaration). declaration.size)
    (find (λ declaration. bytes_eq declaration.code.now code) declarations)

-- what is declared, as it is kept: the scopes, the number of the open one, and the declarations
abbrev pub declared_as : List Scope → Option ℕ → List Declaration → Declared
declared_as scopes inmost declarations = record {
  path = path_in (paths_of scopes) inmost;
  scopes = paths_of scopes;
  variables = map (declares (paths_of scopes)) declarations;
}

-- There are more scopes than this number, if there is one.
abbrev pub IsBelow : ℕ → Option ℕ → Type 0
IsBelow count number = IfSome number (λ n. n < count)

-- Each scope stands in an earlier one, or in none.
abbrev pub AreNested : ℕ → List Scope → Type 0
AreNested count [] = Unit {0}
AreNested count (scope ∷ scopes) = IsBelow count scope.parent × AreNested (suc count) scopes

-- Scopes and declarations are kept by the numbers of scopes that are there.
pub record AreKept (scopes : List Scope) (inmost : Option ℕ) (declarations : List Declaration) : Type 0 where
  pub inmost_below : IsBelow (length scopes) inmost
  pub nested : AreNested 0 scopes
  pub within : All (λ declaration. IsBelow (length scopes) declaration.scope) declarations
