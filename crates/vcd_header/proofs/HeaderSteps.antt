-- A header, one group more.
use Rattle.std.proofs.Common.{◌≡◌, ◌⊎◌, inl, inr, ℕ, List, [], ◌∷◌, ◌++◌, Bool, true, false, Some, None, refl, subst, sym, ap, ◌∙◌}
use Rattle.std.specs.List.{after_first, fold}
use Rattle.std.proofs.lemmas.List.{append_assoc, append-nil}
use Rattle.vcd_header.specs.declared.fault.VcdFault.{VcdFault}
use Rattle.vcd_header.specs.declared.fault.VcdFault.TheVariants.{Memory, Token, Truncated}
use Rattle.vcd_header.specs.Declares.{Declared, declared_behind, declared_by_groups, opened_by}
use Rattle.vcd_header.specs.Header.{fault_within, group_fault, header_fault}
use Rattle.vcd_header.specs.Scopes.{Path, opened_from, scope_after, scope_of}
use Rattle.vcd_header.specs.Sections.{body, ends_header, group_rest, groups, header, is_end}
use Rattle.vcd_header.specs.Tokens.{Tok}
use Rattle.vcd_header.specs.Variables.{Variable, declared, declared_from, one_or_none}
use Rattle.vcd_header.proofs.GroupLemmas.{HasRead, cut_off, fault_at_group, groups_end, groups_first, has_ended, has_read_more}

scope_more : (path : Path) (before : List (List Tok)) (group : List Tok) → fold scope_after path (before ++ group ∷ []) ≡ scope_after (fold scope_after path before) group
scope_more path [] group = refl
scope_more path (first ∷ before) group = scope_more (scope_after path first) before group

opened_more : (path : Path) (before : List (List Tok)) (group : List Tok) → opened_from path (before ++ group ∷ []) ≡ opened_from path before ++ opened_by (fold scope_after path before) group
opened_more path [] group = append-nil (opened_by path group)
opened_more path (first ∷ before) group =
    ap (λ later. opened_by path first ++ later) (opened_more (scope_after path first) before group)
    ∙ sym (append_assoc (opened_by path first) (opened_from (scope_after path first) before) (opened_by (fold scope_after (scope_after path first) before) group))

declared_more : (path : Path) (before : List (List Tok)) (group : List Tok) → declared_from path (before ++ group ∷ []) ≡ declared_from path before ++ one_or_none (declared (fold scope_after path before) group)
declared_more path [] group = append-nil (one_or_none (declared path group))
declared_more path (first ∷ before) group =
    ap (λ later. one_or_none (declared path first) ++ later) (declared_more (scope_after path first) before group)
    ∙ sym (append_assoc (one_or_none (declared path first)) (declared_from (scope_after path first) before) (one_or_none (declared (fold scope_after (scope_after path first) before) group)))

-- what groups declare, with one more
pub groups_declare : (before : List (List Tok)) (group : List Tok) → declared_by_groups (before ++ group ∷ []) ≡ declared_behind (declared_by_groups before) group
groups_declare before group =
    ap (λ path. record { path = path; scopes = opened_from [] (before ++ group ∷ []); variables = declared_from [] (before ++ group ∷ []) }) (scope_more [] before group)
    ∙ ap (λ opened. record { path = scope_after (scope_of before) group; scopes = opened; variables = declared_from [] (before ++ group ∷ []) }) (opened_more [] before group)
    ∙ ap (λ variables. record { path = scope_after (scope_of before) group; scopes = opened_from [] before ++ opened_by (scope_of before) group; variables = variables }) (declared_more [] before group)

-- A group without a fault does not begin with `$end`.
no_end : (earlier : List Variable) (path : Path) (first : Tok) (rest : List Tok) → fault_within earlier path (first ∷ rest) ≡ None → is_end first ≡ false
no_end earlier path first rest none = by (is_end first) refl
  where
    by : (b : Bool) → is_end first ≡ b → is_end first ≡ false
    by true is = let some : fault_within earlier path (first ∷ rest) ≡ Some (Token first.at) = rw is refl in absurd (cc)
    by false is = is

-- what the loop has done so far
pub record HasDone (whole tokens : List Tok) (now : Declared) : Type 0 where
  pub before : List (List Tok)
  pub read : HasRead whole before tokens
  pub declares : now ≡ declared_by_groups before

module _ (whole tokens rest left : List Tok) (first : Tok) (old new : Declared) where
  abbrev group : List Tok
  group = first ∷ group_rest rest

  first_group : (before : List (List Tok)) → tokens ≡ first ∷ rest → left ≡ after_first is_end rest → is_end first ≡ false → groups tokens ≡ group ∷ groups left
  first_group before front behind other = ap groups front ∙ groups_first first rest other ∙ ap (λ left. group ∷ groups left) (sym behind)

  none_here : (before : List (List Tok)) → old ≡ declared_by_groups before → fault_within old.variables old.path group ≡ None → group_fault before group ≡ None
  none_here before is none = ap (λ (d : Declared). fault_within d.variables d.path group) (sym is) ∙ none

  one_more : (before : List (List Tok)) → old ≡ declared_by_groups before → new ≡ declared_behind old group → new ≡ declared_by_groups (before ++ group ∷ [])
  one_more before is now = now ∙ ap (λ (d : Declared). declared_behind d group) is ∙ sym (groups_declare before group)

  pub done_more : HasDone whole tokens old → tokens ≡ first ∷ rest → fault_within old.variables old.path group ≡ None → new ≡ declared_behind old group → left ≡ after_first is_end rest → ends_header group ≡ false
      → HasDone whole left new
  done_more done front none now behind goes_on =
      let parts = first_group done.before front behind (no_end old.variables old.path first (group_rest rest) none) in
      record {
        before = done.before ++ group ∷ [];
        read = has_read_more whole done.before tokens group left done.read parts (none_here done.before done.declares none) goes_on;
        declares = one_more done.before done.declares now;
      }

  pub done_all : (size : ℕ) → HasDone whole tokens old → tokens ≡ first ∷ rest → fault_within old.variables old.path group ≡ None → new ≡ declared_behind old group → left ≡ after_first is_end rest → ends_header group ≡ true
      → (header_fault size whole ≡ None) × (new ≡ declared_by_groups (header whole)) × (left ≡ body whole)
  done_all size done front none now behind last =
      let parts = first_group done.before front behind (no_end old.variables old.path first (group_rest rest) none) in
      let ended = has_ended size whole done.before tokens group left done.read parts (none_here done.before done.declares none) last in
      (ended.faultless, one_more done.before done.declares now ∙ ap declared_by_groups (sym ended.whole_header), sym ended.body_behind)

  pub done_fault : (size : ℕ) (fault : VcdFault) → HasDone whole tokens old → tokens ≡ first ∷ rest → (fault_within old.variables old.path group ≡ Some fault) ⊎ (fault ≡ Memory)
      → (header_fault size whole ≡ Some fault) ⊎ (fault ≡ Memory)
  done_fault size fault done front (inr is) = inr is
  done_fault size fault done front (inl is) = inl (by (is_end first) refl)
    where
      here : group_fault done.before group ≡ Some fault
      here = ap (λ (d : Declared). fault_within d.variables d.path group) (sym done.declares) ∙ is

      by : (b : Bool) → is_end first ≡ b → header_fault size whole ≡ Some fault
      by true ends =
          let alone : group_fault done.before (first ∷ []) ≡ Some (Token first.at) = rw ends refl in
          let same : group_fault done.before group ≡ Some (Token first.at) = rw ends refl in
          fault_at_group size whole done.before tokens (first ∷ []) (groups rest) fault done.read (ap groups front ∙ groups_end first rest ends) (alone ∙ sym same ∙ here)
      by false other =
          fault_at_group size whole done.before tokens group (groups (after_first is_end rest)) fault done.read (ap groups front ∙ groups_first first rest other) here

pub done_none : (size : ℕ) (whole tokens : List Tok) (now : Declared) → HasDone whole tokens now → tokens ≡ [] → header_fault size whole ≡ Some (Truncated size)
done_none size whole tokens now done is = cut_off size whole done.before (subst (HasRead whole done.before) is done.read)
