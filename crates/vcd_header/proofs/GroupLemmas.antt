-- Groups of tokens, one at a time.
use Rattle.std.proofs.Common.{◌≡◌, ℕ, ◌+◌, List, [], ◌∷◌, ◌++◌, Bool, true, false, not, ◌||◌, take, drop, Some, None, refl, sym, ap, ◌∙◌}
use Rattle.std.specs.List.{after_first, flat_map, list_any, onto_first, position_or_len}
use Rattle.std.specs.Option.{option_or}
use Rattle.std.proofs.lemmas.List.{append_assoc}
use Rattle.vcd_header.specs.declared.fault.VcdFault.{VcdFault}
use Rattle.vcd_header.specs.declared.fault.VcdFault.TheVariants.{Truncated}
use Rattle.vcd_header.specs.Faults.{fault_if, first_fault}
use Rattle.vcd_header.specs.Header.{group_fault, header_fault}
use Rattle.vcd_header.specs.Sections.{body, ends_header, group_rest, groups, has_header_end, header, is_end}
use Rattle.vcd_header.specs.Tokens.{Tok}
use Rattle.vcd_header.proofs.ListLemmas.{after_more, after_now, any_append, drop_through, take_first, take_through, taken_more, taken_now}

pub groups_end : (first : Tok) (rest : List Tok) → is_end first ≡ true → groups (first ∷ rest) ≡ (first ∷ []) ∷ groups rest
groups_end first rest is = rw is refl

groups_onto : (first : Tok) (rest : List Tok) → is_end first ≡ false → groups (first ∷ rest) ≡ onto_first first (groups rest)
groups_onto first rest other = rw other refl

-- the first group with a token more in front
onto_group : (first : Tok) (rest : List Tok) → onto_first first (groups rest) ≡ (first ∷ group_rest rest) ∷ groups (after_first is_end rest)
onto_group first [] = refl
onto_group first (next ∷ rest) = by (is_end next) refl (onto_group next rest)
  where
    by : (b : Bool) → is_end next ≡ b → onto_first next (groups rest) ≡ (next ∷ group_rest rest) ∷ groups (after_first is_end rest)
        → onto_first first (groups (next ∷ rest)) ≡ (first ∷ group_rest (next ∷ rest)) ∷ groups (after_first is_end (next ∷ rest))
    by true is ih =
        ap (onto_first first) (groups_end next rest is)
        ∙ ap (λ group. (first ∷ group) ∷ groups rest) (sym (taken_now is_end next rest is))
        ∙ ap (λ left. (first ∷ group_rest (next ∷ rest)) ∷ groups left) (sym (after_now is_end next rest is))
    by false is ih =
        ap (onto_first first) (groups_onto next rest is ∙ ih)
        ∙ ap (λ group. (first ∷ group) ∷ groups (after_first is_end rest)) (sym (taken_more is_end next rest is))
        ∙ ap (λ left. (first ∷ group_rest (next ∷ rest)) ∷ groups left) (sym (after_more is_end next rest is))

-- the group that a token begins, and those behind it
pub groups_first : (first : Tok) (rest : List Tok) → is_end first ≡ false → groups (first ∷ rest) ≡ (first ∷ group_rest rest) ∷ groups (after_first is_end rest)
groups_first first rest other = groups_onto first rest other ∙ onto_group first rest

joined_onto : (first : Tok) (parts : List (List Tok)) → flat_map (λ part. part) (onto_first first parts) ≡ first ∷ flat_map (λ part. part) parts
joined_onto first [] = refl
joined_onto first (part ∷ parts) = refl

-- All groups together are the tokens.
pub groups_joined : (tokens : List Tok) → flat_map (λ group. group) (groups tokens) ≡ tokens
groups_joined [] = refl
groups_joined (first ∷ rest) = by (is_end first) refl (groups_joined rest)
  where
    by : (b : Bool) → is_end first ≡ b → flat_map (λ group. group) (groups rest) ≡ rest → flat_map (λ group. group) (groups (first ∷ rest)) ≡ first ∷ rest
    by true is ih = ap (flat_map (λ group. group)) (groups_end first rest is) ∙ ap (λ later. first ∷ later) ih
    by false is ih = ap (flat_map (λ group. group)) (groups_onto first rest is) ∙ joined_onto first (groups rest) ∙ ap (λ later. first ∷ later) ih

-- ---- the header, group by group

-- These groups stand at the front of the tokens, and the rest of the tokens behind them; they have no fault, and do not end the
-- header.
pub record HasRead (whole : List Tok) (before : List (List Tok)) (rest : List Tok) : Type 0 where
  pub parts : groups whole ≡ before ++ groups rest
  pub goes_on : list_any ends_header before ≡ false
  pub faultless : (later : List (List Tok)) → first_fault group_fault [] (before ++ later) ≡ first_fault group_fault before later

pub has_read_nothing : (whole : List Tok) → HasRead whole [] whole
has_read_nothing whole = record { parts = refl; goes_on = refl; faultless = λ later. refl }

-- no fault in the next group, whatever comes behind it
no_fault_here : (before : List (List Tok)) (group : List Tok) (later : List (List Tok)) → group_fault before group ≡ None
    → first_fault group_fault before (group ∷ later) ≡ first_fault group_fault (before ++ group ∷ []) later
no_fault_here before group later none = ap (λ fault. option_or fault (first_fault group_fault (before ++ group ∷ []) later)) none

fault_here : (before : List (List Tok)) (group : List Tok) (later : List (List Tok)) (fault : VcdFault) → group_fault before group ≡ Some fault
    → first_fault group_fault before (group ∷ later) ≡ Some fault
fault_here before group later fault some = ap (λ fault. option_or fault (first_fault group_fault (before ++ group ∷ []) later)) some

none_more : (before : List (List Tok)) (group : List Tok) → list_any ends_header before ≡ false → ends_header group ≡ false → list_any ends_header (before ++ group ∷ []) ≡ false
none_more before group none here = any_append ends_header before (group ∷ []) none ∙ ap (λ b. b || false) here

pub has_read_more : (whole : List Tok) (before : List (List Tok)) (tokens : List Tok) (group rest : List Tok)
    → HasRead whole before tokens → groups tokens ≡ group ∷ groups rest → group_fault before group ≡ None → ends_header group ≡ false
    → HasRead whole (before ++ group ∷ []) rest
has_read_more whole before tokens group rest so_far first none goes_on = record {
  parts = so_far.parts ∙ ap (λ later. before ++ later) first ∙ sym (append_assoc before (group ∷ []) (groups rest));
  goes_on = none_more before group so_far.goes_on goes_on;
  faultless = λ later.
      ap (first_fault group_fault []) (append_assoc before (group ∷ []) later)
      ∙ so_far.faultless (group ∷ later)
      ∙ no_fault_here before group later none;
}

-- the header, where these groups do not end it and this one comes behind them
header_through : (whole : List Tok) (before : List (List Tok)) (group : List Tok) (later : List (List Tok))
    → groups whole ≡ before ++ group ∷ later → list_any ends_header before ≡ false
    → header whole ≡ before ++ group ∷ take (position_or_len ends_header (group ∷ later)) later
header_through whole before group later parts goes_on =
    ap (λ gs. take (position_or_len ends_header gs + 1) gs) parts
    ∙ take_through ends_header before (group ∷ later) goes_on
    ∙ ap (λ gs. before ++ gs) (take_first ends_header group later)

pub fault_at_group : (size : ℕ) (whole : List Tok) (before : List (List Tok)) (tokens : List Tok) (group : List Tok) (later : List (List Tok)) (fault : VcdFault)
    → HasRead whole before tokens → groups tokens ≡ group ∷ later → group_fault before group ≡ Some fault → header_fault size whole ≡ Some fault
fault_at_group size whole before tokens group later fault so_far first here =
    let parts = so_far.parts ∙ ap (λ later. before ++ later) first in
    let rest = take (position_or_len ends_header (group ∷ later)) later in
    ap (λ groups. option_or (first_fault group_fault [] groups) (fault_if (not (has_header_end whole)) (Truncated size))) (header_through whole before group later parts so_far.goes_on)
    ∙ ap (λ fault. option_or fault (fault_if (not (has_header_end whole)) (Truncated size))) (so_far.faultless (group ∷ rest) ∙ fault_here before group rest fault here)

-- the header ends with this group
pub record HasEnded (size : ℕ) (whole : List Tok) (groups_read : List (List Tok)) (rest : List Tok) : Type 0 where
  pub faultless : header_fault size whole ≡ None
  pub whole_header : header whole ≡ groups_read
  pub body_behind : body whole ≡ rest

pub has_ended : (size : ℕ) (whole : List Tok) (before : List (List Tok)) (tokens group rest : List Tok)
    → HasRead whole before tokens → groups tokens ≡ group ∷ groups rest → group_fault before group ≡ None → ends_header group ≡ true
    → HasEnded size whole (before ++ group ∷ []) rest
has_ended size whole before tokens group rest so_far first none last =
    record { faultless = no_fault; whole_header = all; body_behind = behind }
  where
    parts : groups whole ≡ before ++ group ∷ groups rest
    parts = so_far.parts ∙ ap (λ later. before ++ later) first

    all : header whole ≡ before ++ group ∷ []
    all =
        ap (λ gs. take (position_or_len ends_header gs + 1) gs) parts
        ∙ take_through ends_header before (group ∷ groups rest) so_far.goes_on
        ∙ ap (λ gs. before ++ gs) (taken_now ends_header group (groups rest) last)

    behind : body whole ≡ rest
    behind =
        ap (λ gs. flat_map (λ group. group) (drop (position_or_len ends_header gs + 1) gs)) parts
        ∙ ap (flat_map (λ group. group)) (drop_through ends_header before (group ∷ groups rest) so_far.goes_on ∙ after_now ends_header group (groups rest) last)
        ∙ groups_joined rest

    ended : has_header_end whole ≡ true
    ended = ap (list_any ends_header) parts ∙ any_append ends_header before (group ∷ groups rest) so_far.goes_on ∙ ap (λ b. b || list_any ends_header (groups rest)) last

    no_fault : header_fault size whole ≡ None
    no_fault =
        ap (λ groups. option_or (first_fault group_fault [] groups) (fault_if (not (has_header_end whole)) (Truncated size))) all
        ∙ ap (λ fault. option_or fault (fault_if (not (has_header_end whole)) (Truncated size))) (so_far.faultless (group ∷ []) ∙ no_fault_here before group [] none)
        ∙ ap (λ b. fault_if (not b) (Truncated size)) ended

-- the tokens end before the header does
pub cut_off : (size : ℕ) (whole : List Tok) (before : List (List Tok)) → HasRead whole before [] → header_fault size whole ≡ Some (Truncated size)
cut_off size whole before so_far =
    let open_end : has_header_end whole ≡ false = ap (list_any ends_header) so_far.parts ∙ any_append ends_header before [] so_far.goes_on in
    let all : header whole ≡ before ++ [] = ap (λ gs. take (position_or_len ends_header gs + 1) gs) so_far.parts ∙ take_through ends_header before [] so_far.goes_on in
    ap (λ groups. option_or (first_fault group_fault [] groups) (fault_if (not (has_header_end whole)) (Truncated size))) all
    ∙ ap (λ fault. option_or fault (fault_if (not (has_header_end whole)) (Truncated size))) (so_far.faultless [])
    ∙ ap (λ b. fault_if (not b) (Truncated size)) open_end
