-- The design that the tokens spell is what is read, both ways.
use Rattle.std.proofs.Common.{◌≡◌, ℕ, List, [], ◌∷◌, ◌++◌, false, codes, length, Ok, Err, refl, sym, ap, ◌∙◌, subst, inl, inr}
use Rattle.std.proofs.lemmas.List.{length-map}
use Rattle.vlog_tokens.specs.Toks.{Lexed, Tok, tok_of, toks}
use Rattle.vlog_tokens.specs.declared.token.Token.{Token}
use Rattle.vlog_tree.specs.declared.design.Design.{Design}
use Rattle.vlog_tree.specs.Spelling.Items.{IsItem}
use Rattle.vlog_tree.specs.Spelling.Modules.{IsDesign}
use Rattle.vlog_tree.specs.Spelling.Parts.{Is, IsAnyDelay}
use Rattle.vlog_parse.specs.Delays.{any_delay}
use Rattle.vlog_parse.specs.Items.{item}
use Rattle.vlog_parse.specs.Modules.{design}
use Rattle.vlog_numbers.specs.Values.{sees_based}
use Rattle.vlog_parse.specs.Places.{IsPlace, SpellNothing, place_in}
use Rattle.vlog_parse.specs.Reads.{sees}
use Rattle.vlog_parse.proofs.DeclarationsComplete.{port_items_complete, reg_items_complete, wire_items_complete}
use Rattle.vlog_parse.proofs.DeclarationsSound.{port_items_sound, reg_items_sound, wire_items_sound}
use Rattle.vlog_parse.proofs.DelaysComplete.{delay_complete}
use Rattle.vlog_parse.proofs.DelaysSound.{any_delay_sound, parted_by}
use Rattle.vlog_parse.proofs.ExprsComplete.{expr_complete}
use Rattle.vlog_parse.proofs.ExprsSound.{expr_sound}
use Rattle.vlog_parse.proofs.Follows.{EndsExpr, mark_ends}
use Rattle.vlog_parse.proofs.ItemsComplete.{item_complete}
use Rattle.vlog_parse.proofs.ItemsSound.{item_sound}
use Rattle.vlog_parse.proofs.LeftFollows.{EndsLeft, left_ends}
use Rattle.vlog_parse.proofs.LeftsComplete.{left_complete}
use Rattle.vlog_parse.proofs.LeftsSound.{left_sound}
use Rattle.vlog_parse.proofs.LocalModules.{design_keeps, stuck_at}
use Rattle.vlog_parse.proofs.ModulesComplete.{EndsItem, design_complete, one_design_at_most}
use Rattle.vlog_parse.proofs.ModulesSound.{design_sound}
use Rattle.vlog_parse.proofs.Numbers.{number_complete, number_sound}
use Rattle.vlog_parse.proofs.Rules.{Complete, Sound}
use Rattle.vlog_parse.proofs.Selects.{range_sound}
use Rattle.vlog_parse.proofs.StmtsComplete.{plain_stmt_complete}
use Rattle.vlog_parse.proofs.StmtsSound.{plain_stmt_sound}

-- ---- items, from all their parts

items_sound : (depth : ℕ) → Sound (item depth) IsItem
items_sound =
    item_sound expr_sound left_sound any_delay_sound number_sound (plain_stmt_sound expr_sound) (port_items_sound range_sound number_sound) (wire_items_sound range_sound any_delay_sound expr_sound)
    (reg_items_sound range_sound number_sound)

comma_ends_expr : (comma : Tok) (rest : List Tok) → Is (codes ",") comma → EndsExpr (comma ∷ rest)
comma_ends_expr comma rest h = mark_ends (codes ",") comma rest h refl

closing_ends_expr : (closing : Tok) (rest : List Tok) → Is (codes ")") closing → EndsExpr (closing ∷ rest)
closing_ends_expr closing rest h = mark_ends (codes ")") closing rest h refl

semi_ends_expr : (semi : Tok) (rest : List Tok) → Is (codes ";") semi → EndsExpr (semi ∷ rest)
semi_ends_expr semi rest h = mark_ends (codes ";") semi rest h refl

comma_ends_left : (comma : Tok) (rest : List Tok) → Is (codes ",") comma → EndsLeft (comma ∷ rest)
comma_ends_left comma rest h = left_ends (codes ",") comma rest h refl

equals_ends_left : (equals : Tok) (rest : List Tok) → Is (codes "=") equals → EndsLeft (equals ∷ rest)
equals_ends_left equals rest h = left_ends (codes "=") equals rest h refl

delays_complete : (front rest : List Tok) → IsAnyDelay front → sees (codes "#") rest ≡ false → sees_based rest ≡ false → any_delay (front ++ rest) ≡ Ok (tt, rest)
delays_complete front rest d h b = delay_complete front rest d h (parted_by front rest b)

items_complete : (depth : ℕ) → Complete EndsItem depth (item depth) IsItem
items_complete depth =
    item_complete EndsExpr expr_complete comma_ends_expr closing_ends_expr semi_ends_expr EndsLeft left_complete comma_ends_left equals_ends_left delays_complete expr_sound left_sound number_complete
    (plain_stmt_complete expr_complete) depth (port_items_complete number_complete) (wire_items_complete EndsExpr comma_ends_expr semi_ends_expr expr_complete delays_complete depth)
    (reg_items_complete number_complete)

-- ---- designs

-- Tokens spell one design at most.
pub one_design_of : (ts : List Tok) (one other : Design) → IsDesign ts one → IsDesign ts other → one ≡ other
one_design_of = one_design_at_most number_complete items_complete

-- What is read from these tokens, however deep it may nest, they spell.
pub is_spelled : (ts left : List Tok) (n : ℕ) (found : Design) → left ≡ ts → (rest : List Tok) → design n left ≡ Ok (found, rest) → IsDesign ts found
is_spelled ts left n found same rest e = subst (λ (xs : List Tok). IsDesign xs found) same (design_sound range_sound number_sound items_sound left found rest n e)

read_whole : (ts left : List Tok) (n : ℕ) (found : Design) → left ≡ ts → n ≡ length ts → IsDesign ts found → design n left ≡ Ok (found, [])
read_whole ts left n found same many spelled = rw (same, many) (design_complete number_complete items_complete ts found spelled)

-- What they spell is what is read.
pub is_read : (ts left : List Tok) (n : ℕ) (found other : Design) → left ≡ ts → n ≡ length ts → (rest : List Tok) → design n left ≡ Ok (found, rest) → IsDesign ts other → found ≡ other
is_read ts left n found other same many rest e spelled = one_design_of ts found other (is_spelled ts left n found same rest e) spelled

-- What they spell is not refused.
pub is_not_refused : (ts left : List Tok) (n : ℕ) (other : Design) → left ≡ ts → n ≡ length ts → (rest : List Tok) → design n left ≡ Err rest → IsDesign ts other → ⊥
is_not_refused ts left n other same many rest e spelled = (let no = sym e ∙ read_whole ts left n other same many spelled in cc)

-- ---- the tokens of the code

pub as_many : (tokens : List Token) (ts : List Tok) → toks tokens ≡ ts → length tokens ≡ length ts
as_many tokens ts same = sym (length-map tokens tok_of) ∙ ap (length {A = Tok}) same

-- ---- where they do not fit

-- A token of the list that does not fit does not, whatever follows it.
misfit_from : (ts front : List Tok) (tok : Tok) (rest : List Tok) (n : ℕ) → n ≡ length ts → design n ts ≡ Err (tok ∷ rest) → ts ≡ front ++ tok ∷ rest → (more : List Tok) → SpellNothing (front ++ tok ∷ more)
misfit_from ts front tok rest n many e same more found spelled =
    let deep : n ≡ length (front ++ tok ∷ rest) = many ∙ ap (length {A = Tok}) same in
    let here : design (length (front ++ tok ∷ rest)) (front ++ tok ∷ rest) ≡ Err (tok ∷ rest) = ap (λ (k : ℕ). design k (front ++ tok ∷ rest)) (sym deep) ∙ ap (design n) (sym same) ∙ e in
    let stuck = stuck_at front tok rest more here in
    let whole = design_complete number_complete items_complete (front ++ tok ∷ more) found spelled in
    cc

left_place : (lexed : Lexed) (ts left : List Tok) (n : ℕ) → ts ≡ lexed.list → n ≡ length ts → design n ts ≡ Err left → IsPlace lexed (place_in lexed left)
left_place lexed ts [] n same many e = inl refl
left_place lexed ts (tok ∷ rest) n same many e =
    let (front, is) = design_keeps ts (tok ∷ rest) n many e in
    inr (record { front = front; tok = tok; rest = rest; stands = sym same ∙ is; place = refl; none = misfit_from ts front tok rest n many e is })

-- The place of the first token that is left is where the grammar is refused.
pub stuck_place : (lexed : Lexed) (ts left : List Tok) (n at : ℕ) → ts ≡ lexed.list → n ≡ length lexed.list → design n ts ≡ Err left → at ≡ place_in lexed left → IsPlace lexed at
stuck_place lexed ts left n at same many e is = subst (λ (place : ℕ). IsPlace lexed place) (sym is) (left_place lexed ts left n same (many ∙ ap (length {A = Tok}) (sym same)) e)
