-- Headers that tokens spell are read.
use Rattle.std.proofs.Common.{◌≡◌, ◌≤◌, ◌<◌, ℕ, zero, suc, Bool, true, false, List, [], ◌∷◌, ◌++◌, length, codes, Ok, refl, sym, ap, ◌∙◌, subst, append_assoc, length-append, arith}
use Rattle.vlog_tokens.specs.Toks.{Tok}
use Rattle.vlog_tree.specs.declared.item.Item.{Item}
use Rattle.vlog_tree.specs.Spelling.Declarations.{Declared, IsPortShape, IsRegister, Shape, direction, register_items}
use Rattle.vlog_tree.specs.Spelling.Modules.{ArePorts, IsHeader}
use Rattle.vlog_tree.specs.Spelling.Numbers.{IsNumber}
use Rattle.vlog_tree.specs.Spelling.Parts.{Commas, Is, IsName, One, terminal}
use Rattle.vlog_parse.specs.Declarations.{is_direction, port_shape}
use Rattle.vlog_parse.specs.Modules.{add_port, add_port_after_comma, any_header, declared_ports, in_parentheses, inner_header, named_ports, next_shape, no_ports, port_list}
use Rattle.vlog_numbers.specs.Values.{sees_based}
use Rattle.vlog_parse.specs.Numbers.{number}
use Rattle.vlog_parse.specs.Reads.{Outcome, Parser, and_then, loop, loop_from, sees, separated}
use Rattle.vlog_parse.specs.Terminals as terminals
use Rattle.vlog_parse.specs.declared.header.Header.{Header}
use Rattle.vlog_parse.specs.declared.port.Ports.{Ports}
use Rattle.vlog_parse.proofs.DeclarationsComplete.{EndsName, StartsName, closing_ends, comma_ends, commas_start, name_no_direction, name_unseen, port_shape_read, register_read, register_starts}
use Rattle.vlog_parse.proofs.ItemFronts.{in_table}
use Rattle.vlog_parse.proofs.HeadersSound.{with_port, with_shape}
use Rattle.vlog_parse.proofs.Lists.{separated_complete}
use Rattle.vlog_parse.proofs.Rules.{◌>>=◌, Complete, expects, sees_is, sees_other}
use Rattle.vlog_parse.proofs.Terminals.{names}

ports_start : (shape : Shape) (front : List Tok) (listed : List (List ℕ)) (items : List Item) (rest : List Tok) → ArePorts shape front listed items → StartsName (front ++ rest)
ports_start _ _ _ _ rest (ArePorts.last shape ts declared s) = register_starts shape.kind ts declared rest s
ports_start _ _ _ _ rest (ArePorts.same shape ts comma more declared listed items s is are) = subst StartsName (sym (append_assoc ts (comma ∷ more) rest)) (register_starts shape.kind ts declared (comma ∷ (more ++ rest)) s)
ports_start _ _ _ _ rest (ArePorts.other shape ts comma ss more next declared listed items s is shaped are) =
    subst StartsName (sym (append_assoc ts (comma ∷ (ss ++ more)) rest)) (register_starts shape.kind ts declared (comma ∷ ((ss ++ more) ++ rest)) s)

ports_stop : (turns : ℕ) (state : Ports) (rest : List Tok) → length rest < turns → sees (codes ",") rest ≡ false → loop_from (sees (codes ",")) add_port_after_comma turns state rest ≡ Ok (state, rest)
unfolding loop_from
ports_stop zero state rest enough h = absurd (omega arith)
ports_stop (suc turns) state rest enough h = rw h refl

-- what the port after a comma is read as
abbrev next_port : Ports → Parser Ports
next_port state = λ ts. and_then (next_shape state.shape ts) (λ shape. add_port (with_shape shape state))

same_port : (state : Ports) (ts : List Tok) → is_direction ts ≡ false → next_port state ts ≡ add_port state ts
same_port state ts h = rw h refl

other_port : (state : Ports) (ts : List Tok) (shape : Shape) (left : List Tok) → is_direction ts ≡ true → port_shape ts ≡ Ok (shape, left) → next_port state ts ≡ add_port (with_shape shape state) left
other_port state ts shape left h read = rw (h, read) refl

ports_turn : (turns : ℕ) (state : Ports) (comma : Tok) (ts : List Tok) → length (comma ∷ ts) < turns → Is (codes ",") comma
    → (more : ℕ) × (length ts < more) × (loop_from (sees (codes ",")) add_port_after_comma turns state (comma ∷ ts) ≡ and_then (next_port state ts) (loop_from (sees (codes ",")) add_port_after_comma more))
unfolding loop_from add_port_after_comma
ports_turn zero state comma ts enough is = absurd (omega arith)
ports_turn (suc turns) state comma ts enough is = (turns, omega arith, rw (sees_is (codes ",") comma ts is, expects (codes ",") comma ts is) refl)

pub tail_length : (front : List Tok) (whole ts : List Tok) → whole ≡ front ++ ts → length ts ≤ length whole
tail_length front whole ts e = rw (e, length-append {A = Tok} front ts) (omega arith)

-- the ports with these names and items behind
abbrev extended : Ports → Shape → List (List ℕ) → List Item → Ports
extended ports shape listed items = record { shape = shape; names = ports.names ++ listed; items = ports.items ++ items }

extended_more : (ports : Ports) (declared : Declared) (last : Shape) (listed : List (List ℕ)) (items : List Item)
    → extended (with_port ports declared) last listed items ≡ extended ports last (declared.name ∷ listed) (register_items ports.shape declared ++ items)
extended_more ports declared last listed items = rw (append_assoc ports.names (declared.name ∷ []) listed, append_assoc ports.items (register_items ports.shape declared) items) refl

module _ (number_complete : (front : List Tok) (bits : List Bool) (rest : List Tok) → IsNumber front bits → sees_based rest ≡ false → number (front ++ rest) ≡ Ok (bits, rest)) where
  add_port_read : (ports : Ports) (front : List Tok) (declared : Declared) (rest : List Tok) → IsRegister ports.shape.kind front declared → EndsName rest → add_port ports (front ++ rest) ≡ Ok (with_port ports declared, rest)
  unfolding add_port
  add_port_read ports front declared rest s ends = rw (register_read number_complete ports.shape.kind front declared rest s ends) refl

  abbrev Goes : (List Tok → ℕ) → Ports → List Tok → Outcome Ports
  Goes turns ports ts = and_then (add_port ports ts) (λ state left. loop_from (sees (codes ",")) add_port_after_comma (turns left) state left)

  abbrev ReadsPorts : Shape → List Tok → List (List ℕ) → List Item → Type 0
  ReadsPorts shape front listed items = (rest : List Tok) → EndsName rest → sees (codes ",") rest ≡ false → (found : List (List ℕ)) (more : List Item) (turns : List Tok → ℕ)
      → ((left : List Tok) → length left ≤ length (front ++ rest) → length left < turns left)
      → (last : Shape) × (Goes turns (record { shape = shape; names = found; items = more }) (front ++ rest) ≡ Ok (record { shape = last; names = found ++ listed; items = more ++ items }, rest))

  -- a port, the comma behind it, and what is read from there on
  port_and_comma : (ports : Ports) (front : List Tok) (declared : Declared) (comma : Tok) (left : List Tok) (turns : List Tok → ℕ) → IsRegister ports.shape.kind front declared → Is (codes ",") comma
      → ((ts : List Tok) → length ts ≤ length (front ++ comma ∷ left) → length ts < turns ts)
      → (more : ℕ) × (length left < more) × (Goes turns ports (front ++ comma ∷ left) ≡ and_then (next_port (with_port ports declared) left) (loop_from (sees (codes ",")) add_port_after_comma more))
  port_and_comma ports front declared comma left turns s is enough = do
    (more, enough_more, turn) ← ports_turn (turns (comma ∷ left)) (with_port ports declared) comma left (enough (comma ∷ left) (tail_length front (front ++ comma ∷ left) (comma ∷ left) refl)) is
    (more, enough_more, ap (λ (o : Outcome Ports). and_then o (λ state ts. loop_from (sees (codes ",")) add_port_after_comma (turns ts) state ts)) (add_port_read ports front declared (comma ∷ left) s (comma_ends comma left is)) ∙ turn)

  ports_read : (shape : Shape) (front : List Tok) (listed : List (List ℕ)) (items : List Item) → ArePorts shape front listed items → ReadsPorts shape front listed items
  ports_read _ _ _ _ (ArePorts.last shape ts declared s) rest ends no_comma found more turns enough =
      let read = add_port_read (record { shape = shape; names = found; items = more }) ts declared rest s ends in (
        shape,
        ap (λ (o : Outcome Ports). and_then o (λ state left. loop_from (sees (codes ",")) add_port_after_comma (turns left) state left)) read
            ∙ ports_stop (turns rest) (with_port (record { shape = shape; names = found; items = more }) declared) rest (enough rest (tail_length ts (ts ++ rest) rest refl)) no_comma,
      )
  ports_read _ _ _ _ (ArePorts.same shape ts comma us declared listed items s is are) rest ends no_comma found more turns enough =
      let whole : (ts ++ comma ∷ us) ++ rest ≡ ts ++ (comma ∷ (us ++ rest)) = append_assoc ts (comma ∷ us) rest in
      do
        (left_turns, enough_left, turn) ← port_and_comma (record { shape = shape; names = found; items = more }) ts declared comma (us ++ rest) turns s is (subst (λ (xs : List Tok). (left : List Tok) → length left ≤ length xs → length left < turns left) whole enough)
        (last, go) ← ports_read shape us listed items are rest ends no_comma (found ++ declared.name ∷ []) (more ++ register_items shape declared) (λ _. left_turns) (λ left h. omega (arith, h, enough_left))
        same ← same_port (with_port (record { shape = shape; names = found; items = more }) declared) (us ++ rest) (name_no_direction (us ++ rest) (ports_start shape us listed items rest are))
        (
          last,
          ap (λ (xs : List Tok). Goes turns (record { shape = shape; names = found; items = more }) xs) whole ∙ turn
              ∙ ap (λ (o : Outcome Ports). and_then o (loop_from (sees (codes ",")) add_port_after_comma left_turns)) same ∙ go
              ∙ ap (λ (p : Ports). Ok (p, rest)) (extended_more (record { shape = shape; names = found; items = more }) declared last listed items),
        )
  ports_read _ _ _ _ (ArePorts.other shape ts comma ss us next declared listed items s is shaped are) rest ends no_comma found more turns enough =
      let whole : (ts ++ comma ∷ (ss ++ us)) ++ rest ≡ ts ++ (comma ∷ (ss ++ (us ++ rest))) = append_assoc ts (comma ∷ (ss ++ us)) rest ∙ ap (λ (xs : List Tok). ts ++ comma ∷ xs) (append_assoc ss us rest) in
      do
        (left_turns, enough_left, turn) ← port_and_comma (record { shape = shape; names = found; items = more }) ts declared comma (ss ++ (us ++ rest)) turns s is (subst (λ (xs : List Tok). (left : List Tok) → length left ≤ length xs → length left < turns left) whole enough)
        shorter ← tail_length ss (ss ++ (us ++ rest)) (us ++ rest) refl
        (last, go) ← ports_read next us listed items are rest ends no_comma (found ++ declared.name ∷ []) (more ++ register_items shape declared) (λ _. left_turns) (λ left h. omega (arith, h, enough_left, shorter))
        (read, told) ← port_shape_read ss next (us ++ rest) shaped (ports_start next us listed items rest are)
        same ← other_port (with_port (record { shape = shape; names = found; items = more }) declared) (ss ++ (us ++ rest)) next (us ++ rest) told read
        (
          last,
          ap (λ (xs : List Tok). Goes turns (record { shape = shape; names = found; items = more }) xs) whole ∙ turn
              ∙ ap (λ (o : Outcome Ports). and_then o (loop_from (sees (codes ",")) add_port_after_comma left_turns)) same ∙ go
              ∙ ap (λ (p : Ports). Ok (p, rest)) (extended_more (record { shape = shape; names = found; items = more }) declared last listed items),
        )

  port_list_read : (ss us : List Tok) (shape : Shape) (listed : List (List ℕ)) (items : List Item) (rest : List Tok) → IsPortShape ss shape → ArePorts shape us listed items → EndsName rest → sees (codes ",") rest ≡ false
      → (last : Shape) × (port_list (ss ++ (us ++ rest)) ≡ Ok (record { shape = last; names = listed; items = items }, rest))
  unfolding port_list loop
  port_list_read ss us shape listed items rest shaped are ends no_comma = do
    (read, told) ← port_shape_read ss shape (us ++ rest) shaped (ports_start shape us listed items rest are)
    (last, go) ← ports_read shape us listed items are rest ends no_comma [] [] (λ left. suc (length left)) (λ left h. omega arith)
    (last, rw read go)

  one_name_start : (front : List Tok) (name : List ℕ) (rest : List Tok) → One IsName front name → StartsName (front ++ rest)
  one_name_start [] name rest h = absurd h
  one_name_start (word ∷ []) name rest h = (word, rest, name, refl, h)
  one_name_start (word ∷ next ∷ more) name rest h = absurd h

  one_name_read : (size : ℕ) → Complete (λ _. Unit {0}) size terminals.name (One IsName)
  one_name_read size [] name rest h fits ends = absurd h
  one_name_read size (word ∷ []) name rest h fits ends = names word name rest h
  one_name_read size (word ∷ next ∷ more) name rest h fits ends = absurd h

  inner_names : (ts : List Tok) (listed : List (List ℕ)) (rest : List Tok) → Commas (One IsName) ts listed → sees (codes ",") rest ≡ false → inner_header (ts ++ rest) ≡ Ok (record { names = listed; items = [] }, rest)
  unfolding named_ports
  inner_names ts listed rest spelled no_comma =
      let starts = commas_start (One IsName) one_name_start ts listed rest spelled in
      let read : separated terminals.name (ts ++ rest) ≡ Ok (listed, rest) = separated_complete terminals.name (One IsName) (λ _. Unit {0}) (length ts) (one_name_read (length ts)) (λ comma us is. tt) ts listed rest spelled (omega arith) (tt, no_comma) in
      rw (name_unseen (codes ")") (ts ++ rest) starts refl, name_no_direction (ts ++ rest) starts, read) refl

  -- A direction is no closing parenthesis.
  shape_unclosed : (ss : List Tok) (shape : Shape) (rest : List Tok) → IsPortShape ss shape → sees (codes ")") (ss ++ rest) ≡ false
  shape_unclosed _ _ rest (IsPortShape.port_shape word ks rs dir kind range d k r) = in_table direction (terminal word) (codes ")") dir d refl

  inner_ports : (ss us : List Tok) (shape : Shape) (listed : List (List ℕ)) (items : List Item) (rest : List Tok) → IsPortShape ss shape → ArePorts shape us listed items → EndsName rest → sees (codes ",") rest ≡ false
      → inner_header (ss ++ (us ++ rest)) ≡ Ok (record { names = listed; items = items }, rest)
  unfolding declared_ports
  inner_ports ss us shape listed items rest shaped are ends no_comma =
      let told = (port_shape_read ss shape (us ++ rest) shaped (ports_start shape us listed items rest are)).1 in
      let read = (port_list_read ss us shape listed items rest shaped are ends no_comma).1 in
      rw (shape_unclosed ss shape (us ++ rest) shaped, told, read) refl

  parenthesised : (opening closing : Tok) (ts rest : List Tok) (found : Header) → Is (codes "(") opening → Is (codes ")") closing → inner_header (ts ++ closing ∷ rest) ≡ Ok (found, closing ∷ rest)
      → any_header ((opening ∷ (ts ++ closing ∷ [])) ++ rest) ≡ Ok (found, rest)
  unfolding any_header in_parentheses
  parenthesised opening closing ts rest found o c inner =
      let whole : (ts ++ closing ∷ []) ++ rest ≡ ts ++ closing ∷ rest = append_assoc ts (closing ∷ []) rest in
      rw (whole, sees_is (codes "(") opening (ts ++ closing ∷ rest) o, expects (codes "(") opening (ts ++ closing ∷ rest) o, inner, expects (codes ")") closing rest c) refl

  pub header_complete : (front : List Tok) (listed : List (List ℕ)) (items : List Item) (rest : List Tok) → IsHeader front listed items → sees (codes "(") rest ≡ false
      → any_header (front ++ rest) ≡ Ok (record { names = listed; items = items }, rest)
  unfolding any_header
  header_complete _ _ _ rest IsHeader.none h = rw h refl
  header_complete _ _ _ rest (IsHeader.empty opening closing o c) h = parenthesised opening closing [] rest no_ports o c (rw (sees_is (codes ")") closing rest c) refl)
  header_complete _ _ _ rest (IsHeader.names opening ts closing listed o spelled c) h =
      parenthesised opening closing ts rest (record { names = listed; items = [] }) o c (inner_names ts listed (closing ∷ rest) spelled (sees_other (codes ")") (codes ",") closing rest c refl))
  header_complete _ _ _ rest (IsHeader.ports opening ss ts closing shape listed items o shaped are c) h =
      let whole : ss ++ (ts ++ closing ∷ []) ≡ (ss ++ ts) ++ closing ∷ [] = sym (append_assoc ss ts (closing ∷ [])) in
      let inner = inner_ports ss ts shape listed items (closing ∷ rest) shaped are (closing_ends closing rest c) (sees_other (codes ")") (codes ",") closing rest c refl) in
      let behind : (ss ++ ts) ++ closing ∷ rest ≡ ss ++ (ts ++ closing ∷ rest) = append_assoc ss ts (closing ∷ rest) in
      subst (λ (xs : List Tok). any_header ((opening ∷ xs) ++ rest) ≡ Ok (record { names = listed; items = items }, rest)) (sym whole) (parenthesised opening closing (ss ++ ts) rest (record { names = listed; items = items }) o c (rw behind inner))
