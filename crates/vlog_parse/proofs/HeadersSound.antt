-- What the rules of headers read is spelled by the tokens that they take.
use Rattle.std.proofs.Common.{◌≡◌, ◌⊎◌, ℕ, zero, suc, Bool, true, false, List, [], ◌∷◌, ◌++◌, length, codes, Ok, refl, sym, ap, ◌∙◌, subst, append_assoc, append-nil, inl, inr, cond}
use Rattle.vlog_tokens.specs.Toks.{Tok}
use Rattle.vlog_tree.specs.declared.item.Item.{Item}
use Rattle.vlog_tree.specs.Spelling.Declarations.{Declared, IsPortShape, IsRegister, Shape, register_items}
use Rattle.vlog_tree.specs.Spelling.Modules.{ArePorts, IsHeader}
use Rattle.vlog_tree.specs.Spelling.Numbers.{IsNumber}
use Rattle.vlog_tree.specs.Spelling.Parts.{Is, IsName, IsRange, One}
use Rattle.vlog_parse.specs.Declarations.{is_direction, port_shape, register}
use Rattle.vlog_parse.specs.Modules.{add_port, add_port_after_comma, any_header, declared_ports, in_parentheses, inner_header, named_ports, next_shape, no_ports, port_list}
use Rattle.vlog_parse.specs.Numbers.{number}
use Rattle.vlog_parse.specs.Reads.{Parser, loop, loop_from, pure, sees, separated}
use Rattle.vlog_parse.specs.Selects.{range}
use Rattle.vlog_parse.specs.Terminals as terminals
use Rattle.vlog_parse.specs.declared.header.Header.{Header}
use Rattle.vlog_parse.specs.declared.port.Ports.{Ports}
use Rattle.vlog_parse.proofs.DeclarationsSound.{port_shape_sound, register_sound}
use Rattle.vlog_parse.proofs.Lists.{separated_sound}
use Rattle.vlog_parse.proofs.Rules.{◌>>=◌, Sound, Took, found_is, left_is, mark_took, then_took}
use Rattle.vlog_parse.proofs.Terminals.{name_took}

pair_of : {A B : Type 0} {a x : A} {b y : B} → a ≡ x → b ≡ y → ◌≡◌ {A = A × B} (a, b) (x, y)
pair_of e h = cc

-- one port more
abbrev pub with_port : Ports → Declared → Ports
with_port ports declared = record { shape = ports.shape; names = ports.names ++ declared.name ∷ []; items = ports.items ++ register_items ports.shape declared }

abbrev pub with_shape : Shape → Ports → Ports
with_shape shape ports = record { shape = shape; names = ports.names; items = ports.items }

-- the same ports with more behind
abbrev Extends : Ports → Ports → List (List ℕ) → List Item → Type 0
Extends all ports names items = (all.names ≡ ports.names ++ names) × (all.items ≡ ports.items ++ items)

-- a rule, or another where a test fails
pub test_took : {A : Type 0} (test : List Tok → Bool) (one other : Parser A) (ts : List Tok) (a : A) (rest : List Tok) → cond (test ts) (one ts) (other ts) ≡ Ok (a, rest)
    → ((test ts ≡ true) × (one ts ≡ Ok (a, rest))) ⊎ ((test ts ≡ false) × (other ts ≡ Ok (a, rest)))
test_took {A} test one other ts a rest e = by (test ts) refl
  where
    by : (b : Bool) → test ts ≡ b → ((test ts ≡ true) × (one ts ≡ Ok (a, rest))) ⊎ ((test ts ≡ false) × (other ts ≡ Ok (a, rest)))
    by true h = inl (h, rw h at e)
    by false h = inr (h, rw h at e)

module _ (range_sound : Sound range IsRange) (number_sound : Sound number IsNumber) where
  add_port_took : (ports : Ports) (ts : List Tok) (next : Ports) (rest : List Tok) → add_port ports ts ≡ Ok (next, rest)
      → (front : List Tok) × (declared : Declared) × (ts ≡ front ++ rest) × IsRegister ports.shape.kind front declared × (next ≡ with_port ports declared)
  unfolding add_port
  add_port_took ports ts next rest e = do
    (declared, left, was, m) ← then_took (register ports.shape.kind ts) _ next rest e
    (front, is, s) ← register_sound number_sound ports.shape.kind ts declared left was
    (front, declared, is ∙ ap (λ (xs : List Tok). front ++ xs) (sym (left_is m)), s, found_is m)

  -- After a port, more of them follow a comma each.
  abbrev PortsFollow : ℕ → Type 0
  PortsFollow turns = (ports : Ports) (front : List Tok) (declared : Declared) (ts : List Tok) (all : Ports) (rest : List Tok) → IsRegister ports.shape.kind front declared
      → loop_from (sees (codes ",")) add_port_after_comma turns (with_port ports declared) ts ≡ Ok (all, rest)
      → (us : List Tok) × (names : List (List ℕ)) × (items : List Item) × (ts ≡ us ++ rest) × ArePorts ports.shape (front ++ us) names items × Extends all ports names items

  -- the port after a comma and the ports behind it
  abbrev Behind : Ports → List Tok → Ports → List Tok → Type 0
  Behind ports ts all rest = (us : List Tok) × (names : List (List ℕ)) × (items : List Item) × (ts ≡ us ++ rest) × ArePorts ports.shape us names items × Extends all ports names items

  ports_behind : (turns : ℕ) → PortsFollow turns → (ports : Ports) (ts : List Tok) (next : Ports) (left : List Tok) (all : Ports) (rest : List Tok) → add_port ports ts ≡ Ok (next, left)
      → loop_from (sees (codes ",")) add_port_after_comma turns next left ≡ Ok (all, rest) → Behind ports ts all rest
  ports_behind turns follow ports ts next left all rest e more = do
    (front, declared, e1, s, same) ← add_port_took ports ts next left e
    (us, names, items, e2, are, extends) ← follow ports front declared left all rest s (subst (λ (state : Ports). loop_from (sees (codes ",")) add_port_after_comma turns state left ≡ Ok (all, rest)) same more)
    (front ++ us, names, items, e1 ∙ ap (λ (xs : List Tok). front ++ xs) e2 ∙ sym (append_assoc front us rest), are, extends)

  longer_names : (all ports : Ports) (declared : Declared) (names : List (List ℕ)) (items : List Item) → Extends all (with_port ports declared) names items → Extends all ports (declared.name ∷ names) (register_items ports.shape declared ++ items)
  longer_names all ports declared names items (n, i) = (n ∙ append_assoc ports.names (declared.name ∷ []) names, i ∙ append_assoc ports.items (register_items ports.shape declared) items)

  ports_step : (turns : ℕ) → PortsFollow turns → PortsFollow (suc turns)
  unfolding loop_from add_port_after_comma
  ports_step turns follow ports front declared ts all rest s e = by (sees (codes ",") ts) refl
    where
      by : (b : Bool) → sees (codes ",") ts ≡ b → (us : List Tok) × (names : List (List ℕ)) × (items : List Item) × (ts ≡ us ++ rest) × ArePorts ports.shape (front ++ us) names items × Extends all ports names items
      by false h =
          let ends = rw h at e in (
            [],
            declared.name ∷ [],
            register_items ports.shape declared,
            sym (left_is ends),
            subst (λ (us : List Tok). ArePorts ports.shape us (declared.name ∷ []) (register_items ports.shape declared)) (sym (append-nil front)) (ArePorts.last ports.shape front declared s),
            (ap (λ (p : Ports). p.names) (found_is ends), ap (λ (p : Ports). p.items) (found_is ends)),
          )
      by true h = do
        (next, left, was, more) ← then_took (add_port_after_comma (with_port ports declared) ts) (loop_from (sees (codes ",")) add_port_after_comma turns) all rest (rw h at e)
        (comma, ts1, e1, is, m1) ← mark_took (codes ",") _ ts next left was
        (shape, ts2, was2, m2) ← then_took (next_shape ports.shape ts1) _ next left m1
        elim (test_took is_direction port_shape (pure ports.shape) ts1 shape ts2 was2) [
          | inl (d, own) ↦ (do
            (ss, e2, shaped) ← port_shape_sound range_sound ts1 shape ts2 own
            (us, names, items, e3, are, extends) ← ports_behind turns follow (with_shape shape (with_port ports declared)) ts2 next left all rest m2 more
            (
              comma ∷ (ss ++ us),
              declared.name ∷ names,
              register_items ports.shape declared ++ items,
              e1 ∙ ap (λ (xs : List Tok). comma ∷ xs) (e2 ∙ ap (λ (xs : List Tok). ss ++ xs) e3 ∙ sym (append_assoc ss us rest)),
              ArePorts.other ports.shape front comma ss us shape declared names items s is shaped are,
              longer_names all ports declared names items extends,
            ))
          | inr (d, none) ↦ (do
            (us, names, items, e3, are, extends) ← ports_behind turns follow (with_port ports declared) ts1 next left all rest
                (subst (λ (p : Shape × List Tok). add_port (with_shape p.0 (with_port ports declared)) p.1 ≡ Ok (next, left)) (pair_of (found_is none) (left_is none)) m2) more
            (
              comma ∷ us,
              declared.name ∷ names,
              register_items ports.shape declared ++ items,
              e1 ∙ ap (λ (xs : List Tok). comma ∷ xs) e3,
              ArePorts.same ports.shape front comma us declared names items s is are,
              longer_names all ports declared names items extends,
            ))
        ]

  ports_follow : (turns : ℕ) → PortsFollow turns
  unfolding loop_from
  ports_follow zero ports front declared ts all rest s e = cc
  ports_follow (suc turns) ports front declared ts all rest s e = ports_step turns (ports_follow turns) ports front declared ts all rest s e

  ports_sound : (ts : List Tok) (ports : Ports) (rest : List Tok) → port_list ts ≡ Ok (ports, rest)
      → (ss us : List Tok) × (shape : Shape) × (ts ≡ (ss ++ us) ++ rest) × IsPortShape ss shape × ArePorts shape us ports.names ports.items
  unfolding port_list loop
  ports_sound ts ports rest e = do
    (shape, ts1, was1, m1) ← then_took (port_shape ts) _ ports rest e
    (ss, e1, shaped) ← port_shape_sound range_sound ts shape ts1 was1
    (first, left, was2, m2) ← then_took (add_port (record { shape = shape; names = []; items = [] }) ts1) _ ports rest m1
    (us, names, items, e2, are, extends) ← ports_behind (suc (length left)) (ports_follow (suc (length left))) (record { shape = shape; names = []; items = [] }) ts1 first left ports rest was2 m2
    (
      ss,
      us,
      shape,
      e1 ∙ ap (λ (xs : List Tok). ss ++ xs) e2 ∙ sym (append_assoc ss us rest),
      shaped,
      subst (λ (xs : List Item). ArePorts shape us ports.names xs) (sym extends.1) (subst (λ (xs : List (List ℕ)). ArePorts shape us xs items) (sym extends.0) are),
    )

  -- What stands between the parentheses, and then the header.
  abbrev InnerHeader : List Tok → Header → Type 0
  InnerHeader ts header = (opening closing : Tok) → Is (codes "(") opening → Is (codes ")") closing → IsHeader (opening ∷ (ts ++ closing ∷ [])) header.names header.items

  one_name_sound : Sound terminals.name (One IsName)
  one_name_sound ts name rest e = let (word, is, h) = name_took ts name rest e in (word ∷ [], is, h)

  declared_ports_took : (ts : List Tok) (header : Header) (rest : List Tok) → declared_ports ts ≡ Ok (header, rest) → Took InnerHeader ts header rest
  unfolding declared_ports
  declared_ports_took ts header rest e = do
    (ports, left, was, m) ← then_took (port_list ts) _ header rest e
    (ss, us, shape, e1, shaped, are) ← ports_sound ts ports left was
    (
      ss ++ us,
      e1 ∙ ap (λ (xs : List Tok). (ss ++ us) ++ xs) (sym (left_is m)),
      subst (λ (h : Header). InnerHeader (ss ++ us) h) (sym (found_is m)) (λ opening closing o c.
          subst (λ (xs : List Tok). IsHeader (opening ∷ xs) ports.names ports.items) (sym (append_assoc ss us (closing ∷ []))) (IsHeader.ports opening ss us closing shape ports.names ports.items o shaped are c)),
    )

  named_ports_took : (ts : List Tok) (header : Header) (rest : List Tok) → named_ports ts ≡ Ok (header, rest) → Took InnerHeader ts header rest
  unfolding named_ports
  named_ports_took ts header rest e = do
    (names, left, was, m) ← then_took (separated terminals.name ts) _ header rest e
    (front, e1, spelled) ← separated_sound terminals.name (One IsName) one_name_sound ts names left was
    (
      front,
      e1 ∙ ap (λ (xs : List Tok). front ++ xs) (sym (left_is m)),
      subst (λ (h : Header). InnerHeader front h) (sym (found_is m)) (λ opening closing o c. IsHeader.names opening front closing names o spelled c),
    )

  inner_took : (ts : List Tok) (header : Header) (rest : List Tok) → inner_header ts ≡ Ok (header, rest) → Took InnerHeader ts header rest
  inner_took ts header rest e = elim (test_took (sees (codes ")")) (pure no_ports) (λ us. cond (is_direction us) (declared_ports us) (named_ports us)) ts header rest e) [
    | inl (h, none) ↦ ([], sym (left_is none), subst (λ (found : Header). InnerHeader [] found) (sym (found_is none)) (λ opening closing o c. IsHeader.empty opening closing o c))
    | inr (h, some) ↦ elim (test_took is_direction declared_ports named_ports ts header rest some) [
      | inl (d, ports) ↦ declared_ports_took ts header rest ports
      | inr (d, names) ↦ named_ports_took ts header rest names
    ]
  ]

  pub header_sound : Sound any_header (λ ts header. IsHeader ts header.names header.items)
  unfolding any_header in_parentheses
  header_sound ts header rest e = elim (test_took (sees (codes "(")) in_parentheses (pure no_ports) ts header rest e) [
    | inl (h, some) ↦ (do
      (opening, ts1, e1, o, m1) ← mark_took (codes "(") _ ts header rest some
      (found, ts2, was, m2) ← then_took (inner_header ts1) _ header rest m1
      (front, e2, inner) ← inner_took ts1 found ts2 was
      (closing, ts3, e3, c, m3) ← mark_took (codes ")") _ ts2 header rest m2
      (
        opening ∷ (front ++ closing ∷ []),
        e1 ∙ ap (λ (xs : List Tok). opening ∷ xs) (e2 ∙ ap (λ (xs : List Tok). front ++ xs) (e3 ∙ ap (λ (xs : List Tok). closing ∷ xs) (sym (left_is m3))) ∙ sym (append_assoc front (closing ∷ []) rest)),
        subst (λ (found : Header). IsHeader (opening ∷ (front ++ closing ∷ [])) found.names found.items) (sym (found_is m3)) (inner opening closing o c),
      ))
    | inr (h, none) ↦ ([], sym (left_is none), subst (λ (found : Header). IsHeader [] found.names found.items) (sym (found_is none)) IsHeader.none)
  ]
