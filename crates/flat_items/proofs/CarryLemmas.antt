-- Items that are carried out one after another.
use Rattle.std.proofs.Common.{◌≡◌, ◌+◌, ◌<◌, ℕ, List, [], ◌∷◌, ◌++◌, Option, Some, get_or, slice_get, Result, Ok, Err, append-nil, append_assoc, ap, arith, length, length-append, map, refl, subst, sym, ◌∙◌}
use Rattle.std.proofs.lemmas.Option.{slice_get_read}
use Rattle.std.specs.Result.{IfErr, IsErrAnd, OnOk}
use Rattle.drives.specs.Given.{given_so_far}
use Rattle.flat_design.specs.Items.{Given, Giving, each, nothing_given}
use Rattle.flat_items.specs.Carried.{Carried, CarriesTo}
use Rattle.flat_net.specs.declared.edge.Edge.{Edge}
use Rattle.flat_net.specs.declared.fault.FlatFault.{FlatFault}
use Rattle.flat_net.specs.declared.node.Node.{Node}
use Rattle.lowering.specs.Limits.{Added, Excuses, next_of, with_more}
use Rattle.lowering.specs.Lowered.{lowered}
use Rattle.lowering.proofs.BoundLemmas.{excuses_more}
use Rattle.lowering.proofs.RemainsLemmas.{more_none, more_twice, next_of_more}
use Rattle.numbering.specs.Bits.{register_bits}
use Rattle.processes.specs.Statements.{Registers}
use Rattle.vlog_tree.specs.declared.design.Module.{Module}
use Rattle.vlog_tree.specs.Meaning.Setting.{Setting}

-- ---- a fault

pub passed_on : {X : Type 0} (P : FlatFault → Type 0) (result : Result X FlatFault) (fault : FlatFault)
    → IsErrAnd result (λ other. other ≡ fault) → P fault → IfErr result P
passed_on P (Ok x) fault is holds = tt
passed_on P (Err other) fault is holds = subst P (sym is) holds

pub on_ok : {X E : Type 0} (P Q : Type 0) (result : Result X E) → OnOk result P → (P → Q) → OnOk result Q
on_ok P Q (Ok x) holds change = change holds
on_ok P Q (Err e) holds change = tt

pub on_err : {X : Type 0} (P Q : FlatFault → Type 0) (result : Result X FlatFault) → IfErr result P
    → ((fault : FlatFault) → P fault → Q fault) → IfErr result Q
on_err P Q (Ok x) holds change = tt
on_err P Q (Err fault) holds change = change fault holds

-- the element that a loop is at
pub found_at : {X : Type 0} (xs : List X) (i : ℕ) (x : X) → i < length xs → x ≡ get_or xs i x → slice_get xs i ≡ Some x
found_at xs i x below is = slice_get_read xs (length xs) i x refl below is

-- ---- nodes

abbrev more : Added → List Node → Added
more start nodes = with_more start (lowered nodes [])

more_both : (start : Added) (first rest : List Node) → more (more start first) rest ≡ more start (first ++ rest)
more_both start first rest = more_twice start (lowered first []) (lowered rest [])

pub next_more : (start : Added) (nodes : List Node) → next_of (more start nodes) ≡ next_of start + length nodes
next_more start nodes = next_of_more start (lowered nodes [])

-- ---- nothing

module _ (setting : Setting) (m : Module) where
  pub nothing_carried : (start : Added) (old : List (Option Edge)) (was : List Edge)
      → Carried setting m (λ before next. nothing_given before) start start old old was was
  nothing_carried start old was = record {
    nodes = λ before is. sym (more_none start []);
    driven =
        λ before is drives ports given. given ∙ (λ j. given_so_far setting (sym (append-nil drives) j) (sym (append-nil ports) j));
    registers = λ before is. is;
  }

  -- ---- one after another

  module _ {X : Type 0} (giving : X → Giving) (x : X) (others : List X) (start here : Added) (old given : List (Option Edge)) (was now : List Edge) (one : Carried setting m (giving x) start here old given was now) where
    abbrev first_of : Registers → Given
    first_of before = giving x before (next_of start)

    -- the number of the node that is added next
    number_is : (before : Registers) → was ≡ map before (register_bits m)
        → next_of here ≡ next_of start + length (first_of before).nodes
    number_is before is = ap next_of (one.nodes before is) ∙ next_more start (first_of before).nodes

    abbrev rest_at : Registers → ℕ → Given
    rest_at before number = each giving others (first_of before).registers number

    rest_is : (before : Registers) → was ≡ map before (register_bits m)
        → rest_at before (next_of here) ≡ rest_at before (next_of start + length (first_of before).nodes)
    rest_is before is = ap (rest_at before) (number_is before is)

    pub then_carried : (end : Added) (new : List (Option Edge)) (last : List Edge)
        → Carried setting m (each giving others) here end given new now last
        → Carried setting m (each giving (x ∷ others)) start end old new was last
    then_carried end new last rest = record {
      nodes =
          λ before is. rest.nodes (first_of before).registers (one.registers before is)
          ∙ (λ j. more (one.nodes before is j) (rest_is before is j).nodes)
          ∙ more_both start (first_of before).nodes (rest_at before (next_of start + length (first_of before).nodes)).nodes;
      driven =
          λ before is drives ports given_is. rest.driven (first_of before).registers (one.registers before is)
          (drives ++ (first_of before).drives) (ports ++ (first_of before).ports) (one.driven before is drives ports given_is)
          ∙ (λ j. given_so_far setting ((drives ++ (first_of before).drives) ++ (rest_is before is j).drives)
          ((ports ++ (first_of before).ports) ++ (rest_is before is j).ports))
          ∙ (λ j. given_so_far setting
          (append_assoc drives (first_of before).drives (rest_at before (next_of start + length (first_of before).nodes)).drives j)
          (append_assoc ports (first_of before).ports (rest_at before (next_of start + length (first_of before).nodes)).ports j));
      registers =
          λ before is. rest.registers (first_of before).registers (one.registers before is)
          ∙ (λ j. map (rest_is before is j).registers (register_bits m));
    }

    pub then_fails : (fault : FlatFault) → CarriesTo m (each giving others) here now fault
        → CarriesTo m (each giving (x ∷ others)) start was fault
    then_fails fault fails before is =
        subst (λ count. Excuses count fault) (count_is before is) (fails (first_of before).registers (one.registers before is))
      where
        count_is : (before : Registers) → was ≡ map before (register_bits m)
            → next_of here + length (rest_at before (next_of here)).nodes
            ≡ next_of start
            + length ((first_of before).nodes ++ (rest_at before (next_of start + length (first_of before).nodes)).nodes)
        count_is before is =
            (λ j. number_is before is j + length (rest_is before is j).nodes)
            ∙ (let both = length-append (first_of before).nodes (rest_at before (next_of start + length (first_of before).nodes)).nodes in omega (arith, both))

  pub first_fails : {X : Type 0} (giving : X → Giving) (x : X) (others : List X) (start : Added) (was : List Edge) (fault : FlatFault)
      → CarriesTo m (giving x) start was fault → CarriesTo m (each giving (x ∷ others)) start was fault
  first_fails giving x others start was fault fails before is =
      let one : Given = giving x before (next_of start) in
      let rest : Given = each giving others one.registers (next_of start + length one.nodes) in
      excuses_more (next_of start + length one.nodes) (next_of start + length (one.nodes ++ rest.nodes)) fault
      (let both = length-append one.nodes rest.nodes in omega (arith, both)) (fails before is)

  -- ---- loops

  -- What is left makes the whole.
  pub record Yet (left whole : Giving) (here start : Added) (given old : List (Option Edge)) (now was : List Edge) : Type 0 where
    pub goes : (end : Added) (new : List (Option Edge)) (last : List Edge)
        → Carried setting m left here end given new now last → Carried setting m whole start end old new was last
    pub fails : (fault : FlatFault) → CarriesTo m left here now fault → CarriesTo m whole start was fault

  pub all_left : (whole : Giving) (start : Added) (old : List (Option Edge)) (was : List Edge)
      → Yet whole whole start start old old was was
  all_left whole start old was = record { goes = λ end new last carried. carried; fails = λ fault fails. fails }

  pub one_turn : {X : Type 0} (giving : X → Giving) (x : X) (others : List X) (whole : Giving) (here there start : Added)
      (given more_given old : List (Option Edge)) (now then was : List Edge)
      → Yet (each giving (x ∷ others)) whole here start given old now was
      → Carried setting m (giving x) here there given more_given now then
      → Yet (each giving others) whole there start more_given old then was
  one_turn giving x others whole here there start given more_given old now then was yet one = record {
    goes = λ end new last rest. yet.goes end new last (then_carried giving x others here there given more_given now then one end new last rest);
    fails = λ fault fails. yet.fails fault (then_fails giving x others here there given more_given now then one fault fails);
  }

  pub turn_fails : {X : Type 0} (giving : X → Giving) (x : X) (others : List X) (whole : Giving) (here start : Added)
      (given old : List (Option Edge)) (now was : List Edge) (fault : FlatFault)
      → Yet (each giving (x ∷ others)) whole here start given old now was
      → CarriesTo m (giving x) here now fault → CarriesTo m whole start was fault
  turn_fails giving x others whole here start given old now was fault yet fails =
      yet.fails fault (first_fails giving x others here now fault fails)

  pub none_left : {X : Type 0} (giving : X → Giving) (whole : Giving) (here start : Added)
      (given old : List (Option Edge)) (now was : List Edge)
      → Yet (each giving []) whole here start given old now was → Carried setting m whole start here old given was now
  none_left giving whole here start given old now was yet = yet.goes here given now (nothing_carried here given now)

  -- ---- one alone

  pub alone_carried : {X : Type 0} (giving : X → Giving) (x : X) (start end : Added) (old new : List (Option Edge)) (was now : List Edge)
      → Carried setting m (giving x) start end old new was now → Carried setting m (each giving (x ∷ [])) start end old new was now
  alone_carried giving x start end old new was now one =
      then_carried giving x [] start end old new was now one end new now (nothing_carried end new now)
