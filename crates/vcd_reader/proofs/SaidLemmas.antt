-- What a body has said so far.
use Rattle.std.proofs.Common.{◌≡◌, ℕ, ◌==◌, List, [], ◌∷◌, ◌++◌, Bool, true, false, length, Option, Some, None, is_none, refl, sym, ap, ◌∙◌, arith}
use Rattle.std.specs.List.{cons_option, last_or}
use Rattle.std.specs.Option.{option_or}
use Rattle.std.proofs.lemmas.List.{append_assoc, append-nil}
use Rattle.vcd_header.specs.declared.fault.VcdFault.{VcdFault}
use Rattle.vcd_header.specs.declared.fault.VcdFault.TheVariants.{NoTime}
use Rattle.vcd_reader.specs.Body.{Item}
use Rattle.vcd_reader.specs.Body.Item.{time, change, misplaced, unfinished}
use Rattle.vcd_reader.specs.Changes.{all_times, time_of}
use Rattle.vcd_header.specs.Faults.{fault_if, first_fault}
use Rattle.vcd_reader.specs.Said.{fault_after}
use Rattle.vcd_header.specs.Variables.{Variable}
use Rattle.vcd_reader.specs.Waveform.{body_fault, item_fault}

last_more : (o : Option ℕ) (xs : List ℕ) (x : ℕ) → last_or o (xs ++ x ∷ []) ≡ Some x
last_more o [] x = refl
last_more o (y ∷ xs) x = last_more (Some y) xs x

with_time : (o : Option ℕ) (times : List ℕ) (item more : List ℕ) → times ≡ item ++ more → cons_option o times ≡ cons_option o item ++ more
with_time None times item more same = same
with_time (Some t) times item more same = ap (λ times. t ∷ times) same

pub times_more : (before : List Item) (item : Item) → all_times (before ++ item ∷ []) ≡ all_times before ++ cons_option (time_of item) []
times_more [] item = refl
times_more (first ∷ before) item = with_time (time_of first) (all_times (before ++ item ∷ [])) (all_times before) (cons_option (time_of item) []) (times_more before item)

-- the last time, with one more item
pub last_time_more : (before : List Item) (item : Item) → last_or None (all_times (before ++ item ∷ [])) ≡ option_or (time_of item) (last_or None (all_times before))
last_time_more before item = ap (last_or None) (times_more before item) ∙ by (time_of item)
  where
    by : (o : Option ℕ) → last_or None (all_times before ++ cons_option o []) ≡ option_or o (last_or None (all_times before))
    by None = ap (last_or None) (append-nil (all_times before))
    by (Some t) = last_more None (all_times before) t

last_is : (o : Option ℕ) (x : ℕ) (xs : List ℕ) → is_none (last_or o (x ∷ xs)) ≡ false
last_is o x [] = refl
last_is o x (y ∷ xs) = last_is (Some x) y xs

none_is_empty : (xs : List ℕ) → last_or None xs ≡ None → (length xs == 0) ≡ true
none_is_empty [] is = refl
none_is_empty (x ∷ xs) is = let no_end = sym (last_is None x xs) ∙ ap is_none is in absurd (cc)

some_is_not : (xs : List ℕ) (t : ℕ) → last_or None xs ≡ Some t → (length xs == 0) ≡ false
some_is_not [] t is = absurd (cc)
some_is_not (x ∷ xs) t is = grind arith

-- the fault of an item is told by the last time before it
fault_told : (declared : List Variable) (before : List Item) (last : Option ℕ) (item : Item) → last ≡ last_or None (all_times before) → fault_after declared last item ≡ item_fault declared before item
fault_told declared before last (time at value) is = ap (λ last. fault_after declared last (time at value)) is
fault_told declared before last (change at code digits) is = refl
fault_told declared before last (misplaced at) is = refl
fault_told declared before last (unfinished at) is = refl

-- These items were said, without a fault, and the rest is still to come.
pub record HasSaid (declared : List Variable) (whole before rest : List Item) (last : Option ℕ) : Type 0 where
  pub parts : whole ≡ before ++ rest
  pub faultless : (later : List Item) → first_fault (item_fault declared) [] (before ++ later) ≡ first_fault (item_fault declared) before later
  pub last_is : last ≡ last_or None (all_times before)

pub said_nothing : (declared : List Variable) (whole : List Item) → HasSaid declared whole [] whole None
said_nothing declared whole = record { parts = refl; faultless = λ later. refl; last_is = refl }

module _ (declared : List Variable) (whole before rest more : List Item) (last next : Option ℕ) (item : Item) where
  pub said_more : HasSaid declared whole before rest last → rest ≡ item ∷ more → fault_after declared last item ≡ None → next ≡ option_or (time_of item) last → HasSaid declared whole (before ++ item ∷ []) more next
  said_more said front none now = record {
    parts = said.parts ∙ ap (λ rest. before ++ rest) front ∙ sym (append_assoc before (item ∷ []) more);
    faultless = λ later.
        ap (first_fault (item_fault declared) []) (append_assoc before (item ∷ []) later)
        ∙ said.faultless (item ∷ later)
        ∙ ap (λ fault. option_or fault (first_fault (item_fault declared) (before ++ item ∷ []) later)) (sym (fault_told declared before last item said.last_is) ∙ none);
    last_is = now ∙ ap (option_or (time_of item)) said.last_is ∙ sym (last_time_more before item);
  }

  pub said_fault : (fault : VcdFault) → HasSaid declared whole before rest last → rest ≡ item ∷ more → fault_after declared last item ≡ Some fault → body_fault declared whole ≡ Some fault
  said_fault fault said front some =
      ap (λ fault. option_or fault (fault_if (length (all_times whole) == 0) NoTime))
      (ap (first_fault (item_fault declared) []) (said.parts ∙ ap (λ rest. before ++ rest) front)
      ∙ said.faultless (item ∷ more)
      ∙ ap (λ fault. option_or fault (first_fault (item_fault declared) (before ++ item ∷ []) more)) (sym (fault_told declared before last item said.last_is) ∙ some))

all_said : (declared : List Variable) (whole before rest : List Item) (last : Option ℕ) (said : HasSaid declared whole before rest last) → rest ≡ [] → (empty : Bool) → (length (all_times before) == 0) ≡ empty
    → body_fault declared whole ≡ fault_if empty NoTime
all_said declared whole before rest last said none empty is =
    let all : whole ≡ before = said.parts ∙ ap (λ rest. before ++ rest) none ∙ append-nil before in
    ap (body_fault declared) all
    ∙ ap (λ fault. option_or fault (fault_if (length (all_times before) == 0) NoTime)) (ap (first_fault (item_fault declared) []) (sym (append-nil before)) ∙ said.faultless [])
    ∙ ap (λ empty. fault_if empty NoTime) is

pub said_all : (declared : List Variable) (whole before rest : List Item) (last : Option ℕ) (t : ℕ) → HasSaid declared whole before rest last → rest ≡ [] → last ≡ Some t → body_fault declared whole ≡ None
said_all declared whole before rest last t said none is = all_said declared whole before rest last said none false (some_is_not (all_times before) t (sym said.last_is ∙ is))

pub said_no_time : (declared : List Variable) (whole before rest : List Item) (last : Option ℕ) → HasSaid declared whole before rest last → rest ≡ [] → last ≡ None → body_fault declared whole ≡ Some NoTime
said_no_time declared whole before rest last said none is = all_said declared whole before rest last said none true (none_is_empty (all_times before) (sym said.last_is ∙ is))
