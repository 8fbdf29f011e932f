-- What is left of the tokens read so far, one more at a time.
use Rattle.std.proofs.Common.{◌≡◌, Bool, ℕ, true, false, ◌&&◌, ◌||◌, List, [], ◌∷◌, ◌++◌, length, take, refl, sym, ◌∙◌, ap, append_assoc, Option, Some, None}
use Rattle.std.specs.List.{list_any}
use Rattle.std.proofs.Math.Bool.{and-false}
use Rattle.std.proofs.Math.Seq.{take-append_seam}
use Rattle.std.proofs.lemmas.Bool.{false≢true}
use Rattle.std.proofs.lemmas.List.{append-nil}
use Rattle.std.proofs.lemmas.List.Folds.{list_any-append}
use Rattle.vlog_tokens.specs.Attributes.{DropsAttributes, KeepsOpenMarks, closes, opens, stay, without_attributes}
use Rattle.vlog_tokens.specs.Toks.{Tok}
use Rattle.vlog_lexer.specs.Leaves.{IsOpen, Leaves}

or_head : (a b : Bool) → (a || b) ≡ false → a ≡ false
or_head true b h = h
or_head false b h = refl

or_tail : (a b : Bool) → (a || b) ≡ false → b ≡ false
or_tail true b h = absurd (false≢true (sym h))
or_tail false b h = h

-- Where nothing closes an attribute, every token stays.
stay_all : (ts : List Tok) → list_any closes ts ≡ false → stay false ts ≡ ts
stay_all [] h = refl
stay_all (t ∷ ts) h =
    let tail : list_any closes ts ≡ false = or_tail (closes t) (list_any closes ts) h in
    let test : (opens t && list_any closes ts) ≡ false = ap (λ b. opens t && b) tail ∙ and-false (opens t) in
    rw test (ap (λ l. t ∷ l) (stay_all ts tail))

stay_open : (t : Tok) (ts : List Tok) → list_any closes ts ≡ false → stay false (t ∷ ts) ≡ t ∷ ts
stay_open t ts h =
    let test : (opens t && list_any closes ts) ≡ false = ap (λ b. opens t && b) h ∙ and-false (opens t) in
    rw test (ap (λ l. t ∷ l) (stay_all ts h))

stay_plain : (t : Tok) (ts : List Tok) → opens t ≡ false → stay false (t ∷ ts) ≡ t ∷ stay false ts
stay_plain t ts h = rw h refl

stay_inside : (rest : List Tok) (t : Tok) (later : List Tok) → list_any closes rest ≡ false → closes t ≡ true → stay true (rest ++ (t ∷ later)) ≡ stay false later
stay_inside [] t later h e = rw e refl
stay_inside (x ∷ rest) t later h e =
    let head : closes x ≡ false = or_head (closes x) (list_any closes rest) h in
    rw head (stay_inside rest t later (or_tail (closes x) (list_any closes rest) h) e)

-- An attribute's tokens are dropped.
stay_drops : (first : Tok) (rest : List Tok) (t : Tok) (later : List Tok) → opens first ≡ true → list_any closes rest ≡ false → closes t ≡ true
    → stay false (first ∷ (rest ++ (t ∷ later))) ≡ stay false later
stay_drops first rest t later o h e =
    let some : list_any closes (rest ++ (t ∷ later)) ≡ true = list_any-append closes rest (t ∷ later) ∙ ap (λ b. b || (closes t || list_any closes later)) h ∙ ap (λ b. b || list_any closes later) e in
    let test : (opens first && list_any closes (rest ++ (t ∷ later))) ≡ true = ap (λ b. b && list_any closes (rest ++ (t ∷ later))) o ∙ some in
    rw test (stay_inside rest t later h e)

stay_front : (front rest : List Tok) → list_any opens front ≡ false → stay false (front ++ rest) ≡ front ++ stay false rest
stay_front [] rest h = refl
stay_front (t ∷ front) rest h =
    let head : opens t ≡ false = or_head (opens t) (list_any opens front) h in
    let tail : list_any opens front ≡ false = or_tail (opens t) (list_any opens front) h in
    stay_plain t (front ++ rest) head ∙ ap (λ l. t ∷ l) (stay_front front rest tail)

pub drops : DropsAttributes
drops front inside rest first last none o h e = stay_front front (first ∷ (inside ++ (last ∷ rest))) none ∙ ap (λ l. front ++ l) (stay_drops first inside last rest o h e)

pub keeps : KeepsOpenMarks
keeps front rest none h = stay_front front rest none ∙ ap (λ l. front ++ l) (stay_all rest h)

pub leaves_none : Leaves [] [] None
leaves_none = record { before = []; pending = []; parts = refl; same = λ later. refl; state = refl }

pub leaves_more : (raw left : List Tok) (t : Tok) → opens t ≡ false → Leaves raw left None → Leaves (raw ++ (t ∷ [])) (left ++ (t ∷ [])) None
leaves_more raw left t h l =
    let whole : left ≡ l.before = l.parts ∙ ap (λ p. l.before ++ p) l.state ∙ append-nil l.before in
    record {
      before = l.before ++ (t ∷ []);
      pending = [];
      parts = ap (λ p. p ++ (t ∷ [])) whole ∙ sym (append-nil (l.before ++ (t ∷ [])));
      same = λ later.
          ap without_attributes (append_assoc raw (t ∷ []) later) ∙ l.same (t ∷ later) ∙ ap (λ p. l.before ++ without_attributes (p ++ (t ∷ later))) l.state
          ∙ ap (λ p. l.before ++ p) (stay_plain t later h) ∙ sym (append_assoc l.before (t ∷ []) (without_attributes later));
      state = refl;
    }

pub leaves_close : (raw left : List Tok) (n : ℕ) (t : Tok) → closes t ≡ true → Leaves raw left (Some n) → Leaves (raw ++ (t ∷ [])) (take n left) None
leaves_close raw left n t h l =
    let (first, rest, place, is, opening, none) = l.state in
    record {
      before = l.before;
      pending = [];
      parts = ap (λ m. take m left) place ∙ ap (λ p. take (length l.before) p) l.parts ∙ take-append_seam l.before l.pending ∙ sym (append-nil l.before);
      same = λ later.
          ap without_attributes (append_assoc raw (t ∷ []) later) ∙ l.same (t ∷ later)
          ∙ ap (λ p. l.before ++ without_attributes (p ++ (t ∷ later))) is
          ∙ ap (λ p. l.before ++ p) (stay_drops first rest t later opening none h);
      state = refl;
    }

pending_stays : (opened : Option ℕ) (before pending : List Tok) → IsOpen opened before pending → without_attributes pending ≡ pending
pending_stays None before pending h = ap without_attributes h ∙ sym h
pending_stays (Some n) before pending (first, rest, place, is, opening, none) = ap without_attributes is ∙ stay_open first rest none ∙ sym is

-- After the last token what is left is what stays.
pub leaves_all : (raw left : List Tok) (opened : Option ℕ) → Leaves raw left opened → left ≡ without_attributes raw
leaves_all raw left opened l =
    let stays : without_attributes (l.pending ++ []) ≡ l.pending = ap without_attributes (append-nil l.pending) ∙ pending_stays opened l.before l.pending l.state in
    l.parts ∙ ap (λ p. l.before ++ p) (sym stays) ∙ sym (l.same []) ∙ ap without_attributes (append-nil raw)
