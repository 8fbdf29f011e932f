-- What the rules of statements read is spelled by the tokens that they take.
use Rattle.std.proofs.Common.{◌≡◌, ◌⊎◌, inl, inr, ℕ, zero, suc, Bool, true, false, List, [], ◌∷◌, ◌++◌, codes, Option, Some, None, Ok, refl, sym, ap, ◌∙◌, subst, append_assoc}
use Rattle.vlog_tokens.specs.Toks.{Tok}
use Rattle.vlog_tree.specs.declared.expr.Expr.{Expr}
use Rattle.vlog_tree.specs.declared.stmt.Stmt.{Stmt}
use Rattle.vlog_tree.specs.declared.stmt.Stmt.TheVariants as tree
use Rattle.vlog_tree.specs.Spelling.Exprs.{SpellsExpr}
use Rattle.vlog_tree.specs.Spelling.Parts.{Is, place_of}
use Rattle.vlog_tree.specs.Spelling.Stmts.{BeginsBased, Either, IsParted, IsStmt, SpellsStmt, Statement}
use Rattle.vlog_parse.specs.Delays.{any_delay}
use Rattle.vlog_parse.specs.Exprs.{expr}
use Rattle.vlog_parse.specs.Lefts.{left}
use Rattle.vlog_parse.specs.Reads.{Parser, repeated_until, sees}
use Rattle.vlog_parse.specs.Stmts.{after_else, block, choice, empty, otherwise, set, statement, stmt}
use Rattle.vlog_parse.proofs.DelaysSound.{delay_sound}
use Rattle.vlog_parse.proofs.Enclosures.{enclosed}
use Rattle.vlog_parse.proofs.LeftsComplete.{left_place}
use Rattle.vlog_parse.proofs.LeftsSound.{left_sound}
use Rattle.vlog_parse.proofs.Lists.{repeated_sound}
use Rattle.vlog_parse.proofs.Rules.{◌>>=◌, Sound, found_is, left_is, mark_took, sees_is, then_took}

-- What is spelled by the truth value too: whether the statement ends in an `if` without `else`.
abbrev pub Dangles : Type 1
Dangles = Bool → List Tok → Stmt → Type 0

-- The tokens that were taken spell the statement, and no `else` follows to which it is open.
abbrev pub TookStmt : Dangles → List Tok → Stmt → List Tok → Type 0
TookStmt Spelled ts s rest = (front : List Tok) × (ts ≡ front ++ rest) × (dangling : Bool) × Spelled dangling front s × (dangling ≡ true → sees (codes "else") rest ≡ false)

abbrev pub SoundStmt : Parser Stmt → Dangles → Type 0
SoundStmt rule Spelled = (ts : List Tok) (s : Stmt) (rest : List Tok) → rule ts ≡ Ok (s, rest) → TookStmt Spelled ts s rest

pub plain_sound : (rule : Parser Stmt) (Spelled : Dangles) → SoundStmt rule Spelled → Sound rule (Either Spelled)
plain_sound rule Spelled sound ts s rest e = let (front, is, dangling, spelled, free) = sound ts s rest e in (front, is, (dangling, spelled))

-- ---- lists of tokens in a row

set_is : (front delay back ts ts1 ts2 ts3 ts4 ts5 rest : List Tok) (arrow semi : Tok) → ts ≡ front ++ ts1 → ts1 ≡ arrow ∷ ts2 → ts2 ≡ delay ++ ts3 → ts3 ≡ back ++ ts4 → ts4 ≡ semi ∷ ts5 → rest ≡ ts5
    → ts ≡ (front ++ arrow ∷ (delay ++ (back ++ semi ∷ []))) ++ rest
set_is front delay back ts ts1 ts2 ts3 ts4 ts5 rest arrow semi e1 e2 e3 e4 e5 same =
    let last : ts4 ≡ semi ∷ rest = e5 ∙ ap (λ (us : List Tok). semi ∷ us) (sym same) in
    let right : ts3 ≡ (back ++ semi ∷ []) ++ rest = e4 ∙ ap (λ (us : List Tok). back ++ us) last ∙ sym (append_assoc back (semi ∷ []) rest) in
    let source : ts2 ≡ (delay ++ (back ++ semi ∷ [])) ++ rest = e3 ∙ ap (λ (us : List Tok). delay ++ us) right ∙ sym (append_assoc delay (back ++ semi ∷ []) rest) in
    e1 ∙ ap (λ (us : List Tok). front ++ us) (e2 ∙ ap (λ (us : List Tok). arrow ∷ us) source) ∙ sym (append_assoc front (arrow ∷ (delay ++ (back ++ semi ∷ []))) rest)

if_is : (condition tail ts ts1 ts2 ts3 ts4 rest : List Tok) (word opening closing : Tok) → ts ≡ word ∷ ts1 → ts1 ≡ opening ∷ ts2 → ts2 ≡ condition ++ ts3 → ts3 ≡ closing ∷ ts4 → ts4 ≡ tail ++ rest
    → ts ≡ (word ∷ opening ∷ (condition ++ closing ∷ tail)) ++ rest
if_is condition tail ts ts1 ts2 ts3 ts4 rest word opening closing e1 e2 e3 e4 e5 =
    e1 ∙ ap (λ (us : List Tok). word ∷ us) (e2 ∙ ap (λ (us : List Tok). opening ∷ us) (e3 ∙ ap (λ (us : List Tok). condition ++ us) (e4 ∙ ap (λ (us : List Tok). closing ∷ us) e5) ∙ sym (append_assoc condition (closing ∷ tail) rest)))

-- ---- a delay before an expression

begins_longer : (front rest : List Tok) → BeginsBased front → BeginsBased (front ++ rest)
begins_longer [] rest h = absurd h
begins_longer (tok ∷ front) rest h = h

parted_front : (before front ts rest : List Tok) → ts ≡ front ++ rest → IsParted before ts → IsParted before front
parted_front before front ts rest e free ends begins = free ends (subst (λ (us : List Tok). BeginsBased us) (sym e) (begins_longer front rest begins))

module _ (expr_sound : (depth : ℕ) → Sound (expr depth) SpellsExpr) where
  -- ---- one level

  module _ (inner : Parser Stmt) (Inner : Dangles) where
    empty_took : SoundStmt empty (Statement Inner)
    unfolding empty
    empty_took ts s rest e = do
      (semi, ts1, e1, h1, m1) ← mark_took (codes ";") _ ts s rest e
      (
        semi ∷ [],
        e1 ∙ ap (λ (us : List Tok). semi ∷ us) (sym (left_is m1)),
        false,
        subst (λ (x : Stmt). Statement Inner false (semi ∷ []) x) (sym (found_is m1)) (Statement.empty semi h1),
        λ dangles. cc,
      )

    set_took : (depth : ℕ) → SoundStmt (set depth) (Statement Inner)
    unfolding set
    set_took depth ts s rest e = do
      (target, ts1, was1, m1) ← then_took (left depth ts) _ s rest e
      (front, e1, s1) ← left_sound depth ts target ts1 was1
      (arrow, ts2, e2, h2, m2) ← mark_took (codes "<=") _ ts1 s rest m1
      (none, ts3, was3, m3) ← then_took (any_delay ts2) _ s rest m2
      (delay, e3, s3, free) ← delay_sound ts2 ts3 was3
      (right, ts4, was4, m4) ← then_took (expr depth ts3) _ s rest m3
      (back, e4, s4) ← expr_sound depth ts3 right ts4 was4
      (semi, ts5, e5, h5, m5) ← mark_took (codes ";") _ ts4 s rest m4
      place ← ap place_of e1 ∙ left_place front target s1 ts1
      (
        front ++ arrow ∷ (delay ++ (back ++ semi ∷ [])),
        set_is front delay back ts ts1 ts2 ts3 ts4 ts5 rest arrow semi e1 e2 e3 e4 e5 (left_is m5),
        false,
        subst (λ (x : Stmt). Statement Inner false (front ++ arrow ∷ (delay ++ (back ++ semi ∷ []))) x) (sym (found_is m5 ∙ ap (λ at. tree.Set at target right) place))
            (Statement.set arrow semi front delay back target right s1 h2 s3 s4 (parted_front delay back ts3 ts4 e4 free) h5),
        λ dangles. cc,
      )

    block_took : SoundStmt inner Inner → SoundStmt (block inner) (Statement Inner)
    unfolding block
    block_took sound ts s rest e = do
      (begin, ts1, e1, h1, m1) ← mark_took (codes "begin") _ ts s rest e
      (stmts, ts2, was2, m2) ← then_took (repeated_until (codes "end") inner ts1) _ s rest m1
      (front, e2, s2) ← repeated_sound inner (Either Inner) (codes "end") (plain_sound inner Inner sound) ts1 stmts ts2 was2
      (last, ts3, e3, h3, m3) ← mark_took (codes "end") _ ts2 s rest m2
      (
        begin ∷ (front ++ last ∷ []),
        enclosed begin last ts ts1 ts2 ts3 front rest e1 e2 e3 (left_is m3),
        false,
        subst (λ (x : Stmt). Statement Inner false (begin ∷ (front ++ last ∷ [])) x) (sym (found_is m3)) (Statement.block begin last front stmts h1 s2 h3),
        λ dangles. cc,
      )

    -- ---- an `else`, or none

    abbrev NoElse : List Tok → Option Stmt → List Tok → Type 0
    NoElse ts other rest = (ts ≡ rest) × (sees (codes "else") rest ≡ false) × (other ≡ None)

    abbrev SomeElse : List Tok → Option Stmt → List Tok → Type 0
    SomeElse ts other rest = (word : Tok) × (us : List Tok) × (second : Stmt) × (dangling : Bool) × (ts ≡ word ∷ (us ++ rest)) × Is (codes "else") word × Inner dangling us second
        × (dangling ≡ true → sees (codes "else") rest ≡ false) × (other ≡ Some second)

    else_took : SoundStmt inner Inner → (ts : List Tok) (other : Option Stmt) (rest : List Tok) → after_else inner ts ≡ Ok (other, rest) → SomeElse ts other rest
    unfolding after_else
    else_took sound ts other rest e = do
      (word, ts1, e1, h1, m1) ← mark_took (codes "else") _ ts other rest e
      (second, ts2, was2, m2) ← then_took (inner ts1) _ other rest m1
      (us, e2, dangling, s2, free) ← sound ts1 second ts2 was2
      (
        word,
        us,
        second,
        dangling,
        e1 ∙ ap (λ (xs : List Tok). word ∷ xs) (e2 ∙ ap (λ (xs : List Tok). us ++ xs) (sym (left_is m2))),
        h1,
        s2,
        λ dangles. subst (λ (xs : List Tok). sees (codes "else") xs ≡ false) (sym (left_is m2)) (free dangles),
        found_is m2,
      )

    otherwise_took : SoundStmt inner Inner → (ts : List Tok) (other : Option Stmt) (rest : List Tok) → otherwise inner ts ≡ Ok (other, rest) → NoElse ts other rest ⊎ SomeElse ts other rest
    unfolding otherwise
    otherwise_took sound ts other rest e = by (sees (codes "else") ts) refl
      where
        by : (b : Bool) → sees (codes "else") ts ≡ b → NoElse ts other rest ⊎ SomeElse ts other rest
        by true h = inr (else_took sound ts other rest (rw h at e))
        by false h = (
            let ends = rw h at e in
            let same : ts ≡ rest = sym (left_is ends) in
            inl (same, subst (λ (xs : List Tok). sees (codes "else") xs ≡ false) same h, found_is ends))

    -- A statement before an `else` is not open to it.
    closed : (dangling : Bool) (front ts us : List Tok) (first : Stmt) (word : Tok) → Inner dangling front first → (dangling ≡ true → sees (codes "else") ts ≡ false) → ts ≡ word ∷ us → Is (codes "else") word → Inner false front first
    closed false front ts us first word s free e h = s
    closed true front ts us first word s free e h =
        let seen : sees (codes "else") ts ≡ true = ap (λ (xs : List Tok). sees (codes "else") xs) e ∙ sees_is (codes "else") word us h in
        absurd (let unseen = free refl in cc)

    module _ (depth : ℕ) where
      -- what stands before the statement, up to the closing parenthesis
      abbrev Headed : List Tok → Expr → List Tok → Type 0
      Headed ts cond left = (word : Tok) × (opening : Tok) × (closing : Tok) × (condition : List Tok) × Is (codes "if") word × Is (codes "(") opening × SpellsExpr condition cond × Is (codes ")") closing
          × ((tail rest : List Tok) → left ≡ tail ++ rest → ts ≡ (word ∷ opening ∷ (condition ++ closing ∷ tail)) ++ rest)

      chosen : (ts ts4 ts5 rest front : List Tok) (cond : Expr) (first s : Stmt) (other : Option Stmt) (dangling : Bool) → Headed ts cond ts4 → ts4 ≡ front ++ ts5 → Inner dangling front first
          → (dangling ≡ true → sees (codes "else") ts5 ≡ false) → NoElse ts5 other rest ⊎ SomeElse ts5 other rest → s ≡ tree.If cond first other → TookStmt (Statement Inner) ts s rest
      chosen ts ts4 ts5 rest front cond first s other dangling (word, opening, closing, condition, h1, h2, s3, h4, is) e s5 free (inl (same, unseen, none)) found = (
        word ∷ opening ∷ (condition ++ closing ∷ front),
        is front rest (e ∙ ap (λ (us : List Tok). front ++ us) same),
        true,
        subst (λ (x : Stmt). Statement Inner true (word ∷ opening ∷ (condition ++ closing ∷ front)) x) (sym (found ∙ ap (λ (o : Option Stmt). tree.If cond first o) none))
            (Statement.only word opening closing condition front cond first h1 h2 s3 h4 (dangling, s5)),
        λ dangles. unseen,
      )
      chosen ts ts4 ts5 rest front cond first s other dangling (word, opening, closing, condition, h1, h2, s3, h4, is) e s5 free (inr (middle, us, second, ends, e6, h6, s6, free6, some)) found = (
        word ∷ opening ∷ (condition ++ closing ∷ (front ++ middle ∷ us)),
        is (front ++ middle ∷ us) rest (e ∙ ap (λ (xs : List Tok). front ++ xs) e6 ∙ sym (append_assoc front (middle ∷ us) rest)),
        ends,
        subst (λ (x : Stmt). Statement Inner ends (word ∷ opening ∷ (condition ++ closing ∷ (front ++ middle ∷ us))) x) (sym (found ∙ ap (λ (o : Option Stmt). tree.If cond first o) some))
            (Statement.both word opening closing middle condition front us cond first second ends h1 h2 s3 h4 (closed dangling front ts5 (us ++ rest) first middle s5 free e6 h6) h6 s6),
        free6,
      )

      choice_took : SoundStmt inner Inner → SoundStmt (choice inner depth) (Statement Inner)
      unfolding choice
      choice_took sound ts s rest e = do
        (word, ts1, e1, h1, m1) ← mark_took (codes "if") _ ts s rest e
        (opening, ts2, e2, h2, m2) ← mark_took (codes "(") _ ts1 s rest m1
        (cond, ts3, was3, m3) ← then_took (expr depth ts2) _ s rest m2
        (condition, e3, s3) ← expr_sound depth ts2 cond ts3 was3
        (closing, ts4, e4, h4, m4) ← mark_took (codes ")") _ ts3 s rest m3
        (first, ts5, was5, m5) ← then_took (inner ts4) _ s rest m4
        (front, e5, dangling, s5, free) ← sound ts4 first ts5 was5
        (other, ts6, was6, m6) ← then_took (otherwise inner ts5) _ s rest m5
        after ← otherwise_took sound ts5 other ts6 was6
        chosen ts ts4 ts5 rest front cond first s other dangling (word, opening, closing, condition, h1, h2, s3, h4, λ tail us is. if_is condition tail ts ts1 ts2 ts3 ts4 us word opening closing e1 e2 e3 e4 is) e5 s5 free
            (subst (λ (us : List Tok). NoElse ts5 other us ⊎ SomeElse ts5 other us) (sym (left_is m6)) after) (found_is m6)

      statement_sound : SoundStmt inner Inner → SoundStmt (statement inner depth) (Statement Inner)
      unfolding statement
      statement_sound sound ts s rest e = by (sees (codes ";") ts) (sees (codes "begin") ts) (sees (codes "if") ts) refl refl refl
        where
          by : (b1 b2 b3 : Bool) → sees (codes ";") ts ≡ b1 → sees (codes "begin") ts ≡ b2 → sees (codes "if") ts ≡ b3 → TookStmt (Statement Inner) ts s rest
          by true b2 b3 h1 h2 h3 = empty_took ts s rest (rw h1 at e)
          by false true b3 h1 h2 h3 = block_took sound ts s rest (rw (h1, h2) at e)
          by false false true h1 h2 h3 = choice_took sound ts s rest (rw (h1, h2, h3) at e)
          by false false false h1 h2 h3 = set_took depth ts s rest (rw (h1, h2, h3) at e)

  -- ---- statements

  pub stmt_sound : (depth : ℕ) → SoundStmt (stmt depth) (IsStmt depth)
  unfolding stmt
  stmt_sound zero ts s rest e = cc
  stmt_sound (suc depth) ts s rest e = statement_sound (stmt depth) (IsStmt depth) depth (stmt_sound depth) ts s rest e

  pub plain_stmt_sound : (depth : ℕ) → Sound (stmt depth) SpellsStmt
  plain_stmt_sound depth ts s rest e = do
    (front, is, dangling, spelled, free) ← stmt_sound depth ts s rest e
    (front, is, (depth, dangling, spelled))
