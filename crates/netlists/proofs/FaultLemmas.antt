-- A netlist is not refused, and what is none for one reason at most.
use Rattle.std.proofs.Common.{◌≡◌, ◌≢◌, ◌⊎◌, inl, inr, ℕ, List, [], Option, None, Some, ap, arith, ltb, refl, subst, sym, ◌∙◌}
use Rattle.std.proofs.lemmas.Bool.{cases_Bool, ltb-false, ltb-true}
use Rattle.std.proofs.lemmas.Option.{none-some, same_Some}
use Rattle.bm_base.specs.declared.size.Size.{Size}
use Rattle.elab.specs.Refusals.{rules}
use Rattle.elab.specs.Settings.{setting_of}
use Rattle.elab.specs.declared.fault.ElabFault.TheVariants as elab
use Rattle.elab.specs.declared.names.Names.{Names}
use Rattle.flat_design.specs.Flat.{flat}
use Rattle.flat_design.specs.Sizes.{too_large}
use Rattle.hierarchy.specs.Failures.{Failure, first_refusal}
use Rattle.keys.specs.Printed.{key_text}
use Rattle.label_laws.specs.Spelled.{SpellsInProfile}
use Rattle.net_order.specs.Faults.{IsLeastLoop}
use Rattle.numbering.specs.Numbering.{key_at}
use Rattle.vlog_lexer.specs.Faults.{FailsAt, IsOneFault as IsOneLexFault, IsTokensOrFault}
use Rattle.vlog_lexer.specs.declared.fault.LexFault.{LexFault}
use Rattle.vlog_numbers.specs.NumberFaults.{number_fault_at}
use Rattle.vlog_parse.specs.Nest.{too_deep_at}
use Rattle.vlog_parse.specs.Outside.{outside_at}
use Rattle.vlog_parse.specs.Refusals.{IsCause, IsInProfile}
use Rattle.vlog_parse.specs.declared.parse_fault.ParseFault.{ParseFault}
use Rattle.vlog_parse.specs.declared.parse_fault.ParseFault.TheVariants as parse
use Rattle.vlog_tokens.specs.Tokens.{AreTokens, IsOneTokenList}
use Rattle.vlog_tokens.specs.Toks.{Lexed, Tok}
use Rattle.vlog_tree.specs.declared.design.Design.{Design}
use Rattle.vlog_tree.specs.Meaning.Setting.{Setting}
use Rattle.vlog_tree.specs.Spelling.{IsOneDesign}
use Rattle.vlog_tree.specs.Spelling.Modules.{IsDesign}
use Rattle.netlists.specs.Faults.{HasLoop, IsLoopKey, IsNetlistOrFault, IsOneFault, IsParseFault, IsReason, placeless}
use Rattle.netlists.specs.Netlists.{IsNetlist}
use Rattle.netlists.specs.declared.fault.NetlistFault.{NetlistFault}
use Rattle.netlists.specs.declared.fault.NetlistFault.TheVariants as fault

-- ---- the name of a loop

-- There is one least node that reads itself.
one_least : (setting : Setting) (node other : ℕ) → IsLeastLoop (flat setting).nodes node → IsLeastLoop (flat setting).nodes other
    → node ≡ other
one_least setting node other first second = elim (cases_Bool (ltb node other)) [
  | inl below ↦ absurd (second.least node (ltb-true node other below) first.loop)
  | inr not_below ↦ elim (cases_Bool (ltb other node)) [
    | inl above ↦ absurd (first.least other (ltb-true other node above) second.loop)
    | inr not_above ↦ omega (arith, ltb-false node other not_below, ltb-false other node not_above)
  ]
]

-- A loop has one name.
one_key : (setting : Setting) (text other : List ℕ) → IsLoopKey setting text → IsLoopKey setting other → text ≡ other
one_key setting text other (node, least, (key, at, is)) (node', least', (key', at', is')) =
    let nodes : node ≡ node' = one_least setting node node' least least' in
    let keys : key ≡ key' = same_Some key key' (sym at ∙ ap (key_at setting) nodes ∙ at') in
    is ∙ ap (key_text setting) keys ∙ sym is'

-- ---- a netlist is not refused

module _ (one_list : IsOneTokenList) (tokens_or_fault : IsTokensOrFault) where
  -- Where a design is spelled in the profile, the parser has no reason.
  not_caused : (lexed : Lexed) (ts : List Tok) (design : Design) (why : ParseFault) → why ≢ parse.Memory
      → lexed.list ≡ ts → IsDesign ts design → IsInProfile ts → IsCause lexed why → ⊥
  not_caused lexed ts design (parse.Outside at) other same spell profile cause =
      none-some at (sym profile.words ∙ ap outside_at (sym same) ∙ cause)
  not_caused lexed ts design (parse.Number at) other same spell profile cause =
      none-some at (sym profile.numbers ∙ ap number_fault_at (sym same) ∙ cause.1)
  not_caused lexed ts design (parse.TooDeep at) other same spell profile cause =
      none-some at (sym profile.nest ∙ ap too_deep_at (sym same) ∙ cause.2)
  not_caused lexed ts design (parse.Syntax at) other same spell profile cause =
      cause.1 design (subst (λ us. IsDesign us design) (sym same) spell)
  not_caused lexed ts design parse.Memory other same spell profile cause = other refl

  not_parse_fault : (bytes : List ℕ) (design : Design) (why : ParseFault) → why ≢ parse.Memory
      → SpellsInProfile bytes design → IsParseFault bytes why → ⊥
  not_parse_fault bytes design why other text (lexed, are, len, cause) =
      not_caused lexed text.spelled.tokens design why other
      (one_list bytes lexed.list text.spelled.tokens are text.spelled.are) text.spelled.spell text.profile cause

  module _ (one_design : IsOneDesign) where
    same_design : (bytes : List ℕ) (design other : Design) → SpellsInProfile bytes design → SpellsInProfile bytes other → design ≡ other
    same_design bytes design other text another = one_design bytes design other text.spelled another.spelled

    -- What refuses one spelled design, refuses each.
    same_refusal : (names : Names) (bytes : List ℕ) (design other : Design) → SpellsInProfile bytes design → SpellsInProfile bytes other
        → first_refusal (rules (setting_of design names)) ≡ first_refusal (rules (setting_of other names))
    same_refusal names bytes design other text another =
        ap (λ design. first_refusal (rules (setting_of design names))) (same_design bytes design other text another)

    same_size : (names : Names) (bytes : List ℕ) (design other : Design) → SpellsInProfile bytes design → SpellsInProfile bytes other
        → too_large (setting_of design names) ≡ too_large (setting_of other names)
    same_size names bytes design other text another =
        ap (λ design. too_large (setting_of design names)) (same_design bytes design other text another)

    no_reason : (names : Names) (bytes : List ℕ) (design : Design) (why : NetlistFault) → IsNetlist names bytes design
        → IsReason names bytes why → ⊥
    no_reason names bytes design (fault.Lex why) is fails =
        tokens_or_fault bytes is.sized.kept.text.spelled.tokens why is.sized.kept.text.spelled.are fails
    no_reason names bytes design (fault.Parse (parse.Outside at)) is why =
        not_parse_fault bytes design (parse.Outside at) (λ is. cc) is.sized.kept.text why
    no_reason names bytes design (fault.Parse (parse.Number at)) is why =
        not_parse_fault bytes design (parse.Number at) (λ is. cc) is.sized.kept.text why
    no_reason names bytes design (fault.Parse (parse.TooDeep at)) is why =
        not_parse_fault bytes design (parse.TooDeep at) (λ is. cc) is.sized.kept.text why
    no_reason names bytes design (fault.Parse (parse.Syntax at)) is why =
        not_parse_fault bytes design (parse.Syntax at) (λ is. cc) is.sized.kept.text why
    no_reason names bytes design (fault.Parse parse.Memory) is why = why
    no_reason names bytes design (fault.Rule why) is (other, text, (refused, found, says)) =
        none-some refused (sym is.sized.kept.rules ∙ same_refusal names bytes design other is.sized.kept.text text ∙ found)
    no_reason names bytes design (fault.TooLarge what) is (other, kept, passed) =
        none-some what (sym is.sized.sizes ∙ same_size names bytes design other is.sized.kept.text kept.text ∙ passed)
    no_reason names bytes design (fault.Loop key) is (other, sized, loop) =
        let here : HasLoop (setting_of design names) key =
        subst (λ design. HasLoop (setting_of design names) key) (same_design bytes other design sized.kept.text is.sized.kept.text) loop in
        here.loops is.loop_free
    no_reason names bytes design fault.Memory is why = why

    pub netlist_or_fault : IsNetlistOrFault
    netlist_or_fault = no_reason

    -- ---- one reason at most

    -- the first of the parser's reasons
    abbrev first_by : Option ℕ → Option ℕ → Option ℕ → NetlistFault
    first_by (Some at) number deep = fault.Parse (parse.Outside at)
    first_by None (Some at) deep = fault.Parse (parse.Number at)
    first_by None None (Some at) = fault.Parse (parse.TooDeep at)
    first_by None None None = fault.Parse (parse.Syntax 0)

    abbrev first_reason : List Tok → NetlistFault
    first_reason ts = first_by (outside_at ts) (number_fault_at ts) (too_deep_at ts)

    -- the reason of a design, by what refuses it, by a size of it, and by the name of a loop
    abbrev design_reason : Option (ℕ × Failure) → Option Size → List ℕ → NetlistFault
    design_reason (Some refused) size key = fault.Rule (elab.Rule refused.0 refused.1.module_name refused.1.name)
    design_reason None (Some what) key = fault.TooLarge what
    design_reason None None key = fault.Loop key

    abbrev reason_of : Names → Design → List ℕ → NetlistFault
    reason_of names design key =
        design_reason (first_refusal (rules (setting_of design names))) (too_large (setting_of design names)) key

    -- The name is that of a loop, where it is the reason.
    abbrev NamesLoop : Names → Design → List ℕ → Type 0
    NamesLoop names design key =
        first_refusal (rules (setting_of design names)) ≡ None → too_large (setting_of design names) ≡ None
        → IsLoopKey (setting_of design names) key

    -- The reason is the lexer's, or the parser's, or that of the design.
    abbrev IsOneOf : Names → List ℕ → NetlistFault → Type 0
    IsOneOf names bytes why = ((e : LexFault) × FailsAt bytes e × (placeless why ≡ fault.Lex e))
        ⊎ (((ts : List Tok) × AreTokens bytes ts × ((design : Design) → SpellsInProfile bytes design → ⊥) × (placeless why ≡ first_reason ts))
        ⊎ ((design : Design) × SpellsInProfile bytes design
        × ((key : List ℕ) × NamesLoop names design key × (placeless why ≡ reason_of names design key))))

    parsed : (names : Names) (bytes : List ℕ) (why : NetlistFault) (p : ParseFault) → p ≢ parse.Memory
        → (h : IsParseFault bytes p) → placeless why ≡ first_reason h.0.list → IsOneOf names bytes why
    parsed names bytes why p other h is = inr (inl (h.0.list, h.1, λ design text. not_parse_fault bytes design p other text h, is))

    one_of : (names : Names) (bytes : List ℕ) (why : NetlistFault) → IsReason names bytes why → IsOneOf names bytes why
    one_of names bytes (fault.Lex why) h = inl (why, h, refl)
    one_of names bytes (fault.Parse (parse.Outside at)) h =
        parsed names bytes (fault.Parse (parse.Outside at)) (parse.Outside at) (λ is. cc) h
        (λ i. first_by (sym h.3 i) (number_fault_at h.0.list) (too_deep_at h.0.list))
    one_of names bytes (fault.Parse (parse.Number at)) h =
        parsed names bytes (fault.Parse (parse.Number at)) (parse.Number at) (λ is. cc) h
        (λ i. first_by (sym h.3.0 i) (sym h.3.1 i) (too_deep_at h.0.list))
    one_of names bytes (fault.Parse (parse.TooDeep at)) h =
        parsed names bytes (fault.Parse (parse.TooDeep at)) (parse.TooDeep at) (λ is. cc) h
        (λ i. first_by (sym h.3.0 i) (sym h.3.1 i) (sym h.3.2 i))
    one_of names bytes (fault.Parse (parse.Syntax at)) h =
        parsed names bytes (fault.Parse (parse.Syntax at)) (parse.Syntax at) (λ is. cc) h
        (λ i. first_by (sym h.3.0.words i) (sym h.3.0.numbers i) (sym h.3.0.nest i))
    one_of names bytes (fault.Parse parse.Memory) h = absurd h
    one_of names bytes (fault.Rule (elab.Rule rule module_name name)) (design, text, (refused, is, says)) =
        inr (inr (
          design,
          text,
          (
            [],
            λ kept. absurd (none-some refused (sym kept ∙ is)),
            (λ i. fault.Rule (elab.Rule (says.0 i) (says.1 i) (says.2 i)))
                ∙ ap (λ found. design_reason found (too_large (setting_of design names)) []) (sym is),
          ),
        ))
    one_of names bytes (fault.Rule elab.Memory) (design, text, (refused, is, says)) = absurd says
    one_of names bytes (fault.TooLarge what) (design, kept, passed) =
        inr (inr (
          design,
          kept.text,
          (
            [],
            λ rules sizes. absurd (none-some what (sym sizes ∙ passed)),
            λ i. design_reason (sym kept.rules i) (sym passed i) [],
          ),
        ))
    one_of names bytes (fault.Loop key) (design, sized, loop) =
        inr (inr (
          design,
          sized.kept.text,
          (key, λ rules sizes. loop.named, λ i. design_reason (sym sized.kept.rules i) (sym sized.sizes i) key),
        ))
    one_of names bytes fault.Memory h = absurd h

    -- The reasons of one design are the same.
    same_of_design : (names : Names) (design : Design) (key other : List ℕ) → NamesLoop names design key → NamesLoop names design other
        → reason_of names design key ≡ reason_of names design other
    same_of_design names design key other named named' =
        by (first_refusal (rules (setting_of design names))) (too_large (setting_of design names)) refl refl
      where
        by : (found : Option (ℕ × Failure)) (size : Option Size) → first_refusal (rules (setting_of design names)) ≡ found
            → too_large (setting_of design names) ≡ size → design_reason found size key ≡ design_reason found size other
        by (Some refused) size is sized = refl
        by None (Some what) is sized = refl
        by None None is sized = ap fault.Loop (one_key (setting_of design names) key other (named is sized) (named' is sized))

    module _ (one_lex_fault : IsOneLexFault) where
      same_reason : (names : Names) (bytes : List ℕ) (why other : NetlistFault) → IsOneOf names bytes why
          → IsOneOf names bytes other → placeless why ≡ placeless other
      same_reason names bytes why other (inl (e, fails, is)) (inl (f, fails', is')) =
          is ∙ ap fault.Lex (one_lex_fault bytes e f fails fails') ∙ sym is'
      same_reason names bytes why other (inl (e, fails, is)) (inr (inl (ts, are, none, is'))) =
          absurd (tokens_or_fault bytes ts e are fails)
      same_reason names bytes why other (inl (e, fails, is)) (inr (inr (design, text, more))) =
          absurd (tokens_or_fault bytes text.spelled.tokens e text.spelled.are fails)
      same_reason names bytes why other (inr (inl (ts, are, none, is))) (inl (e, fails, is')) =
          absurd (tokens_or_fault bytes ts e are fails)
      same_reason names bytes why other (inr (inl (ts, are, none, is))) (inr (inl (us, are', none', is'))) =
          is ∙ ap first_reason (one_list bytes ts us are are') ∙ sym is'
      same_reason names bytes why other (inr (inl (ts, are, none, is))) (inr (inr (design, text, more))) =
          absurd (none design text)
      same_reason names bytes why other (inr (inr (design, text, more))) (inl (e, fails, is')) =
          absurd (tokens_or_fault bytes text.spelled.tokens e text.spelled.are fails)
      same_reason names bytes why other (inr (inr (design, text, more))) (inr (inl (ts, are, none, is'))) =
          absurd (none design text)
      same_reason names bytes why other (inr (inr (design, text, (key, named, is)))) (inr (inr (another, text', (key', named', is')))) =
          let same : another ≡ design = same_design bytes another design text' text in
          is
          ∙ same_of_design names design key key' named (subst (λ design. NamesLoop names design key') same named')
          ∙ ap (λ design. reason_of names design key') (sym same) ∙ sym is'

      pub one_netlist_fault : IsOneFault
      one_netlist_fault names bytes why other refused refused' =
          same_reason names bytes why other (one_of names bytes why refused) (one_of names bytes other refused')
