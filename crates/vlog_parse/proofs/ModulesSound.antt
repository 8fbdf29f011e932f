-- What the rules of modules and designs read is spelled by the tokens that they take.
use Rattle.std.proofs.Common.{◌≡◌, ℕ, false, not, List, [], ◌∷◌, ◌++◌, codes, Ok, refl, sym, ap, ◌∙◌, subst, append_assoc, append-nil}
use Rattle.vlog_tokens.specs.Toks.{Tok}
use Rattle.vlog_tree.specs.declared.design.Design.{Design}
use Rattle.vlog_tree.specs.declared.design.Module.{Module}
use Rattle.vlog_tree.specs.declared.item.Item.{Item}
use Rattle.vlog_tree.specs.Spelling.Items.{IsItem}
use Rattle.vlog_tree.specs.Spelling.Modules.{IsDesign, IsModule}
use Rattle.vlog_tree.specs.Spelling.Numbers.{IsNumber}
use Rattle.vlog_tree.specs.Spelling.Parts.{IsRange, place_of}
use Rattle.vlog_parse.specs.Gathers.{gathered_until}
use Rattle.vlog_parse.specs.Items as rule
use Rattle.vlog_parse.specs.Modules.{any_header, design, module_rule, modules}
use Rattle.vlog_parse.specs.Numbers.{number}
use Rattle.vlog_parse.specs.Reads.{is_end}
use Rattle.vlog_parse.specs.Selects.{range}
use Rattle.vlog_parse.specs.Terminals as terminals
use Rattle.vlog_parse.proofs.Gathered.{until_sound}
use Rattle.vlog_parse.proofs.HeadersSound.{header_sound}
use Rattle.vlog_parse.proofs.Manys.{many_sound}
use Rattle.vlog_parse.proofs.Rules.{◌>>=◌, Sound, found_is, left_is, mark_took, then_took}
use Rattle.vlog_parse.proofs.Terminals.{name_took}

ended : (rest : List Tok) → not (is_end rest) ≡ false → rest ≡ []
ended [] h = refl
ended (tok ∷ rest) h = cc

module _ (range_sound : Sound range IsRange) (number_sound : Sound number IsNumber) (item_sound : (depth : ℕ) → Sound (rule.item depth) IsItem) where
  pub module_sound : (depth : ℕ) → Sound (module_rule depth) IsModule
  unfolding module_rule
  module_sound depth ts found rest e = do
    (word, ts1, e1, w, m1) ← mark_took (codes "module") _ ts found rest e
    (text, ts2, was2, m2) ← then_took (terminals.name ts1) _ found rest m1
    (name, e2, n) ← name_took ts1 text ts2 was2
    (ports, ts3, was3, m3) ← then_took (any_header ts2) _ found rest m2
    (hs, e3, h) ← header_sound range_sound number_sound ts2 ports ts3 was3
    (semi, ts4, e4, s, m4) ← mark_took (codes ";") _ ts3 found rest m3
    (items, ts5, was5, m5) ← then_took (gathered_until (codes "endmodule") (λ group. group) (rule.item depth) ports.items ts4) _ found rest m4
    (body, e5, all) ← until_sound (λ group. group) (rule.item depth) IsItem (item_sound depth) (codes "endmodule") ports.items ts4 items ts5 was5
    (groups, spelled, same) ← all
    (last, ts6, e6, l, m6) ← mark_took (codes "endmodule") _ ts5 found rest m5
    (
      word ∷ name ∷ (hs ++ semi ∷ (body ++ last ∷ [])),
      e1
          ∙ ap (λ (xs : List Tok). word ∷ xs) (e2 ∙ ap (λ (xs : List Tok). name ∷ xs) (e3 ∙ ap (λ (xs : List Tok). hs ++ xs)
          (e4 ∙ ap (λ (xs : List Tok). semi ∷ xs) (e5 ∙ ap (λ (xs : List Tok). body ++ xs) (e6 ∙ ap (λ (xs : List Tok). last ∷ xs) (sym (left_is m6))) ∙ sym (append_assoc body (last ∷ []) rest)))
          ∙ sym (append_assoc hs (semi ∷ (body ++ last ∷ [])) rest))),
      subst (λ (m : Module). IsModule (word ∷ name ∷ (hs ++ semi ∷ (body ++ last ∷ []))) m)
          (sym (found_is m6 ∙ ap (λ (at : ℕ). record { at = at; name = text; ports = ports.names; items = items }) (ap place_of e1) ∙ ap (λ (xs : List Item). record { at = word.at; name = text; ports = ports.names; items = xs }) same))
          (IsModule.module_of word name hs semi body last text ports.names ports.items groups w n h s spelled l),
    )

  pub design_sound : (ts : List Tok) (found : Design) (rest : List Tok) (depth : ℕ) → design depth ts ≡ Ok (found, rest) → IsDesign ts found
  unfolding design modules
  design_sound ts found rest depth e = do
    (listed, left, was, m) ← then_took (modules depth ts) _ found rest e
    (us, more, e1, all, spelled, stops) ← many_sound (module_rule depth) IsModule (λ us. not (is_end us)) (module_sound depth) ts listed left was
    (
        subst (λ (d : Design). IsDesign ts d) (sym (found_is m ∙ ap (λ (xs : List Module). record { modules = xs }) all))
        (subst (λ (xs : List Tok). IsDesign xs (record { modules = more })) (sym (e1 ∙ ap (λ (xs : List Tok). us ++ xs) (ended left stops) ∙ append-nil us)) (IsDesign.design us more spelled))
        )
