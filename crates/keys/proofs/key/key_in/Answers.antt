use Rattle.std.proofs.Common.{ap, option_map, refl, ◌∙◌, Some}
use Rattle.frames.specs.Numbered.{setting_with}
use Rattle.numbering.specs.Numbering.{key_in}
use Rattle.numbering.specs.Places.{Placing}
use Rattle.vlog_tree.specs.Meaning.Keys.{key_of}
use Rattle.keys.proofs.KeyLemmas.{bits_same}
use Rattle.keys.proofs.key.key_in.Goals as goal

pub returns-in_ok-new-in-Some : goal.returns-in_ok-new-in-Some
returns-in_ok-new-in-Some c = λ instance at.
    (λ j. Some (key_of (c.in_ok-path_of-in-Some.ensures instance at j) (c.in_ok-new-in-Some.ensures j) c.in-Some.bit))
    ∙ ap (option_map (key_in instance.path))
    (c.in-Some.ensures
    ∙ bits_same (setting_with c.args.frames.now) c.requires.sound c.args.place instance at c.args.kind c.args.number _ refl
    c.clock.result.now c.clock.ensures c.nets.result.now
    (c.nets.ensures ∙ ap (λ (it : Placing). it.definition) c.places.ensures ∙ c.at-frame.ensures.definition instance at))

pub returns-in-None : goal.returns-in-None
returns-in-None c = λ instance at.
    ap (option_map (key_in instance.path))
    (c.in-None.ensures
    ∙ bits_same (setting_with c.args.frames.now) c.requires.sound c.args.place instance at c.args.kind c.args.number _ refl
    c.clock.result.now c.clock.ensures c.nets.result.now
    (c.nets.ensures ∙ ap (λ (it : Placing). it.definition) c.places.ensures ∙ c.at-frame.ensures.definition instance at))
