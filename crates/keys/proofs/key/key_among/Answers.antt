use Rattle.std.proofs.Common.{◌≡◌, ◌-◌, ap, option_map, slice_get, sym, ◌∙◌}
use Rattle.std.proofs.lemmas.Result.{IfOk-weaker}
use Rattle.frames.specs.Numbered.{setting_with}
use Rattle.numbering.specs.Numbering.{key_in}
use Rattle.vlog_tree.specs.Meaning.Instances.{instances}
use Rattle.keys.specs.Kinds.{bits_in, keys_by}
use Rattle.keys.proofs.KeyLemmas.{key_held, some_there}
use Rattle.keys.proofs.key.key_among.Goals as goal

pub returns : goal.returns
returns c =
    let setting = setting_with c.args.frames.now in
    let found = some_there (instances setting) c.holder-place.result c.holder-place.ensures.within in
    IfOk-weaker c.key_in.result _ (λ key. key ≡ slice_get (keys_by c.args.kind setting) c.args.number)
    (λ key holds.
    holds found.0 found.1
    ∙ ap (λ n. option_map (key_in found.0.path) (slice_get (bits_in setting.clock c.args.kind found.0) (c.args.number - n)))
    c.before-2.ensures
    ∙ sym (key_held setting c.args.kind c.holder-place.result found.0 found.1 c.args.number c.holder-place.ensures.first
    c.holder-place.ensures.last))
    c.key_in.ensures
