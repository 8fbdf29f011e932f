use Rattle.std.proofs.Common.{refl, sym, ap, ◌∙◌}
use Rattle.std.proofs.lemmas.List.{drop-map, take_rest}
use Rattle.std.specs.String.{string_bytes}
use Rattle.bm_words.specs.Words.{texts}
use Rattle.bm_words.proofs.ListLemmas.{five_words}
use Rattle.bm_words.proofs.words.read_minimise.Goals as goal

pub returns-in-Some-clause-form : goal.returns-in-Some-clause-form
returns-in-Some-clause-form c =
    let words = c.args.words.now in
    let form = five_words _ _ _ _ _ _
    (c.if-not-is_word.ensures.0 refl) c.word.ensures c.word-in-Some.ensures c.word-in-Some-2.ensures
    (drop-map string_bytes 5 words ∙ ap texts (sym (take_rest words 5))) in
    (form.0, _, form.1, c.in-Some.ensures.read)
