use Rattle.std.proofs.Common.{◌≡◌, ◌==◌, List, String, [], false, true, length, ap}
use Rattle.std.specs.declared.alloc.Global.{Global}
use Rattle.bm_words.proofs.ListLemmas.{no_words}
use Rattle.bm_words.proofs.OptionLemmas.{nothing_left}
use Rattle.bm_words.proofs.further.read_further.Goals as goal

pub returns-else-is_empty-clause-refused : goal.returns-else-is_empty-clause-refused
returns-else-is_empty-clause-refused c = λ reset cycles scope same.
    let none : c.take_option-3.result.1.now ≡ [] =
    no_words _ (nothing_left _ _ _ _ _ _ _ reset cycles scope
    c.take_option.ensures.split c.take_option.ensures.absent
    c.take_option-2.ensures.split c.take_option-2.ensures.absent
    c.take_option-3.ensures.split c.take_option-3.ensures.absent same) in
    let empty : (length c.take_option-3.result.1.now == 0) ≡ true =
    ap (λ (words : List (String Global)). length words == 0) none in
    let contradiction : false ≡ true = cc in cc
