use Rattle.std.proofs.Common.{◌≡◌, Some, None, ap, sym, ◌∙◌, is_some, rules, unwrap_or, [], ◌++◌}
use Rattle.std.specs.Option.{option_map, option_copied_mut}
use Rattle.std.specs.BTreeMap.{get_by_text}
use Rattle.std.specs.FinMap.{get}
use Rattle.std.proofs.lemmas.Result.{on_ok_weaker}
use Rattle.bm_base.specs.TextMap.{text_map}
use Rattle.bm_base.specs.Held.{bytes_under, holding}
use Rattle.bm_base.specs.ByName.{insert-found}
use Rattle.bm_base.proofs.TextMap.{get-seen, text_map-writes}
use Rattle.bm_base.proofs.files.Files.append.Goals as goal

pub returns-in_err-extend_from_slice-in-Some-clause-err :
    goal.returns-in_err-extend_from_slice-in-Some-clause-err
returns-in_err-extend_from_slice-in-Some-clause-err c =
    let name = c.args.name.now in
    let old = c.self.inside.files in
    let new = c.extend_from_slice.new.self in
    let found : get_by_text old name ≡ Some c.in-Some.bytes.now = sym c.get_mut.ensures.value ∙ ap option_copied_mut c.in-Some.is in
    let seen : get c.args.self.now name ≡ Some c.in-Some.bytes.now.items =
    get-seen (λ bytes. bytes.items) old c.args.self.now name c.self.view_is ∙ ap (option_map (λ bytes. bytes.items)) found in
    let same : new.items ≡ c.in-Some.bytes.now.items = c.in_err-extend_from_slice-in-Some.ensures.items in
    let wrote = text_map-writes (λ bytes. bytes.items) name old (c.get_mut.follows.lender new) new _ (c.get_mut.follows.holds new) (ap is_some found) same in
    let kept = rw (c.self.view_is, insert-found c.args.self.now name c.in-Some.bytes.now.items seen) at wrote in
    search rules

pub returns-in_ok-extend_from_slice-in-Some-clause-ok :
    goal.returns-in_ok-extend_from_slice-in-Some-clause-ok
returns-in_ok-extend_from_slice-in-Some-clause-ok c =
    let name = c.args.name.now in
    let old = c.self.inside.files in
    let new = c.extend_from_slice.new.self in
    let found : get_by_text old name ≡ Some c.in-Some.bytes.now = sym c.get_mut.ensures.value ∙ ap option_copied_mut c.in-Some.is in
    let seen : get c.args.self.now name ≡ Some c.in-Some.bytes.now.items =
    get-seen (λ bytes. bytes.items) old c.args.self.now name c.self.view_is ∙ ap (option_map (λ bytes. bytes.items)) found in
    let longer : new.items ≡ bytes_under c.args.self.now name ++ c.args.piece.now =
    c.in_ok-extend_from_slice-in-Some.ensures.items ∙ ap (λ o. unwrap_or o [] ++ c.args.piece.now) (sym seen) in
    let wrote = text_map-writes (λ bytes. bytes.items) name old (c.get_mut.follows.lender new) new _ (c.get_mut.follows.holds new) (ap is_some found) longer in
    rw c.self.view_is at wrote

pub returns-in-None-clause-ok : goal.returns-in-None-clause-ok
returns-in-None-clause-ok c =
    let name = c.args.name.now in
    let old = c.self.inside.files in
    let seen : get c.args.self.now name ≡ None =
    get-seen (λ bytes. bytes.items) old c.args.self.now name c.self.view_is ∙ ap (option_map (λ bytes. bytes.items)) (sym c.get_mut.ensures.value ∙ ap option_copied_mut c.in-None.is) in
    let start : bytes_under c.args.self.now name ++ c.args.piece.now ≡ c.args.piece.now = ap (λ o. unwrap_or o [] ++ c.args.piece.now) seen in
    let kept = ap (text_map (λ bytes. bytes.items)) c.get_mut.follows.holds-at-none ∙ c.self.view_is in
    on_ok_weaker c.put.result (λ put. put ∙ ap (holding name c.args.piece.now) kept ∙ ap (λ bytes. holding name bytes c.args.self.now) (sym start)) c.put.ensures.ok
