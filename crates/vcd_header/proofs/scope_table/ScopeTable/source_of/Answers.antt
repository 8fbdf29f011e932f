use Rattle.std.proofs.Common.{◌≡◌, length, rules, subst, ap, sym, ◌∙◌}
use Rattle.std.specs.Vec.{vec_len}
use Rattle.vcd_header.specs.Bits.{wanted_of}
use Rattle.vcd_header.specs.Contents.{IsTable}
use Rattle.vcd_header.proofs.ContentLemmas.{source_own}
use Rattle.vcd_header.proofs.FirstLemmas.{first_below}
use Rattle.vcd_header.proofs.scope_table.ScopeTable.source_of.Goals as goal

pub index-requires-2 : goal.index-requires-2
index-requires-2 c =
    let inside = c.self.inside in
    let table = subst (λ all. IsTable all inside.firsts.items inside.lists.items) c.self.view_is c.self.invariant in
    let count : length inside.lists.items ≡ vec_len inside.lists = search rules in
    first_below c.args.self.now.scopes inside.firsts.items c.args.number _ c.index.result.now (vec_len inside.lists) table.firsts_are c.requires c.index.ensures (sym count ∙ table.count)

pub returns : goal.returns
returns c =
    let inside = c.self.inside in
    let table = subst (λ all. IsTable all inside.firsts.items inside.lists.items) c.self.view_is c.self.invariant in
    c.source_among.ensures c.args.self.now.scopes
    ∙ source_own c.args.self.now inside.firsts.items inside.lists.items c.args.number c.index.result.now _ _ c.deref.result.now (wanted_of c.args.bit.now) table c.requires c.index.ensures (c.deref.ensures.value ∙ ap (λ list. list.items) c.index-2.ensures)
