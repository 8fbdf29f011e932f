use Rattle.std.proofs.Common.{◌<◌, length, get_or, All, refl, subst, sym, ap, ◌∙◌}
use Rattle.std.specs.List.{filter}
use Rattle.vcd_header.specs.Contents.{stands_at}
use Rattle.vcd_header.specs.Declares.{IsBelow}
use Rattle.vcd_header.proofs.ContentLemmas.{table_of}
use Rattle.vcd_header.proofs.DeclareLemmas.{seen_count}
use Rattle.vcd_header.proofs.FirstLemmas.{first_below, length-firsts}
use Rattle.vcd_header.proofs.declarations.Declarations.contents.Goals as goal

pub contents-requires-clause-firsts : goal.contents-requires-clause-firsts
contents-requires-clause-firsts c = λ k d within.
    let firsts = c.args.firsts.now in
    let count = length-firsts c.args.self.now.scopes firsts c.requires in
    first_below c.args.self.now.scopes firsts k d (get_or firsts k d) (length firsts) c.requires (subst (λ n. k < n) count within) refl count

pub contents-requires-clause-kept : goal.contents-requires-clause-kept
contents-requires-clause-kept c = λ k d within.
    let inside = c.self.inside in
    let count = length-firsts c.args.self.now.scopes c.args.firsts.now c.requires in
    let scopes = seen_count inside.scopes.items inside.inmost inside.variables c.args.self.now c.self.view_is in
    subst (λ list. All (λ declaration. IsBelow (length c.args.firsts.now) declaration.scope) list) (sym c.list.ensures)
    (subst (λ n. All (λ declaration. IsBelow n declaration.scope) inside.variables) (scopes ∙ sym count) c.self.invariant.within) k d within

pub returns : goal.returns
returns c =
    let inside = c.self.inside in
    table_of inside.scopes.items inside.inmost inside.variables c.args.self.now c.args.firsts.now _ c.self.view_is c.self.invariant c.requires c.in_ok-contents.ensures.count
    (λ number. c.in_ok-contents.ensures.lists number ∙ ap (filter (stands_at c.args.firsts.now number)) c.list.ensures)
