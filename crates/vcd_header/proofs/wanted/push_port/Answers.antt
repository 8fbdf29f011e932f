use Rattle.std.proofs.Common.{◌≡◌, ◌+◌, [], ◌∷◌, ◌++◌, map, arith, ap, sym, ◌∙◌}
use Rattle.std.specs.List.{range_with_len}
use Rattle.std.proofs.lemmas.List.{append_assoc, map-append}
use Rattle.std.proofs.lemmas.List.FromFn.{map-range_with_len_more}
use Rattle.vcd_header.specs.Bits.{wanted_of}
use Rattle.vcd_header.specs.Matching.{port_bit}
use Rattle.vcd_header.proofs.wanted.push_port.Goals as goal

pub loop-position-preserved : goal.loop-position-preserved
loop-position-preserved c =
    let bit = c.port_bit.result in
    let before = c.loop-position.bits.items in
    let start = map wanted_of c.args.bits.now.items in
    let bits = map (port_bit c.args.port.now) (range_with_len 0 c.loop-position.position) in
    let place : 0 + c.loop-position.position ≡ c.loop-position.position = omega arith in
    ap (map wanted_of) c.in_ok-push.ensures.items
    ∙ map-append wanted_of before (bit ∷ [])
    ∙ ap (λ front. front ++ wanted_of bit ∷ []) c.loop-position.invariant
    ∙ append_assoc start bits (wanted_of bit ∷ [])
    ∙ ap (λ bit. start ++ (bits ++ bit ∷ [])) c.port_bit.ensures
    ∙ ap (λ bits. start ++ bits) (sym (map-range_with_len_more (port_bit c.args.port.now) 0 c.loop-position.position c.loop-position.position place))
