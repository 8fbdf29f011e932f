use Rattle.std.proofs.Common.{◌≡◌, ◌++◌, codes}
use Rattle.std.proofs.lemmas.List.{append_assoc}
use Rattle.std.proofs.lemmas.Result.{IfOk-equal}
use Rattle.vcd_writer.specs.Header.{opening_lines}
use Rattle.vcd_writer.specs.Line.{text_of}
use Rattle.vcd_writer.proofs.header.put_opening.Goals as goal

pub returns : goal.returns
returns c =
    let whole : c.put_name.new.text.items ++ codes " $end\n" ≡ c.args.text.now.items ++ text_of (opening_lines c.args.top.now) =
    rw (c.in_ok-put_name.ensures, c.in_ok-put.ensures) (simp append_assoc) in
    IfOk-equal _ _ _ _ c.put-2.ensures whole
