-- The reserved words of the netlist language (IEEE 1364-2005, annex B).
use Rattle.std.specs.Prelude.{ℕ, List, [], ◌∷◌, codes}

-- the reserved words that netlists use
unfoldable pub profile_words : List (List ℕ)
profile_words =
    codes "module" ∷ codes "endmodule" ∷ codes "input" ∷ codes "output" ∷ codes "wire" ∷ codes "reg" ∷
    codes "assign" ∷ codes "always" ∷ codes "posedge" ∷ codes "if" ∷ codes "else" ∷ codes "begin" ∷
    codes "end" ∷ codes "initial" ∷ codes "and" ∷ codes "nand" ∷ codes "or" ∷ codes "nor" ∷ codes "xor" ∷
    codes "xnor" ∷ codes "buf" ∷ codes "not" ∷ []

-- the other reserved words, in alphabetical order
unfoldable pub outside_words : List (List ℕ)
outside_words =
    codes "automatic" ∷ codes "bufif0" ∷ codes "bufif1" ∷ codes "case" ∷ codes "casex" ∷ codes "casez" ∷
    codes "cell" ∷ codes "cmos" ∷ codes "config" ∷ codes "deassign" ∷ codes "default" ∷ codes "defparam" ∷
    codes "design" ∷ codes "disable" ∷ codes "edge" ∷ codes "endcase" ∷ codes "endconfig" ∷
    codes "endfunction" ∷ codes "endgenerate" ∷ codes "endprimitive" ∷ codes "endspecify" ∷ codes "endtable" ∷
    codes "endtask" ∷ codes "event" ∷ codes "for" ∷ codes "force" ∷ codes "forever" ∷ codes "fork" ∷
    codes "function" ∷ codes "generate" ∷ codes "genvar" ∷ codes "highz0" ∷ codes "highz1" ∷ codes "ifnone" ∷
    codes "incdir" ∷ codes "include" ∷ codes "inout" ∷ codes "instance" ∷ codes "integer" ∷ codes "join" ∷
    codes "large" ∷ codes "liblist" ∷ codes "library" ∷ codes "localparam" ∷ codes "macromodule" ∷
    codes "medium" ∷ codes "negedge" ∷ codes "nmos" ∷ codes "noshowcancelled" ∷ codes "notif0" ∷
    codes "notif1" ∷ codes "parameter" ∷ codes "pmos" ∷ codes "primitive" ∷ codes "pull0" ∷ codes "pull1" ∷
    codes "pulldown" ∷ codes "pullup" ∷ codes "pulsestyle_ondetect" ∷ codes "pulsestyle_onevent" ∷
    codes "rcmos" ∷ codes "real" ∷ codes "realtime" ∷ codes "release" ∷ codes "repeat" ∷ codes "rnmos" ∷
    codes "rpmos" ∷ codes "rtran" ∷ codes "rtranif0" ∷ codes "rtranif1" ∷ codes "scalared" ∷
    codes "showcancelled" ∷ codes "signed" ∷ codes "small" ∷ codes "specify" ∷ codes "specparam" ∷
    codes "strong0" ∷ codes "strong1" ∷ codes "supply0" ∷ codes "supply1" ∷ codes "table" ∷ codes "task" ∷
    codes "time" ∷ codes "tran" ∷ codes "tranif0" ∷ codes "tranif1" ∷ codes "tri" ∷ codes "tri0" ∷
    codes "tri1" ∷ codes "triand" ∷ codes "trior" ∷ codes "trireg" ∷ codes "unsigned" ∷ codes "use" ∷
    codes "uwire" ∷ codes "vectored" ∷ codes "wait" ∷ codes "wand" ∷ codes "weak0" ∷ codes "weak1" ∷
    codes "while" ∷ codes "wor" ∷ []
