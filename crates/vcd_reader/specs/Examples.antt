-- Small waveforms and what they are: the definitions at examples.
use Rattle.std.specs.Prelude.{◌≡◌, ℕ, List, [], ◌∷◌, ◌++◌, Bool, true, false, codes, None, Some, Result, Ok, Err}
use Rattle.trace_rows.specs.declared.labels.Labels.{Labels}
use Rattle.trace_rows.specs.declared.labels.PortLabel.{PortLabel}
use Rattle.vcd_header.specs.declared.fault.VcdFault.{VcdFault}
use Rattle.vcd_header.specs.declared.fault.VcdFault.TheVariants.{Token, Truncated, TimeBack, BadCode, TooWide, NoScope, NoSignal, NoTime}
use Rattle.vcd_reader.specs.Rows.{Reading}
use Rattle.vcd_reader.specs.Waveform.{waveform}

-- labels with these inputs
abbrev pub labels_of : List PortLabel → Labels
labels_of ports = record { top = codes "top"; clock = codes "clk"; check = codes "bad"; ports = ports }

-- the labels of an input `a`
abbrev pub wire : Labels
wire = labels_of (record { name = codes "a"; width = 1; range = None } ∷ [])

-- the labels of an input `data [7:0]`
abbrev pub bus : Labels
bus = labels_of (record { name = codes "data"; width = 8; range = Some (record { left = 7; right = 0 }) } ∷ [])

-- a header for `wire`
abbrev pub header_text : List ℕ
header_text =
    codes "$scope module top $end $var wire 1 ! clk $end $var wire 1 # a $end $upscope $end $enddefinitions $end "

-- a waveform in which `data` is declared by this text, and this is the body
abbrev pub bus_text : List ℕ → List ℕ → List ℕ
bus_text name said =
    codes "$scope m t $end $var wire 1 ! clk $end $var wire 8 $ " ++ name
    ++ codes " $end $var wire 8 % mem [1][7:0] $end $enddefinitions $end " ++ said

-- rows of this width, and a count of unknown bits
abbrev pub seen : ℕ → List (List Bool) → ℕ → Result Reading VcdFault
seen width rows unknown = Ok (record { trace = record { width = width; rows = rows }; unknown = unknown })

-- each example: what the bytes are
pub record ReadsExamples : Type 0 where
  pub sampled_before : waveform (header_text ++ codes "#0 0! 0# #5 1! 1# #10") wire None
      ≡ seen 1 ((false ∷ []) ∷ (true ∷ []) ∷ []) 0
  pub unknown_counts : waveform (header_text ++ codes "#0 0! x# #5 1! #10 0! 1#") wire None
      ≡ seen 1 ((false ∷ []) ∷ (true ∷ []) ∷ []) 1
  pub no_edge : waveform (header_text ++ codes "#0 0! 1# #5 0! #10") wire None ≡ seen 1 ((true ∷ []) ∷ []) 0
  pub no_body : waveform (header_text ++ codes "") wire None ≡ Err NoTime
  pub early_change : waveform (header_text ++ codes "1# 0! #3 $dumpvars $end #5 1! 0#") wire None
      ≡ seen 1 ((true ∷ []) ∷ (false ∷ []) ∷ []) 0
  pub equal_times : waveform (header_text ++ codes "#0 0! 1# #5 1! #5 0!") wire None ≡ seen 1 ((true ∷ []) ∷ []) 0
  pub edge_at_first : waveform (header_text ++ codes "#7 1! 1#") wire None ≡ seen 1 ((true ∷ []) ∷ []) 0
  pub unknown_clock : waveform (header_text ++ codes "#0 x! 1# #5 1! 0#") wire None
      ≡ seen 1 ((true ∷ []) ∷ (false ∷ []) ∷ []) 1
  pub time_back : waveform (header_text ++ codes "#5 0! #3") wire None ≡ Err (TimeBack 108)
  pub open_vector : waveform (header_text ++ codes "#0 b1") wire None ≡ Err (Truncated 105)
  pub open_real : waveform (header_text ++ codes "#0 r1.5") wire None ≡ Err (Truncated 105)
  pub open_comment : waveform (header_text ++ codes "#0 $comment a") wire None ≡ Err (Truncated 105)
  pub real_skipped : waveform (header_text ++ codes "#0 0! r1.5 ? 1# $comment #9 $end") wire None
      ≡ seen 1 ((true ∷ []) ∷ []) 0
  pub undeclared : waveform (header_text ++ codes "#0 b1 ?") wire None ≡ Err (BadCode 105)
  pub undeclared_scalar : waveform (header_text ++ codes "#0 1") wire None ≡ Err (Token 105)
  pub too_wide : waveform (header_text ++ codes "#0 b10 #") wire None ≡ Err (TooWide 105)
  pub bad_digit : waveform (header_text ++ codes "#0 b2 #") wire None ≡ Err (Token 105)
  pub time_too_great : waveform (header_text ++ codes "#18446744073709551616") wire None ≡ Err (Token 102)
  pub greatest_time : waveform (header_text ++ codes "#18446744073709551615 1#") wire None ≡ seen 1 ((true ∷ []) ∷ []) 0
  pub open_section : waveform (codes "$scope module top $end\n$var wire 1") wire None ≡ Err (Truncated 23)
  pub lone_end : waveform (codes "$date x $end $end") wire None ≡ Err (Token 13)
  pub no_section : waveform (codes "$date x $end x") wire None ≡ Err (Token 13)
  pub no_header_end : waveform (codes "$date x $end ") wire None ≡ Err (Truncated 13)
  pub no_scope_to_close : waveform (codes "$scope a b $end $upscope $end $upscope $end $enddefinitions $end") wire None
      ≡ Err (Token 30)
  pub another_size : waveform (codes "$var wire 1 ! a $end $var wire 2 ! b $end $enddefinitions $end") wire None
      ≡ Err (BadCode 21)
  pub size_too_great : waveform (codes "$var wire 2147483648 ! a $end $enddefinitions $end") wire None ≡ Err (Token 0)
  pub no_such_scope : waveform
      (codes "$scope module top $end $var wire 1 ! clk $end $upscope $end $enddefinitions $end #0") wire None
      ≡ Err NoScope
  pub no_such_signal : waveform
      (codes "$scope module top $end $var wire 1 ! clk $end $upscope $end $enddefinitions $end #0") wire
      (Some (codes "top"))
      ≡ Err (NoSignal (codes "a"))
  pub inner_scope : waveform
      (codes "$scope m t $end $scope m u $end $var wire 1 ! clk $end $var wire 1 # a $end $upscope $end "
      ++ codes "$upscope $end $enddefinitions $end #0 1#") wire (Some (codes "t.u"))
      ≡ seen 1 ((true ∷ []) ∷ []) 0
  pub bus_select : waveform (bus_text (codes "data [7:0]") (codes "#0 b1 $ ")) bus None
      ≡ seen 8 ((true ∷ false ∷ false ∷ false ∷ false ∷ false ∷ false ∷ false ∷ []) ∷ []) 0
  pub bus_joined : waveform (bus_text (codes "data[7:0]") (codes "#0 b1 $ ")) bus None
      ≡ seen 8 ((true ∷ false ∷ false ∷ false ∷ false ∷ false ∷ false ∷ false ∷ []) ∷ []) 0
  pub bus_parted : waveform (bus_text (codes "data [7 : 0]") (codes "#0 b1 $ ")) bus None
      ≡ seen 8 ((true ∷ false ∷ false ∷ false ∷ false ∷ false ∷ false ∷ false ∷ []) ∷ []) 0
  pub bus_whole : waveform (bus_text (codes "data") (codes "#0 b1 $ ")) bus None
      ≡ seen 8 ((true ∷ false ∷ false ∷ false ∷ false ∷ false ∷ false ∷ false ∷ []) ∷ []) 0
  pub bus_turned : waveform (bus_text (codes "data [0:7]") (codes "#0 b1 $ ")) bus None
      ≡ seen 8 ((false ∷ false ∷ false ∷ false ∷ false ∷ false ∷ false ∷ true ∷ []) ∷ []) 0
  pub bus_unknown : waveform (bus_text (codes "data") (codes "#0 bx1 $ ")) bus None
      ≡ seen 8 ((true ∷ false ∷ false ∷ false ∷ false ∷ false ∷ false ∷ false ∷ []) ∷ []) 7
  pub bus_bits : waveform
      (codes "$scope m t $end $var wire 1 ! clk $end $var wire 7 $ data [7:1] $end $var wire 1 % data [0] $end "
      ++ codes "$enddefinitions $end #0 b1 $ 0%") bus None
      ≡ seen 8 ((false ∷ true ∷ false ∷ false ∷ false ∷ false ∷ false ∷ false ∷ []) ∷ []) 0
  pub bus_narrow : waveform (bus_text (codes "data [6:0]") (codes "#0 b1 $ ")) bus None
      ≡ Err NoScope
