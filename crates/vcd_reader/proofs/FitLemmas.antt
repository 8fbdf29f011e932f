-- What every reading is: within the limits, and as wide as the ports together.
use Rattle.std.proofs.Common.{◌≡◌, ◌<◌, ℕ, ◌+◌, suc, List, [], ◌∷◌, ◌++◌, All, map, length, Option, Some, None, Result, Ok, Err, arith, refl, subst, sym, ap, ◌∙◌}
use Rattle.std.specs.List.{flat_map, sum_by}
use Rattle.std.specs.Option.{option_map}
use Rattle.std.proofs.lemmas.List.{length-append, length-map}
use Rattle.std.proofs.lemmas.List.Concat.{flat_map-cons}
use Rattle.std.proofs.lemmas.List.Elements.{All-cons, All-nil}
use Rattle.std.proofs.lemmas.List.FromFn.{length-map-range_with_len}
use Rattle.std.proofs.lemmas.List.Sums.{sum_by-cons}
use Rattle.bm_base.specs.declared.size.Size.{Size}
use Rattle.trace_rows.specs.declared.labels.Labels.{Labels}
use Rattle.trace_rows.specs.declared.labels.PortLabel.{PortLabel}
use Rattle.vcd_header.specs.Declares.{Declared, declared_by_groups, matched_in}
use Rattle.vcd_header.specs.Header.{header_fault}
use Rattle.vcd_header.specs.Matching.{Source, Wanted, port_bit, port_bits, scope_for, source_of, sources_in, sources_of, wanted, with_source, within}
use Rattle.vcd_header.specs.Scopes.{Path}
use Rattle.vcd_header.specs.Sections.{body, header}
use Rattle.vcd_header.specs.Tokens.{tokens}
use Rattle.vcd_header.specs.Variables.{Variable}
use Rattle.vcd_header.specs.declared.fault.VcdFault.{VcdFault}
use Rattle.vcd_header.specs.declared.fault.VcdFault.TheVariants.{Limit}
use Rattle.vcd_reader.specs.Body.{Item, items}
use Rattle.vcd_reader.specs.Changes.{Triple, last_time, times, triples}
use Rattle.vcd_reader.specs.Laws.{Fits, WaveformsFit}
use Rattle.vcd_reader.specs.Rows.{Reading, reading, sampled}
use Rattle.vcd_reader.specs.Values.{value_at, values_at}
use Rattle.vcd_reader.specs.Waveform.{body_fault, body_of, body_reading, limit_passed, limited, sourced, unless, waveform, within_limits}

-- ---- how many bits are wanted, and how many sources they have

port_long : (port : PortLabel) → length (port_bits port) ≡ port.width
port_long port = length-map-range_with_len (port_bit port) 0 port.width

ports_long : (ports : List PortLabel) → length (flat_map port_bits ports) ≡ sum_by (λ (port : PortLabel). port.width) ports
ports_long [] = refl
ports_long (port ∷ ports) =
    ap length (flat_map-cons port_bits port ports)
    ∙ length-append (port_bits port) (flat_map port_bits ports)
    ∙ ap (λ n. n + length (flat_map port_bits ports)) (port_long port)
    ∙ ap (λ n. port.width + n) (ports_long ports)
    ∙ sym (sum_by-cons (λ (port : PortLabel). port.width) port ports)

one_more : (name : List ℕ) (bits : List Wanted) (found : Option Source) (rest : Result (List Source) VcdFault) (sources : List Source)
    → ((later : List Source) → rest ≡ Ok later → length later ≡ length bits) → with_source name found rest ≡ Ok sources → length sources ≡ suc (length bits)
one_more name bits None rest sources later is = absurd (cc)
one_more name bits (Some source) (Err fault) sources later is = absurd (cc)
one_more name bits (Some source) (Ok rest) sources later is =
    let same : source ∷ rest ≡ sources = cc in
    ap length (sym same) ∙ ap suc (later rest refl)

sources_long : (variables : List Variable) (bits : List Wanted) (sources : List Source) → sources_of variables bits ≡ Ok sources → length sources ≡ length bits
sources_long variables [] sources is =
    let same : [] ≡ sources = cc in
    ap length (sym same)
sources_long variables (bit ∷ bits) sources is =
    one_more bit.name bits (source_of variables bit) (sources_of variables bits) sources (sources_long variables bits) is

found_long : (variables : List Variable) (bits : List Wanted) (path : Option Path) (sources : List Source) → sources_in variables bits path ≡ Ok sources → length sources ≡ length bits
found_long variables bits None sources is = absurd (cc)
found_long variables bits (Some path) sources is = sources_long (within path variables) bits sources is

-- ---- rows

rows_wide : (changes : List Triple) (inputs : List Source) (sampled : List ℕ) (last : ℕ)
    → All (λ row. length row ≡ length inputs) (map (values_at changes inputs) sampled ++ values_at changes inputs last ∷ [])
rows_wide changes inputs [] last =
    All-cons (λ row. length row ≡ length inputs) (values_at changes inputs last) [] (length-map inputs (value_at changes last)) (All-nil _)
rows_wide changes inputs (time ∷ sampled) last =
    All-cons (λ row. length row ≡ length inputs) (values_at changes inputs time) (map (values_at changes inputs) sampled ++ values_at changes inputs last ∷ [])
    (length-map inputs (value_at changes time)) (rows_wide changes inputs sampled last)

rows_some : {X : Type 0} (rows : List X) (last : X) → 0 < length (rows ++ last ∷ [])
rows_some rows last = omega (arith, length-append rows (last ∷ []))

reading_fits : (labels : Labels) (said : List Item) (clock : Source) (inputs : List Source)
    → length inputs ≡ sum_by (λ (port : PortLabel). port.width) labels.ports → Fits labels (reading said clock inputs)
reading_fits labels said clock inputs long = record {
  width = long;
  wide = rows_wide (triples said) inputs (sampled (triples said) clock (times said)) (last_time said);
  some = rows_some (map (values_at (triples said) inputs) (sampled (triples said) clock (times said))) (values_at (triples said) inputs (last_time said));
}

-- ---- a reading is given where there is no fault

unless_gives : (fault : Option VcdFault) (outcome : Result Reading VcdFault) (read : Reading) → unless fault outcome ≡ Ok read → outcome ≡ Ok read
unless_gives None outcome read is = is
unless_gives (Some fault) outcome read is = absurd (cc)

body_fits : (labels : Labels) (declared : List Variable) (said : List Item) (sources : List Source) (read : Reading)
    → length sources ≡ length (wanted labels) → body_reading declared said sources ≡ Ok read → Fits labels read
body_fits labels declared said [] read long is = absurd (cc)
body_fits labels declared said (clock ∷ inputs) read long is =
    let outcome : Ok (reading said clock inputs) ≡ Ok read = unless_gives (body_fault declared said) (Ok (reading said clock inputs)) read is in
    let same : reading said clock inputs ≡ read = cc in
    subst (Fits labels) same (reading_fits labels said clock inputs (omega (arith, long, ports_long labels.ports)))

sourced_fits : (labels : Labels) (declared : List Variable) (said : List Item) (found : Result (List Source) VcdFault) (read : Reading)
    → ((sources : List Source) → found ≡ Ok sources → length sources ≡ length (wanted labels)) → sourced declared said found ≡ Ok read → Fits labels read
sourced_fits labels declared said (Err fault) read long is = absurd (cc)
sourced_fits labels declared said (Ok sources) read long is = body_fits labels declared said sources read (long sources refl) is

body_of_fits : (all : Declared) (said : List Item) (labels : Labels) (scope : Option (List ℕ)) (read : Reading) → body_of all said labels scope ≡ Ok read → Fits labels read
body_of_fits all said labels scope read is =
    sourced_fits labels all.variables said (matched_in all labels scope) read
    (found_long all.variables (wanted labels) (scope_for all.scopes all.variables (wanted labels) scope)) is

waveform_fits : (bytes : List ℕ) (labels : Labels) (scope : Option (List ℕ)) (read : Reading) → waveform bytes labels scope ≡ Ok read → Fits labels read
unfolding waveform
waveform_fits bytes labels scope read is =
    let toks = tokens bytes in
    let all = declared_by_groups (header toks) in
    body_of_fits all (items (body toks)) labels scope read
    (unless_gives (header_fault (length bytes) toks) (body_of all (items (body toks)) labels scope) read is)

-- ---- the limits

within_gives : (registers : ℕ) (found read : Reading) → within_limits registers found ≡ Ok read → (found ≡ read) × (limit_passed registers found.trace ≡ None)
within_gives registers found read is = by (limit_passed registers found.trace) refl is
  where
    by : (passed : Option Size) → limit_passed registers found.trace ≡ passed → unless (option_map (λ what. Limit what) passed) (Ok found) ≡ Ok read
        → (found ≡ read) × (limit_passed registers found.trace ≡ None)
    by None none is =
        let same : found ≡ read = cc in
        (same, none)
    by (Some what) some is = absurd (cc)

limited_gives : (registers : ℕ) (outcome : Result Reading VcdFault) (read : Reading) → limited registers outcome ≡ Ok read
    → (outcome ≡ Ok read) × (limit_passed registers read.trace ≡ None)
limited_gives registers (Err fault) read is = absurd (cc)
limited_gives registers (Ok found) read is =
    let within = within_gives registers found read is in
    (ap Ok within.0, subst (λ (read : Reading). limit_passed registers read.trace ≡ None) within.0 within.1)

pub waveforms_fit : WaveformsFit
waveforms_fit registers bytes labels scope read is =
    let given = limited_gives registers (waveform bytes labels scope) read is in
    (given.0, given.1, waveform_fits bytes labels scope read given.0)
