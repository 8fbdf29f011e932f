-- Lemmas on packed truth values.
use Rattle.std.proofs.Common.{◌≡◌, ◌≢◌, ℕ, ◌+◌, ◌*◌, ◌/◌, ◌%◌, ◌^◌, ◌<◌, ◌≤◌, Bool, false, eqb, List, length, get_or, set, replicate, slice_get, Some, sym, ap, subst, ◌∙◌, ⊎_elim, arith}
use Rattle.std.specs.Int.{bit_at}
use Rattle.std.proofs.lemmas.Bool.{cases_eq, cases_lt}
use Rattle.std.proofs.lemmas.Bool.Decides.{nat_tests}
use Rattle.std.proofs.lemmas.List.{ext_get_or, length-set, length-replicate, get_or-set_same, get_or-set_other, get_or-replicate, get_or_past, get_or_read}
use Rattle.std.proofs.lemmas.List.FromFn.{length-map-range_with_len, get_or-map-range_with_len}
use Rattle.std.proofs.lemmas.Nat.Bits.{bit_at-zero, bit_at-lt, same_from_bits_below}
use Rattle.std.proofs.lemmas.Option.{slice_get-get_or}
use Rattle.bm_base.specs.Bits.{bit_of, value_at, values, IsPacked, ReplacesBit}

pub length-values : (words : List ℕ) (len : ℕ) → length (values words len) ≡ len
length-values words len = length-map-range_with_len (value_at words) 0 len

pub get_or-values : (words : List ℕ) (len i : ℕ) (d : Bool) → i < len → get_or (values words len) i d ≡ value_at words i
get_or-values words len i d h = get_or-map-range_with_len (value_at words) 0 len i i d h (omega arith)

pub length_from_values : (words : List ℕ) (len : ℕ) (row : List Bool) → values words len ≡ row → len ≡ length row
length_from_values words len row is = sym (length-values words len) ∙ ap length is

-- The word of a value is there.
pub word_in_bounds : (words : List ℕ) (len : ℕ) (row : List Bool) (i : ℕ) → values words len ≡ row → IsPacked words len → i < length row → i / 64 < length words
word_in_bounds words len row i is packed h =
    omega (arith, packed.word_count, length_from_values words len row is)

-- `read` is the word of the value, as an index gives it.
pub slice_get_from_values : (words : List ℕ) (len : ℕ) (row : List Bool) (i read : ℕ) → values words len ≡ row → IsPacked words len → i < length row → read ≡ get_or words (i / 64) read → slice_get row i ≡ Some (bit_of read (i % 64))
slice_get_from_values words len row i read is packed h read_is =
    let below : i < len = omega (arith, length_from_values words len row is) in
    let word : read ≡ get_or words (i / 64) 0 = get_or_read words (i / 64) read (word_in_bounds words len row i is packed h) read_is 0 in
    let value : get_or row i false ≡ bit_of read (i % 64) = sym (ap (λ r. get_or r i false) is) ∙ get_or-values words len i false below ∙ ap (λ w. bit_of w (i % 64)) (sym word) in
    slice_get-get_or row i false h ∙ ap Some value

-- Words that are 0 have no bit that is set.
pub value_at-replicate : (n i : ℕ) → value_at (replicate n 0) i ≡ false
value_at-replicate n i =
    let none : get_or (replicate n 0) (i / 64) 0 ≡ 0 =
    ⊎_elim (λ h. get_or-replicate n (i / 64) 0 0 h) (λ h. get_or_past (replicate n 0) (i / 64) 0 (omega (arith, length-replicate {A = ℕ} n 0))) (cases_lt (i / 64) n) in
    ap (λ word. bit_of word (i % 64)) none ∙ ap (λ b. eqb b 1) (bit_at-zero (i % 64))

pub values-replicate : (n len : ℕ) → values (replicate n 0) len ≡ replicate len false
values-replicate n len =
    let same_length : length (values (replicate n 0) len) ≡ length (replicate len false) = length-values (replicate n 0) len ∙ sym (length-replicate len false) in
    ext_get_or false (values (replicate n 0) len) (replicate len false) same_length
    (λ i h. let below : i < len = omega (arith, length-values (replicate n 0) len) in
    get_or-values (replicate n 0) len i false below ∙ value_at-replicate n i ∙ sym (get_or-replicate len i false false below))

value_at-set_same : (words : List ℕ) (i word : ℕ) (v : Bool) → i / 64 < length words → ReplacesBit (get_or words (i / 64) 0) word (i % 64) v → value_at (set words (i / 64) word) i ≡ v
value_at-set_same words i word v h replaces =
    ap (λ w. bit_of w (i % 64)) (get_or-set_same words (i / 64) word 0 h) ∙ replaces.here

value_at-set_other : (words : List ℕ) (i word : ℕ) (v : Bool) (k : ℕ) → i / 64 < length words → ReplacesBit (get_or words (i / 64) 0) word (i % 64) v → k ≢ i → value_at (set words (i / 64) word) k ≡ value_at words k
value_at-set_other words i word v k h replaces apart =
    ⊎_elim
    (λ (one : k / 64 ≡ i / 64).
    let there : get_or (set words (i / 64) word) (k / 64) 0 ≡ word = ap (λ n. get_or (set words (i / 64) word) n 0) one ∙ get_or-set_same words (i / 64) word 0 h in
    let kept : bit_of word (k % 64) ≡ bit_of (get_or words (i / 64) 0) (k % 64) = replaces.others (k % 64) (omega arith) (λ e. apart (omega arith)) in
    ap (λ w. bit_of w (k % 64)) there ∙ kept ∙ ap (λ n. bit_of (get_or words n 0) (k % 64)) (sym one))
    (λ (two : k / 64 ≢ i / 64). ap (λ w. bit_of w (k % 64)) (get_or-set_other words (i / 64) (k / 64) word 0 two))
    (cases_eq (k / 64) (i / 64))

set_word : (words : List ℕ) (len : ℕ) (row : List Bool) (i word : ℕ) (v : Bool) → values words len ≡ row → IsPacked words len → i < length row → ReplacesBit (get_or words (i / 64) 0) word (i % 64) v → values (set words (i / 64) word) len ≡ set row i v
set_word words len row i word v is packed h replaces =
    let new : List ℕ = set words (i / 64) word in
    let inside : i / 64 < length words = word_in_bounds words len row i is packed h in
    let new_length : length (values new len) ≡ len = length-values new len in
    let row_length : len ≡ length row = length_from_values words len row is in
    ext_get_or false (values new len) (set row i v)
    (new_length ∙ row_length ∙ sym (length-set row i v))
    (λ k q. let below : k < len = omega arith in
    get_or-values new len k false below ∙ ⊎_elim
    (λ (one : k ≡ i). ap (λ n. value_at new n) one ∙ value_at-set_same words i word v inside replaces ∙ sym (ap (λ n. get_or (set row i v) n false) one ∙ get_or-set_same row i v false h))
    (λ (two : k ≢ i). value_at-set_other words i word v k inside replaces two ∙ sym (get_or-set_other row i k v false two ∙ sym (ap (λ r. get_or r k false) is) ∙ get_or-values words len k false below))
    (cases_eq k i))

-- `read` is the word of the value, as an index gives it, and `word` is written in its place.
pub set_from_values : (words : List ℕ) (len : ℕ) (row : List Bool) (i read word : ℕ) (v : Bool) → values words len ≡ row → IsPacked words len → i < length row → read ≡ get_or words (i / 64) read → ReplacesBit read word (i % 64) v → (values (set words (i / 64) word) len ≡ set row i v) × IsPacked (set words (i / 64) word) len
set_from_values words len row i read word v is packed h read_is replaces_read =
    let inside : i / 64 < length words = word_in_bounds words len row i is packed h in
    let row_length : len ≡ length row = length_from_values words len row is in
    let at : read ≡ get_or words (i / 64) 0 = get_or_read words (i / 64) read inside read_is 0 in
    let replaces : ReplacesBit (get_or words (i / 64) 0) word (i % 64) v = subst (λ (old : ℕ). ReplacesBit old word (i % 64) v) at replaces_read in (
      set_word words len row i word v is packed h replaces,
      record {
        word_count = length-set words (i / 64) word ∙ packed.word_count;
        unused = λ k q. value_at-set_other words i word v k inside replaces (omega arith) ∙ packed.unused k q;
      },
    )

-- A bit is told by its test.
bit_at_from_bit_of : (a b i : ℕ) → bit_of a i ≡ bit_of b i → bit_at a i ≡ bit_at b i
bit_at_from_bit_of a b i same =
    let low_a : bit_at a i < 2 = bit_at-lt a i in
    let low_b : bit_at b i < 2 = bit_at-lt b i in
    grind (arith, nat_tests)

-- Words with the same bits are the same.
pub same_words : (a b : List ℕ) → ((k : ℕ) → get_or a k 0 < 2 ^ 64) → ((k : ℕ) → get_or b k 0 < 2 ^ 64) → length a ≡ length b → ((i : ℕ) → value_at a i ≡ value_at b i) → a ≡ b
same_words a b words_a words_b same_length same =
    ext_get_or 0 a b same_length
    (λ k _. same_from_bits_below 64 (get_or a k 0) (get_or b k 0) (words_a k) (words_b k)
    (λ i h. bit_at_from_bit_of (get_or a k 0) (get_or b k 0) i (bit_of_word k i h)))
  where
    bit_of_word : (k i : ℕ) → i < 64 → bit_of (get_or a k 0) i ≡ bit_of (get_or b k 0) i
    bit_of_word k i h =
        let word : (64 * k + i) / 64 ≡ k = omega arith in
        let place : (64 * k + i) % 64 ≡ i = omega arith in
        let at : value_at a (64 * k + i) ≡ value_at b (64 * k + i) = same (64 * k + i) in
        rw (word, place) at at

-- Rows of one length with the same bits are the same.
pub same_values : (a b : List ℕ) (m n : ℕ) → m ≡ n → ((i : ℕ) → value_at a i ≡ value_at b i) → values a m ≡ values b n
same_values a b m n same_len same =
    ext_get_or false (values a m) (values b n)
    (length-values a m ∙ same_len ∙ sym (length-values b n))
    (λ i h. let below : i < m = omega (arith, length-values a m) in
    get_or-values a m i false below ∙ same i ∙ sym (get_or-values b n i false (omega arith)))

-- The bits of rows that are the same are the same, unused ones too.
pub same_bits_from_values : (a b : List ℕ) (m n : ℕ) → IsPacked a m → IsPacked b n → values a m ≡ values b n → (i : ℕ) → value_at a i ≡ value_at b i
same_bits_from_values a b m n packed_a packed_b same i =
    let same_len : m ≡ n = length_from_values a m (values b n) same ∙ length-values b n in
    ⊎_elim
    (λ (used : i < m). sym (get_or-values a m i false used) ∙ ap (λ row. get_or row i false) same ∙ get_or-values b n i false (omega arith))
    (λ (unused : m ≤ i). packed_a.unused i unused ∙ sym (packed_b.unused i (omega arith)))
    (cases_lt i m)
