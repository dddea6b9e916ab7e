-- The two definitions of the bytes undo each other: a record whose numbers fit is decoded from its bytes, and bytes
-- with the mark are those of the record that they hold. Assumes nothing.
use Rattle.std.specs.Prelude.{
  ℕ,
  zero,
  suc,
  ◌+◌,
  ◌^◌,
  ◌≤◌,
  ◌<◌,
  ◌≡◌,
  refl,
  true,
  List,
  [],
  ◌∷◌,
  ◌++◌,
  ltb,
  eqb,
  length,
  get_or,
  take,
  drop,
}
use Rattle.std.specs.Int.{Width, w16, w32, byte_len, to_be_bytes, from_be_bytes}
use Rattle.std.proofs.Common.{arith, sym, ap, ap₂, ◌∙◌, ltb-true, eqb-true, append_assoc, length-drop, length-take-le}
use Rattle.std.proofs.Math.Seq.{take-add}
use Rattle.std.proofs.lemmas.List.{take_at, drop_at, get_or-drop, take-append-le, drop-append-le}
use Rattle.std.proofs.lemmas.Nat.{be_bytes_2, be_bytes_4, from_be_bytes-to_be_bytes_2, from_be_bytes-to_be_bytes_4}
use Rattle.image.specs.LayoutLaws.{both}
use Rattle.records.specs.declared.record.Record.{Record}
use Rattle.records.specs.Format.{
  Field,
  fields,
  mark_letter,
  mark_digit,
  mark,
  spelled,
  encoded,
  filled,
  blank,
  decoded,
  record_bytes,
  all_fit,
}
use Rattle.records.specs.Refusals.{marked}

-- each number of a list is a byte
abbrev pub Bytes : List ℕ → Type 0
Bytes d = (i : ℕ) → get_or d i 0 < 256

-- each number of a record fits its field, as the types of a Record say
abbrev pub Fits : Record → Type 0
Fits r = all_fit fields r ≡ true

-- ---- one field

-- the numbers of a width and its bytes turn into each other
record Turns (w : Width) : Type 0 where
  long : (n : ℕ) → length (to_be_bytes w n) ≡ byte_len w
  there : (n : ℕ) → n < 256 ^ byte_len w → from_be_bytes w (to_be_bytes w n) ≡ n
  back : (d : List ℕ) → length d ≡ byte_len w → Bytes d → to_be_bytes w (from_be_bytes w d) ≡ d

turns_16 : Turns w16
turns_16 = record {
  long = λ n. refl;
  there = λ n s. from_be_bytes-to_be_bytes_2 n s;
  back = λ d l b. be_bytes_2 d _ l b refl;
}

turns_32 : Turns w32
turns_32 = record {
  long = λ n. refl;
  there = λ n s. from_be_bytes-to_be_bytes_4 n s;
  back = λ d l b. be_bytes_4 d _ l b refl;
}

-- ---- a list of fields

-- the widths of a list all turn so
abbrev AllTurn : List Field → Type 0
AllTurn [] = Unit
AllTurn (f ∷ fs) = Turns f.width × AllTurn fs

-- the bytes that a list takes
abbrev total : List Field → ℕ
total [] = 0
total (f ∷ fs) = byte_len f.width + total fs

-- the numbers of fields that stand at the start of bytes
abbrev numbers_in : List Field → List ℕ → List ℕ
numbers_in [] d = []
numbers_in (f ∷ fs) d =
    from_be_bytes f.width (take (byte_len f.width) d) ∷ numbers_in fs (drop (byte_len f.width) d)

-- a record with some numbers put into the fields of a list
abbrev with_numbers : List Field → List ℕ → Record → Record
with_numbers [] ns r = r
with_numbers (f ∷ fs) [] r = r
with_numbers (f ∷ fs) (n ∷ ns) r = with_numbers fs ns (f.put n r)

-- filling a record puts those numbers in
filled_with : (fs : List Field) (d : List ℕ) (r : Record) → filled fs d r ≡ with_numbers fs (numbers_in fs d) r
unfolding filled
filled_with [] d r = refl
filled_with (f ∷ fs) d r =
    filled_with fs (drop (byte_len f.width) d) (f.put (from_be_bytes f.width (take (byte_len f.width) d)) r)

-- the numbers of a record, by a list
abbrev numbers_by : List Field → Record → List ℕ
numbers_by [] r = []
numbers_by (f ∷ fs) r = f.number r ∷ numbers_by fs r

-- bytes after some of them are bytes
bytes_drop : (n : ℕ) (d : List ℕ) → Bytes d → Bytes (drop n d)
bytes_drop n d b i = rw (get_or-drop n d i 0) (b (n + i))

-- and so are the first of them
bytes_take : (n : ℕ) (d : List ℕ) → Bytes d → Bytes (take n d)
bytes_take zero d b i = omega arith
bytes_take (suc n) [] b i = omega arith
bytes_take (suc n) (x ∷ d) b zero = b 0
bytes_take (suc n) (x ∷ d) b (suc i) = bytes_take n d (λ j. b (suc j)) i

-- the fields of a record that fit are found in their bytes, whatever follows them
found : (fs : List Field) (r : Record) (rest : List ℕ) → AllTurn fs → all_fit fs r ≡ true
    → numbers_in fs (spelled fs r ++ rest) ≡ numbers_by fs r
unfolding spelled all_fit
found [] r rest t s = refl
found (f ∷ fs) r rest t s =
    let n = f.number r in
    let k = byte_len f.width in
    let bytes = to_be_bytes f.width n in
    let here = both (ltb n (256 ^ k)) (all_fit fs r) s in
    let on = append_assoc bytes (spelled fs r) rest in
    ap₂ (λ (m : ℕ) (ms : List ℕ). m ∷ ms)
    (ap (λ (d : List ℕ). from_be_bytes f.width (take k d)) on
    ∙ ap (λ (d : List ℕ). from_be_bytes f.width d) (take_at bytes (spelled fs r ++ rest) k (t.0.long n))
    ∙ t.0.there n (ltb-true n (256 ^ k) here.0))
    (ap (λ (d : List ℕ). numbers_in fs (drop k d)) on
    ∙ ap (numbers_in fs) (drop_at bytes (spelled fs r ++ rest) k (t.0.long n))
    ∙ found fs r rest t.1 here.1)

-- the fields of a record that has the numbers of some bytes are spelled by these bytes
respelled : (fs : List Field) (r : Record) (d : List ℕ) → AllTurn fs → Bytes d → total fs ≤ length d
    → numbers_by fs r ≡ numbers_in fs d → spelled fs r ≡ take (total fs) d
unfolding spelled
respelled [] r d t b l e = refl
respelled (f ∷ fs) r d t b l e =
    let k = byte_len f.width in
    let first = ap (λ (ms : List ℕ). get_or ms 0 0) e in
    let others = ap (λ (ms : List ℕ). drop 1 ms) e in
    let rest = length-drop k d in
    ap₂ (λ (a c : List ℕ). a ++ c)
    (ap (to_be_bytes f.width) first ∙ t.0.back (take k d) (length-take-le k d (omega arith)) (bytes_take k d b))
    (respelled fs r (drop k d) t.1 (bytes_drop k d b) (omega arith) others)
    ∙ sym (take-add k (total fs) d)

-- what follows the bytes of a list does not matter
followed : (fs : List Field) (d rest : List ℕ) → total fs ≤ length d → numbers_in fs (d ++ rest) ≡ numbers_in fs d
followed [] d rest l = refl
followed (f ∷ fs) d rest l =
    let k = byte_len f.width in
    let left = length-drop k d in
    ap₂ (λ (m : ℕ) (ms : List ℕ). m ∷ ms)
    (ap (λ (bs : List ℕ). from_be_bytes f.width bs) (take-append-le k d rest (omega arith)))
    (ap (numbers_in fs) (drop-append-le k d rest (omega arith)) ∙ followed fs (drop k d) rest (omega arith))

-- ---- the fields of a record

turn : AllTurn fields
turn = (turns_32, (turns_16, (turns_16, (turns_16, (turns_32, (turns_32, (turns_32, (turns_32, tt))))))))

-- a record with the numbers of another is this other
same_record : (r : Record) → with_numbers fields (numbers_by fields r) blank ≡ r
same_record r = refl

-- and the numbers of a record that was filled are those that stand in the bytes
same_numbers : (d : List ℕ) → numbers_by fields (filled fields d blank) ≡ numbers_in fields d
unfolding filled
same_numbers d = refl

-- a record has 28 bytes
pub length-encoded : (r : Record) → length (encoded r) ≡ record_bytes
unfolding encoded spelled
length-encoded r = refl

-- a record whose numbers fit is decoded from its bytes, whatever follows them
pub decoded_encoded : (r : Record) (rest : List ℕ) → Fits r → decoded (encoded r ++ rest) ≡ r
unfolding encoded decoded
decoded_encoded r rest s =
    filled_with fields (spelled fields r ++ rest) blank
    ∙ ap (λ (ns : List ℕ). with_numbers fields ns blank) (found fields r rest turn s)
    ∙ same_record r

-- what follows 28 bytes does not matter
pub decoded_followed : (d rest : List ℕ) → record_bytes ≤ length d → decoded (d ++ rest) ≡ decoded d
unfolding decoded
decoded_followed d rest l =
    let k = length mark in
    let left = length-drop k d in
    filled_with fields (drop k (d ++ rest)) blank
    ∙ ap
    (λ (ns : List ℕ). with_numbers fields ns blank)
    (ap (numbers_in fields) (drop-append-le k d rest (omega arith)) ∙ followed fields (drop k d) rest (omega arith))
    ∙ sym (filled_with fields (drop k d) blank)

-- bytes with the mark are those of the record that they hold
pub encoded_decoded : (d : List ℕ) → Bytes d → record_bytes ≤ length d → marked d ≡ true
    → encoded (decoded d) ≡ take record_bytes d
unfolding encoded decoded
encoded_decoded d b l m =
    let p = both (eqb (get_or d 0 0) mark_letter) (eqb (get_or d 1 0) mark_digit) m in
    let k = length mark in
    let rest = length-drop k d in
    ap₂ (λ (a c : List ℕ). a ++ c)
    (sym (marks d l (eqb-true (get_or d 0 0) mark_letter p.0) (eqb-true (get_or d 1 0) mark_digit p.1)))
    (respelled fields (filled fields (drop k d) blank) (drop k d) turn (bytes_drop k d b) (omega arith)
    (same_numbers (drop k d)))
    ∙ sym (take-add k (total fields) d)
  where
    marks : (d : List ℕ) → record_bytes ≤ length d → get_or d 0 0 ≡ mark_letter → get_or d 1 0 ≡ mark_digit
        → take (length mark) d ≡ mark
    marks [] l p q = absurd (omega arith)
    marks (x ∷ []) l p q = absurd (omega arith)
    marks (x ∷ y ∷ d) l p q = ap₂ (λ (a c : ℕ). a ∷ c ∷ []) p q
