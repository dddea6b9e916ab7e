-- What follows from the contracts: a record that was written comes back; bytes that are read are those of the record,
-- so no record has two encodings; the bytes after the first 28 do not matter and are not changed; and an accepted
-- reading always gives a record that can be written. Assumes nothing.
use Rattle.std.specs.Prelude.{
  ℕ,
  ◌+◌,
  ◌^◌,
  ◌≤◌,
  ◌<◌,
  ◌≡◌,
  refl,
  Bool,
  true,
  false,
  not,
  cond,
  List,
  ◌∷◌,
  ◌++◌,
  ltb,
  length,
  get_or,
  take,
  drop,
}
use Rattle.std.proofs.Common.{
  arith,
  sym,
  ap,
  subst,
  ◌∙◌,
  lt-ltb,
  le-ltb,
  ltb-false,
  length-append,
  length-take-le,
  take-append-drop,
}
use Rattle.std.proofs.lemmas.Bool.{not-false}
use Rattle.std.proofs.Math.ListN.{get_or-append}
use Rattle.image.specs.Answers.{Answer, accepted, refused, Bare, bare, values_out, answer_to}
use Rattle.image.specs.Plane.{overwritten}
use Rattle.image.specs.PlaneLaws.{length-overwritten, overwritten_after}
use Rattle.image.specs.LayoutLaws.{sides_small}
use Rattle.image.specs.RefusedExactly.{NoneFits, next, differ, exactly}
use Rattle.image.specs.AnswerLaws.{accepted_is, first_accepts}
use Rattle.imgproc.specs.ReadingMeans.{AcceptedReading, pair, add_up, compared}
use Rattle.records.specs.declared.RecordError.TheVariants.{NoRecord}
use Rattle.records.specs.declared.record.Record.{Record}
use Rattle.records.specs.Format.{encoded, decoded, record_bytes}
use Rattle.records.specs.Refusals.{
  numbers,
  value_conditions,
  too_short,
  marked,
  write_conditions,
  read_conditions,
  fitting,
}
use Rattle.records.specs.Calls.{Writes, read_from, made_of, kept_of}
use Rattle.records.specs.FormatLaws.{Bytes, Fits, length-encoded, decoded_encoded, decoded_followed, encoded_decoded}
use Rattle.records.specs.RefusalLaws.{GoodValues, none_say, values_good, fit_where}

-- ---- bytes that are read

-- bytes from which a record is read are long enough, have the mark and hold the record, whose values are good
pub record HoldsRecord (d : List ℕ) (r : Record) : Type 0 where
  pub long : record_bytes ≤ length d
  pub begins : marked d ≡ true
  pub is : decoded d ≡ r
  pub good : GoodValues r

pub holds : (d : List ℕ) (r : Record) → read_from d ≡ accepted r → HoldsRecord d r
holds d r p =
    let cs = numbers (read_conditions d) in
    let is = accepted_is cs (decoded d) r p in
    go is ((exactly (decoded d) cs refl).accepted_exactly.0 (p ∙ ap (λ (x : Record). accepted x) (sym is)))
  where
    go : decoded d ≡ r → NoneFits (numbers (read_conditions d)) → HoldsRecord d r
    go is (next short (next mark values)) = record {
      long = ltb-false (length d) record_bytes short;
      begins = not-false (marked d) mark;
      is = is;
      good = none_say r (subst (λ (x : Record). NoneFits (numbers (value_conditions x))) is values);
    }

-- and such bytes are read
pub is_read : (d : List ℕ) (r : Record) → HoldsRecord d r → read_from d ≡ accepted r
unfolding answer_to
is_read d r h =
    ap
    (λ (x : Record).
    answer_to
    (numbers (too_short d ++ (record { fits = not (marked d); refusal = NoRecord } ∷ value_conditions x)))
    x)
    h.is
    ∙ rw (le-ltb (length d) record_bytes h.long, h.begins) (sym (values_good r h.good r))

-- the first bytes of bytes from which a record is read are the bytes of the record
pub bytes_of_read : (d : List ℕ) (r : Record) → Bytes d → read_from d ≡ accepted r → take record_bytes d ≡ encoded r
bytes_of_read d r b p =
    let h = holds d r p in sym (encoded_decoded d b h.long h.begins) ∙ ap encoded h.is

-- so each record that is read has just one encoding
pub one_encoding : (d e : List ℕ) (r : Record) → Bytes d → Bytes e → read_from d ≡ accepted r → read_from e ≡ accepted r
    → take record_bytes d ≡ take record_bytes e
one_encoding d e r b c p q = bytes_of_read d r b p ∙ sym (bytes_of_read e r c q)

-- a longer slice is read as its first 28 bytes are
pub first_read : (d : List ℕ) → record_bytes ≤ length d → read_from d ≡ read_from (take record_bytes d)
unfolding answer_to
first_read d l =
    let n = length-take-le record_bytes d l in
    ap read_from (sym (take-append-drop record_bytes d))
    ∙ followed (take record_bytes d) (drop record_bytes d) (omega arith)
  where
    followed : (d rest : List ℕ) → record_bytes ≤ length d → read_from (d ++ rest) ≡ read_from d
    followed d rest l =
        let n = length-append d rest in
        rw (
          le-ltb (length (d ++ rest)) record_bytes (omega arith),
          le-ltb (length d) record_bytes l,
          get_or-append d rest 0 0 (omega arith),
          get_or-append d rest 0 1 (omega arith),
          decoded_followed d rest l,
        )

-- ---- a record that is written

-- a record with good values is written wherever there is room for it
pub is_written : {r : Record} {before after : List ℕ} {answer : Answer Bare} → Writes r before answer after
    → GoodValues r → record_bytes ≤ length before → answer ≡ accepted bare
unfolding answer_to
is_written {r} {before} writes g l =
    writes.answers ∙ rw (le-ltb (length before) record_bytes l) (sym (values_good r g bare))

module _ {r : Record} {before after : List ℕ} (written : Writes r before (accepted bare) after) where
  none_fits : NoneFits (numbers (write_conditions r before))
  none_fits = (exactly bare (numbers (write_conditions r before)) refl).accepted_exactly.0 (sym written.answers)

  -- its values are good
  pub good_written : GoodValues r
  good_written = go none_fits
    where
      go : NoneFits (numbers (write_conditions r before)) → GoodValues r
      go (next short values) = none_say r values

  -- the destination has room for it
  pub room : record_bytes ≤ length before
  room = go none_fits
    where
      go : NoneFits (numbers (write_conditions r before)) → record_bytes ≤ length before
      go (next short values) = ltb-false (length before) record_bytes short

  -- and holds its bytes at the start
  pub left_is : after ≡ overwritten 0 (encoded r) before
  left_is =
      let bytes = overwritten 0 (encoded r) before in
      written.leaves
      ∙ ap (λ (a : Answer (List ℕ)). values_out a before)
      ((exactly bytes (numbers (write_conditions r before)) refl).accepted_exactly.1 none_fits)

  -- the destination keeps its length, and every byte after the first 28
  pub same_length : length after ≡ length before
  same_length =
      let n = length-encoded r in
      ap length left_is ∙ length-overwritten 0 (encoded r) before (omega (arith, room))

  pub later_kept : (i : ℕ) → record_bytes ≤ i → get_or after i 0 ≡ get_or before i 0
  later_kept i l =
      let n = length-encoded r in
      ap (λ (d : List ℕ). get_or d i 0) left_is
      ∙ overwritten_after 0 (encoded r) before (omega (arith, room)) i (omega arith)

  -- a record that is written comes back
  pub comes_back : Fits r → read_from after ≡ accepted r
  unfolding encoded
  comes_back s = is_read after r (record {
    long = omega (arith, room, same_length);
    begins = ap marked left_is ∙ begins;
    is = ap decoded left_is ∙ decoded_encoded r (drop (0 + length (encoded r)) before) s;
    good = good_written;
  })
    where
      begins : marked (overwritten 0 (encoded r) before) ≡ true
      begins = refl

-- ---- the record of an accepted reading, for any flask and pass

module _ (a : AcceptedReading) (flask pass : ℕ) where
  abbrev pub kept : Record
  kept = kept_of flask pass a.lent.source a.numbers

  -- its values are good
  pub kept_good : GoodValues kept
  kept_good = let g = (pair a).from in record {
    some_width = g.wide;
    small_width = g.small_width;
    some_height = g.high;
    small_height = g.small_height;
    sums = add_up a;
  }

  -- its numbers fit their fields, where the flask and the pass do
  pub kept_fits : flask < 2 ^ 32 → pass < 2 ^ 16 → Fits kept
  kept_fits f p =
      let small = sides_small kept.width kept.height kept_good.small_width kept_good.small_height in
      fit_where kept kept_good f p ∙ lt-ltb a.numbers.comparisons (2 ^ 32) (omega (arith, (compared a).1))

  -- so it is always made
  pub always_made : flask < 2 ^ 32 → pass < 2 ^ 16 → made_of kept ≡ accepted kept
  unfolding answer_to
  always_made f p =
      first_accepts (numbers (value_conditions kept)) (numbers (fitting kept)) bare kept (values_good kept kept_good bare)
      ∙ rw (kept_fits f p)

  -- and a write never refuses it with 14
  pub never_bad : {before after : List ℕ} {answer : Answer Bare} → Writes kept before answer after
      → answer ≡ refused 14 → ⊥
  unfolding answer_to
  never_bad {before} writes p =
      let short = ltb (length before) record_bytes in
      go short
      (sym p
      ∙ writes.answers
      ∙ ap (λ (a : Answer Bare). cond short (refused 13) a) (sym (values_good kept kept_good bare)))
    where
      go : (f : Bool) → refused 14 ≡ cond f (refused 13) (accepted bare) → ⊥
      go true q = let z : ◌≡◌ {A = ℕ} 14 13 = cc in absurd (omega arith)
      go false q = differ bare (sym q)
