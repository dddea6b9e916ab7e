-- The bytes of a record: its mark, and then its fields in their order. Definitions only.
use Rattle.std.specs.Prelude.{ℕ, ◌^◌, Bool, true, ◌&&◌, List, [], ◌∷◌, ◌++◌, ltb, length, take, drop}
use Rattle.std.specs.Int.{Width, w16, w32, byte_len, to_be_bytes, from_be_bytes}
use Rattle.records.specs.declared.record.Record.{Record}

-- a field of a record: which number stands there, how that number is put into a record, and how many bits it has
pub record Field : Type 0 where
  pub number : Record → ℕ
  pub put : ℕ → Record → Record
  pub width : Width

-- the fields in their order
abbrev pub fields : List Field
fields =
    record { number = λ r. r.flask; put = λ n r. record r { flask = n }; width = w32 } ∷
    record { number = λ r. r.pass; put = λ n r. record r { pass = n }; width = w16 } ∷
    record { number = λ r. r.width; put = λ n r. record r { width = n }; width = w16 } ∷
    record { number = λ r. r.height; put = λ n r. record r { height = n }; width = w16 } ∷
    record { number = λ r. r.dark; put = λ n r. record r { dark = n }; width = w32 } ∷
    record { number = λ r. r.light; put = λ n r. record r { light = n }; width = w32 } ∷
    record { number = λ r. r.skipped; put = λ n r. record r { skipped = n }; width = w32 } ∷
    record { number = λ r. r.comparisons; put = λ n r. record r { comparisons = n }; width = w32 } ∷
    []

-- the letter "R", hexadecimal 52
abbrev pub mark_letter : ℕ
mark_letter = 82

-- the digit "1", hexadecimal 31
abbrev pub mark_digit : ℕ
mark_digit = 49

-- the two bytes that a record begins with
abbrev pub mark : List ℕ
mark = mark_letter ∷ mark_digit ∷ []

-- the bytes of fields, one after another, each with its highest byte first
unfoldable pub spelled : List Field → Record → List ℕ
spelled [] r = []
spelled (f ∷ fs) r = to_be_bytes f.width (f.number r) ++ spelled fs r

-- the bytes of a record
unfoldable pub encoded : Record → List ℕ
unfolding spelled
encoded r = mark ++ spelled fields r

-- a record with the numbers of fields that stand at the start of bytes, one after another
unfoldable pub filled : List Field → List ℕ → Record → Record
filled [] d r = r
filled (f ∷ fs) d r =
    filled fs (drop (byte_len f.width) d) (f.put (from_be_bytes f.width (take (byte_len f.width) d)) r)

-- a record of zeros, of which no number stays
abbrev pub blank : Record
blank = record {
  flask = 0;
  pass = 0;
  width = 0;
  height = 0;
  dark = 0;
  light = 0;
  skipped = 0;
  comparisons = 0;
}

-- the record that bytes hold after their mark
unfoldable pub decoded : List ℕ → Record
unfolding filled
decoded d = filled fields (drop (length mark) d) blank

-- how many bytes a record has
abbrev pub record_bytes : ℕ
record_bytes = 28

-- each number of a record fits its field
unfoldable pub all_fit : List Field → Record → Bool
all_fit [] r = true
all_fit (f ∷ fs) r = ltb (f.number r) (256 ^ byte_len f.width) && all_fit fs r
