-- What is refused, and with which number: each call has a list of conditions, and the first that fits counts.
-- Definitions only.
use Rattle.std.specs.Prelude.{ℕ, ◌+◌, ◌*◌, Bool, not, ◌&&◌, ◌||◌, List, [], ◌∷◌, ◌++◌, ltb, eqb, length, get_or}
use Rattle.image.specs.Answers.{Condition, numbered}
use Rattle.imgproc.specs.GridCalls.{bad_side}
use Rattle.records.specs.declared.RecordError.{RecordError}
use Rattle.records.specs.declared.RecordError.TheVariants.{NoRecord, BadRecord}
use Rattle.records.specs.declared.record.Record.{Record}
use Rattle.records.specs.Format.{fields, mark_letter, mark_digit, record_bytes, decoded, all_fit}

-- the number of each refusal
abbrev pub record_number : RecordError → ℕ
record_number NoRecord = 13
record_number BadRecord = 14

-- the conditions of a call, in the order in which they count
abbrev pub Conditions : Type 0
Conditions = List (Condition RecordError)

-- a list of conditions by its numbers
abbrev pub numbers : Conditions → List (Condition ℕ)
numbers cs = numbered record_number cs

-- the counts add up to the picture's pixels
abbrev pub adds_up : Record → Bool
adds_up r = eqb (r.dark + r.light + r.skipped) (r.width * r.height)

-- the values of a record: a side outside 1..4,096; counts that do not add up to width × height
abbrev pub value_conditions : Record → Conditions
value_conditions r =
    record { fits = bad_side r.width || bad_side r.height; refusal = BadRecord } ∷
    record { fits = not (adds_up r); refusal = BadRecord } ∷
    []

-- a slice that is shorter than a record
abbrev pub too_short : List ℕ → Conditions
too_short d = record { fits = ltb (length d) record_bytes; refusal = NoRecord } ∷ []

-- the bytes begin with the mark
abbrev pub marked : List ℕ → Bool
marked d = eqb (get_or d 0 0) mark_letter && eqb (get_or d 1 0) mark_digit

-- a write: a destination that is too short; the values
abbrev pub write_conditions : Record → List ℕ → Conditions
write_conditions r before = too_short before ++ value_conditions r

-- a read: bytes that are too few; another mark; the values that the bytes hold
abbrev pub read_conditions : List ℕ → Conditions
read_conditions d =
    too_short d ++
    (record { fits = not (marked d); refusal = NoRecord } ∷
    value_conditions (decoded d))

-- a number that does not fit its field
abbrev pub fitting : Record → Conditions
fitting r = record { fits = not (all_fit fields r); refusal = BadRecord } ∷ []

-- making a record of numbers: the values; the fields
abbrev pub make_conditions : Record → Conditions
make_conditions r = value_conditions r ++ fitting r
