-- A worked record, of which no two fields are equal, and its 28 bytes: antt evaluates each definition and finds the
-- other. Assumes nothing.
use Rattle.std.specs.Prelude.{◌≡◌, refl, ℕ, List, [], ◌∷◌}
use Rattle.image.specs.Answers.{accepted, answer_to}
use Rattle.records.specs.declared.record.Record.{Record}
use Rattle.records.specs.Format.{spelled, encoded, filled, decoded, all_fit}
use Rattle.records.specs.Calls.{read_from, made_of}

abbrev pub worked : Record
worked = record {
  flask = 16909060;
  pass = 1286;
  width = 1800;
  height = 2314;
  dark = 723981;
  light = 921360;
  skipped = 2519859;
  comparisons = 2712847316;
}

-- its bytes, hexadecimal: the mark 52 31; the flask 01 02 03 04; the pass 05 06; the width 07 08; the height 09 0A;
-- dark 00 0B 0C 0D; light 00 0E 0F 10; skipped 00 26 73 33; the comparisons A1 B2 C3 D4
abbrev pub worked_bytes : List ℕ
worked_bytes =
    82 ∷ 49 ∷
    1 ∷ 2 ∷ 3 ∷ 4 ∷
    5 ∷ 6 ∷
    7 ∷ 8 ∷
    9 ∷ 10 ∷
    0 ∷ 11 ∷ 12 ∷ 13 ∷
    0 ∷ 14 ∷ 15 ∷ 16 ∷
    0 ∷ 38 ∷ 115 ∷ 51 ∷
    161 ∷ 178 ∷ 195 ∷ 212 ∷
    []

pub worked_encoded : encoded worked ≡ worked_bytes
unfolding encoded spelled
worked_encoded = refl

pub worked_decoded : decoded worked_bytes ≡ worked
unfolding decoded filled
worked_decoded = refl

-- it is read, and it is made of its numbers
pub worked_read : read_from worked_bytes ≡ accepted worked
unfolding answer_to decoded filled
worked_read = refl

pub worked_made : made_of worked ≡ accepted worked
unfolding answer_to all_fit
worked_made = refl
