-- The rows that are drawn, by the form of the input; and the first bytes of an input have the drawing of the whole.
-- Assumes nothing.
use Rattle.std.specs.Prelude.{ℕ, ◌≤◌, ◌≡◌, refl, List, [], ◌++◌, take, Some, None}
use Rattle.std.proofs.Common.{ap, ap₂}
use Rattle.pgm.specs.Form.{Form, input_limit, Parsed, Answers}
use Rattle.pgm.specs.ParseLaws.{parsed_by, start_parsed}
use Rattle.answer.specs.ProgramLaws.{pictured, line_start}
use Rattle.column.specs.Drawing.{picture_rows, rows_by, program_rows, program_drawing}

-- the rows are those of any r that meets `Answers`
pub rows_by_lem : (input : List ℕ) (r : Parsed) → Answers input r → program_rows input ≡ rows_by r
unfolding program_rows
rows_by_lem input r a = parsed_by rows_by input r a

-- the rows of an input that is a picture are the picture's
pub rows_picture : (input : List ℕ) (w h : ℕ) (f : Form input w h) → program_rows input ≡ picture_rows w h f.pixels
rows_picture input w h f = rows_by_lem input (Some (pictured input w h f)) (record { form = f; after = refl; same = refl })

-- an input that is no picture has no rows
pub rows_other : (input : List ℕ) → Answers input None → program_rows input ≡ []
rows_other input none = rows_by_lem input None none

-- an input and its first 3,614 bytes, or more of them, have the same drawing
pub drawing_start : (input : List ℕ) (m : ℕ) → input_limit ≤ m → program_drawing (take m input) ≡ program_drawing input
unfolding program_rows
drawing_start input m enough =
    ap₂ (λ (l r : List ℕ). l ++ r) (line_start input m enough) (ap rows_by (start_parsed input m enough))
