-- Worked lines of the program, as one table that antt evaluates. Assumes nothing.
use Rattle.std.specs.Prelude.{◌≡◌, refl, List, [], ◌∷◌}
use Rattle.image.specs.Plane.{plane}
use Rattle.imgproc.specs.Reading.{reading_of}
use Rattle.pgm.specs.Decimal.{decimal}
use Rattle.pgm.specs.Examples.{Case, ◌gives◌, wrong}
use Rattle.pgm.specs.Parse.{sought, parsed_of}
use Rattle.answer.specs.Program.{program_line}

unfoldable pub cases : List Case
cases =
    -- document 01's picture, "P5 2 1 255" and the bytes 0 and 200: "2 1 0 0 2 24"
    (program_line (80 ∷ 53 ∷ 32 ∷ 50 ∷ 32 ∷ 49 ∷ 32 ∷ 50 ∷ 53 ∷ 53 ∷ 10 ∷ 0 ∷ 200 ∷ [])
    gives (50 ∷ 32 ∷ 49 ∷ 32 ∷ 48 ∷ 32 ∷ 48 ∷ 32 ∷ 50 ∷ 32 ∷ 50 ∷ 52 ∷ 10 ∷ [])) ∷
    -- "P5 0 5 255": "refused 1"
    (program_line (80 ∷ 53 ∷ 32 ∷ 48 ∷ 32 ∷ 53 ∷ 32 ∷ 50 ∷ 53 ∷ 53 ∷ 10 ∷ [])
    gives (114 ∷ 101 ∷ 102 ∷ 117 ∷ 115 ∷ 101 ∷ 100 ∷ 32 ∷ 49 ∷ 10 ∷ [])) ∷
    -- the first picture without its last byte, and with one more: "refused 11"
    (program_line (80 ∷ 53 ∷ 32 ∷ 50 ∷ 32 ∷ 49 ∷ 32 ∷ 50 ∷ 53 ∷ 53 ∷ 10 ∷ 0 ∷ [])
    gives (114 ∷ 101 ∷ 102 ∷ 117 ∷ 115 ∷ 101 ∷ 100 ∷ 32 ∷ 49 ∷ 49 ∷ 10 ∷ [])) ∷
    (program_line (80 ∷ 53 ∷ 32 ∷ 50 ∷ 32 ∷ 49 ∷ 32 ∷ 50 ∷ 53 ∷ 53 ∷ 10 ∷ 0 ∷ 200 ∷ 0 ∷ [])
    gives (114 ∷ 101 ∷ 102 ∷ 117 ∷ 115 ∷ 101 ∷ 100 ∷ 32 ∷ 49 ∷ 49 ∷ 10 ∷ [])) ∷
    -- an empty input: "refused 11"
    (program_line [] gives (114 ∷ 101 ∷ 102 ∷ 117 ∷ 115 ∷ 101 ∷ 100 ∷ 32 ∷ 49 ∷ 49 ∷ 10 ∷ [])) ∷
    []

-- no case is wrong
pub cases_hold : wrong 1 cases ≡ []
unfolding cases reading_of decimal program_line parsed_of sought plane
cases_hold = refl
