-- The picture that an input is, as a function that computes. Definitions only.
use Rattle.std.specs.Prelude.{ℕ, zero, suc, ◌+◌, ◌*◌, ◌/◌, ◌%◌, Bool, true, false, cond, ◌&&◌, List, [], ◌∷◌, eqb, length, drop, Some, None}
use Rattle.pgm.specs.Form.{side_limit, header, PictureFound, Parsed, found_answer}
use Rattle.image.specs.Answers.{Answer}

-- whether the bytes begin with a text
abbrev pub begins : List ℕ → List ℕ → Bool
begins [] bytes = true
begins (x ∷ text) [] = false
begins (x ∷ text) (b ∷ bytes) = eqb b x && begins text bytes

-- whether the input is a picture of w by h: the header, and then one byte for each pixel
abbrev pub formed : List ℕ → ℕ → ℕ → Bool
formed input w h = eqb (length input) (length (header w h) + w * h) && begins (header w h) input

-- how many values a side can have: from 0 to the limit
abbrev pub sides : ℕ
sides = side_limit + 1

-- the picture of w by h that an input with its header is: its pixels are what follows the header
abbrev pub headed_by : List ℕ → ℕ → ℕ → PictureFound
headed_by input w h =
    let start = length (header w h) in record { width = w; height = h; start = start; pixels = drop start input }

-- tries the first n pairs of sides, the last first: the picture of the pair of which the input is one, or none. The pair
-- (w, h) is number w × 61 + h
unfoldable pub sought : List ℕ → ℕ → Parsed
sought input zero = None
sought input (suc n) =
    let w = n / sides in
    let h = n % sides in cond (formed input w h) (Some (headed_by input w h)) (sought input n)

-- the picture that the input is; none where there is no such picture
unfoldable pub parsed_of : List ℕ → Parsed
unfolding sought
parsed_of input = sought input (sides * sides)

-- the answer of `parse` to an input
abbrev pub parsed_from : List ℕ → Answer PictureFound
parsed_from input = found_answer (parsed_of input)
