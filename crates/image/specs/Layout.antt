-- The layout of a picture in a slice: when it is refused, and with which number. Definitions only.
use Rattle.std.specs.Prelude.{ℕ, ◌+◌, ◌-◌, ◌*◌, ◌≤◌, ◌<◌, Bool, cond, ◌&&◌, ◌||◌, List, [], ◌∷◌, ltb, eqb, Result, Ok, Err}
use Rattle.image.specs.declared.Geometry.{Geometry}
use Rattle.image.specs.declared.LumaError.{LumaError}
use Rattle.image.specs.declared.LumaError.TheVariants.{
  EmptyDimensions,
  StrideTooSmall,
  BufferTooSmall,
  SideTooLarge,
  OutsidePicture,
}
use Rattle.image.specs.Answers.{Condition, Answer, answered}

-- the largest side
abbrev pub side_limit : ℕ
side_limit = 4096

-- the most pixels that a picture has
abbrev pub area_limit : ℕ
area_limit = side_limit * side_limit

-- how many bytes a slice needs: the last row needs no padding
abbrev pub needed_length : Geometry → ℕ
needed_length g = g.stride * (g.height - 1) + g.width

-- what a layout is refused for, in this order: a zero side; a stride below the width; a slice under the needed length;
-- a side above the limit
abbrev pub layout_conditions : ℕ → Geometry → List (Condition LumaError)
layout_conditions len g =
    record { fits = eqb g.width 0 || eqb g.height 0; refusal = EmptyDimensions } ∷
    record { fits = ltb g.stride g.width; refusal = StrideTooSmall } ∷
    record { fits = ltb len (needed_length g); refusal = BufferTooSmall } ∷
    record { fits = ltb side_limit g.width || ltb side_limit g.height; refusal = SideTooLarge } ∷
    []

-- a checked layout: the geometry, or why it is refused
abbrev pub Layout : Type 0
Layout = Result Geometry LumaError

-- the layout of g by a list of conditions: the first refusal that fits, or the geometry
abbrev pub layout_by : Geometry → List (Condition LumaError) → Layout
layout_by g [] = Ok g
layout_by g (c ∷ cs) = cond c.fits (Err c.refusal) (layout_by g cs)

-- the layout of g in a slice of len bytes
unfoldable pub layout_of : ℕ → Geometry → Layout
layout_of len g = layout_by g (layout_conditions len g)

-- the layout when a place in it is asked for: its own refusal first, then OutsidePicture where the place is not inside
abbrev pub asked_for : Layout → Bool → Layout
asked_for (Ok g) inside = cond inside (Ok g) (Err OutsidePicture)
asked_for (Err e) inside = Err e

-- the layout when pixel (x, y) is asked for
abbrev pub pixel_layout : ℕ → Geometry → ℕ → ℕ → Layout
pixel_layout len g x y = asked_for (layout_of len g) (ltb x g.width && ltb y g.height)

-- the layout when row y is asked for
abbrev pub row_layout : ℕ → Geometry → ℕ → Layout
row_layout len g y = asked_for (layout_of len g) (ltb y g.height)

-- the number that document 01 has for each refusal
abbrev pub number_of : LumaError → ℕ
number_of EmptyDimensions = 1
number_of StrideTooSmall = 2
number_of BufferTooSmall = 3
number_of SideTooLarge = 4
number_of OutsidePicture = 9

-- what a layout says: the geometry, or the number of the refusal
abbrev pub layout_answer : Layout → Answer Geometry
layout_answer = answered number_of

-- what holds of the numbers of a valid layout
pub record Kept (len : ℕ) (g : Geometry) : Type 0 where
  pub wide : 0 < g.width
  pub high : 0 < g.height
  pub stride : g.width ≤ g.stride
  pub fits : needed_length g ≤ len
  pub small_width : g.width ≤ side_limit
  pub small_height : g.height ≤ side_limit
