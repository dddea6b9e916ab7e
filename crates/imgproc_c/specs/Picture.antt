-- Says what the exports of the picture crate promise: each returns the number of the call's answer, and leaves what the
-- call leaves. Definitions only.
use Rattle.std.specs.Prelude.{Ok, Err}
use Rattle.std.specs.Prelude.{ℕ, ◌≡◌, List, length}
use Rattle.image.specs.declared.Geometry.{Geometry}
use Rattle.image.specs.Answers.{Answer, accepted, refused, answer_number, Bare}
use Rattle.image.specs.Layout.{Layout, layout_of, number_of, pixel_layout, row_layout}
use Rattle.image.specs.Pixel.{written_in, Sets}
use Rattle.image.specs.Plane.{overwritten}
use Rattle.image.specs.Row.{row_in}
use Rattle.image.specs.Copy.{copied_in, Packs, Unpacks}

-- the geometry of three numbers
abbrev pub geometry : ℕ → ℕ → ℕ → Geometry
geometry w h s = record { width = w; height = h; stride = s }

-- a write of a pixel returns the number of its answer, and leaves the bytes that the write leaves
pub record SetsNumber (before : List ℕ) (g : Geometry) (x y v number : ℕ) (after : List ℕ) : Type 0 where
  pub answers : number ≡ answer_number (written_in (pixel_layout (length before) g x y))
  pub sets : Sets before g x y v (written_in (pixel_layout (length before) g x y)) after

-- the answer of a copy of a row into room bytes: the row's refusal, else 8 where they are too few
abbrev pub row_room : Layout → ℕ → Answer Bare
row_room (Ok g) room = copied_in (Ok (geometry g.width 1 g.width)) 0 room
row_room (Err e) room = refused (number_of e)

-- the bytes that a copy of a row leaves
abbrev pub row_out : Answer Bare → List ℕ → List ℕ → List ℕ
row_out (accepted v) row held = overwritten 0 row held
row_out (refused n) row held = held

-- a copy of a row returns the number of its answer, and leaves the row in the first bytes
pub record RowCopied (d : List ℕ) (g : Geometry) (y : ℕ) (before : List ℕ) (number : ℕ) (after : List ℕ)
    : Type 0 where
  pub answers : number ≡ answer_number (row_room (row_layout (length d) g y) (length before))
  pub leaves :
      after
      ≡ row_out (row_room (row_layout (length d) g y) (length before)) (row_in (row_layout (length d) g y) d y) before

-- `pack` and `unpack` return the numbers of their answers, and leave the bytes that the copies leave
pub record PacksNumber (src : List ℕ) (g : Geometry) (at : ℕ) (before : List ℕ) (number : ℕ) (after : List ℕ)
    : Type 0 where
  pub answers : number ≡ answer_number (copied_in (layout_of (length src) g) at (length before))
  pub packs : Packs src g at before (copied_in (layout_of (length src) g) at (length before)) after

pub record UnpacksNumber (ws : List ℕ) (at : ℕ) (before : List ℕ) (g : Geometry) (number : ℕ) (after : List ℕ)
    : Type 0 where
  pub answers : number ≡ answer_number (copied_in (layout_of (length before) g) at (length ws))
  pub unpacks : Unpacks ws at before g (copied_in (layout_of (length before) g) at (length ws)) after
