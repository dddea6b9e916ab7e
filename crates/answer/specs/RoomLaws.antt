-- A picture of the accepted form with no zero side is read with the program's buffers and never refused; one with a
-- zero side is refused as empty whatever is lent; and with any buffers none is refused for the count buffer. Assumes
-- nothing.
use Rattle.std.specs.Prelude.{ℕ, ◌+◌, ◌-◌, ◌*◌, ◌/◌, ◌≤◌, ◌<◌, ◌≡◌, refl, true, ◌||◌, List, [], ltb, length}
use Rattle.std.proofs.Common.{mul-le-mul, mul_comm, arith, ap, ◌∙◌, le-ltb, append-nil}
use Rattle.image.specs.declared.LumaError.TheVariants.{EmptyDimensions}
use Rattle.image.specs.Layout.{Kept}
use Rattle.image.specs.LayoutLaws.{no_sides}
use Rattle.std.specs.Prelude.{Ok, Err}
use Rattle.imgproc.specs.declared.ImgProcError.TheVariants.{Image, WorkspaceTooSmall, GridBufferTooSmall}
use Rattle.imgproc.specs.Grid.{tiles_y_of}
use Rattle.imgproc.specs.GridCalls.{grid_settings, tile_count}
use Rattle.imgproc.specs.Refusals.{
  Conditions,
  first,
  refused_if,
  ◌then◌,
  pair_conditions,
  division_settings,
  sauvola_settings,
  table_entries,
}
use Rattle.imgproc.specs.RefusalLaws.{then_accepted, then_same, passes, passes_last, source_refused, pair_taken}
use Rattle.imgproc.specs.Reading.{
  reading_settings,
  reading_bytes,
  reading_u64s,
  reading_room,
  reading_conditions,
}
use Rattle.pgm.specs.Form.{side_limit}
use Rattle.answer.specs.Answer.{settings, tight, Buffers, own_open_tiles, lent_to}
use Rattle.answer.specs.Program.{empty, most_pixels, most_tiles, most_bytes, most_u64s}

-- the program's settings are accepted
settings_taken : first (reading_settings settings) ≡ Ok tt
unfolding first reading_settings division_settings grid_settings sauvola_settings
settings_taken = refl

-- the count buffer of a reading of a picture of height h is under the tile rows of that height
abbrev pub counts_short : ℕ → Conditions
counts_short h = refused_if (ltb (length own_open_tiles) (tiles_y_of settings.grid h)) GridBufferTooSmall

-- it never is, since a picture has no more tile rows than the highest
counts_enough : (h : ℕ) → h ≤ side_limit → first (counts_short h) ≡ Ok tt
counts_enough h hh = passes_last _ _ (le-ltb (length own_open_tiles) (tiles_y_of settings.grid h) (omega (arith, rows)))
  where
    rows : tiles_y_of settings.grid h ≤ 4
    rows = omega arith

-- either workspace is under what a reading of w by h asks for
abbrev pub workspaces_short : ℕ → ℕ → Buffers → Conditions
workspaces_short w h lent =
    refused_if
    (ltb (length lent.bytes) (reading_bytes settings.grid w h)
    || ltb (length lent.u64s) (reading_u64s settings.grid w h))
    WorkspaceTooSmall

-- so the reading that `answer` makes is refused for its layouts, or with 8 for a workspace, and for nothing else
pub own_refusals : (w h : ℕ) (pixels : List ℕ) (lent : Buffers) → h ≤ side_limit →
    first (reading_conditions (lent_to w h pixels lent settings))
    ≡ first (pair_conditions (length pixels) (tight w h) (length lent.dst) (tight w h) then workspaces_short w h lent)
unfolding first
own_refusals w h pixels lent hh =
    let pair = pair_conditions (length pixels) (tight w h) (length lent.dst) (tight w h) in
    let room = workspaces_short w h lent in
    then_same pair pair (reading_settings settings then room then counts_short h) room refl
    (then_accepted (reading_settings settings) (room then counts_short h) settings_taken
    ∙ then_same room room (counts_short h) [] refl (counts_enough h hh)
    ∙ ap first (append-nil room))

module _ (w h : ℕ) (W : 0 < w) (H : 0 < h) (ww : w ≤ side_limit) (hh : h ≤ side_limit) where
  -- such a picture has no more pixels, tiles and table entries than the largest
  area : w * h ≤ most_pixels
  area = mul-le-mul ww hh

  -- w × h bytes hold it without padding
  kept : (len : ℕ) → w * h ≤ len → Kept len (tight w h)
  kept len l = record {
    wide = W;
    high = H;
    stride = omega arith;
    fits = omega (arith, mul_comm w h, row);
    small_width = omega arith;
    small_height = omega arith;
  }
    where
      row : w * (h - 1) + w ≡ w * h
      row = let e : h - 1 + 1 ≡ h = omega arith in omega (arith, ap (λ (n : ℕ). w * n) e)

  tiles : tile_count settings.grid w h ≤ most_tiles
  tiles = mul-le-mul {n₁ = (w + 16 - 1) / 16} {m₁ = (h + 16 - 1) / 16} {n₂ = 4} {m₂ = 4} (omega arith) (omega arith)

  entries : table_entries w h ≤ table_entries side_limit side_limit
  entries =
      let side = side_limit + 1 in
      omega (arith, mul-le-mul {n₁ = w + 1} {m₁ = h + 1} {n₂ = side} {m₂ = side} (omega arith) (omega arith))

  -- its reading is accepted with the program's buffers
  pub room_enough : (pixels dst bytes u64s : ℕ) →
      w * h ≤ pixels → most_pixels ≤ dst → most_bytes ≤ bytes → most_u64s ≤ u64s →
      first
      (pair_conditions pixels (tight w h) dst (tight w h)
      then reading_settings settings
      then reading_room (tight w h) settings bytes u64s (length own_open_tiles))
      ≡ Ok tt
  room_enough pixels dst bytes u64s p d b q =
      let room = reading_room (tight w h) settings bytes u64s (length own_open_tiles) in
      then_accepted (pair_conditions pixels (tight w h) dst (tight w h)) (reading_settings settings then room)
      (pair_taken (kept pixels p) (kept dst (omega (arith, area))) refl refl)
      ∙ then_accepted (reading_settings settings) room settings_taken
      ∙ passes _ _ (counts_short h)
      (rw (
        le-ltb bytes (reading_bytes settings.grid w h) (omega (arith, area, tiles)),
        le-ltb u64s (reading_u64s settings.grid w h) (omega (arith, entries, tiles)),
      ))
      ∙ counts_enough h hh

-- a zero side is refused before all else
pub empty_refused : (w h pixels dst : ℕ) (rest : Conditions) → empty w h ≡ true →
    first (pair_conditions pixels (tight w h) dst (tight w h) then rest) ≡ Err (Image EmptyDimensions)
empty_refused w h pixels dst rest e =
    source_refused pixels (tight w h) dst (tight w h) rest (no_sides pixels (tight w h) e)
