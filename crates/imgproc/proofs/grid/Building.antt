-- The ways out of `build`, from the layout and the check that the code holds. Assumes nothing.
use Rattle.std.specs.Prelude.{Ok, Err}
use mathlib.Core.Path.{◌≡◌, refl, ◌∙◌}
use lib.ListN.{length}
use Rattle.image.specs.declared.LumaError.{LumaError}
use Rattle.image.specs.Answers.{accepted, refused}
use Rattle.image.specs.Layout.{Kept, layout_of}
use Rattle.image.specs.LayoutLaws.{kept_valid}
use Rattle.imgproc.specs.declared.ImgProcError.{ImgProcError}
use Rattle.imgproc.specs.declared.ImgProcError.TheVariants.{Image}
use Rattle.imgproc.specs.GridCalls.{grid_settings, BuildLent, BuildLeft, build_conditions, tiles_from, Builds}
use Rattle.imgproc.specs.Tiles.{Fills}
use Rattle.imgproc.specs.Refusals.{error_number, Conditions, first, ◌then◌, view_conditions}
use Rattle.imgproc.specs.RefusalLaws.{then_accepted, then_refused, view_refused, view_accepted}
use Rattle.imgproc.specs.GridMeans.{room_of}

module _ (lent : BuildLent) where
  -- all of it, left as it was
  abbrev untouched : BuildLeft
  untouched =
      record { workspace = lent.workspace; thresholds = lent.thresholds; skips = lent.skips; open_tiles = lent.open_tiles }

  -- settings and room
  abbrev rest : Conditions
  rest = grid_settings lent.settings then room_of lent

  -- a list that refuses
  refused_build : {e : ImgProcError} → first (build_conditions lent) ≡ Err e → Builds lent (refused (error_number e)) untouched
  refused_build p = record {
    answers = rw p;
    thresholds_left = rw p;
    skips_left = rw p;
    open_tiles_left = rw p;
    workspace_left = rw p refl;
  }

  -- the layout refuses
  pub layout_refused : {e : LumaError} → layout_of (length lent.src) lent.source ≡ Err e
      → Builds lent (refused (error_number (Image e))) untouched
  layout_refused i =
      refused_build
      (then_refused (view_conditions (length lent.src) lent.source) rest (view_refused (length lent.src) lent.source i))

  -- the layout is valid
  module _ (kept : Kept (length lent.src) lent.source) where
    rest_is : first (build_conditions lent) ≡ first rest
    rest_is =
        then_accepted (view_conditions (length lent.src) lent.source) rest
        (view_accepted (length lent.src) lent.source (kept_valid kept))

    pub settings_refused : {e : ImgProcError} → first (grid_settings lent.settings) ≡ Err e
        → Builds lent (refused (error_number e)) untouched
    settings_refused r = refused_build (rest_is ∙ then_refused (grid_settings lent.settings) (room_of lent) r)

    module _ (settings : first (grid_settings lent.settings) ≡ Ok tt) where
      room_is : first (build_conditions lent) ≡ first (room_of lent)
      room_is = rest_is ∙ then_accepted (grid_settings lent.settings) (room_of lent) settings

      pub room_refused : {e : ImgProcError} → first (room_of lent) ≡ Err e → Builds lent (refused (error_number e)) untouched
      room_refused r = refused_build (room_is ∙ r)

      pub built : {left : BuildLeft} → first (room_of lent) ≡ Ok tt → Fills lent left → Builds lent (accepted (tiles_from lent)) left
      built a f =
          let p = room_is ∙ a in
          record {
            answers = rw p;
            thresholds_left = rw p f.thresholds_left;
            skips_left = rw p f.skips_left;
            open_tiles_left = rw p f.open_tiles_left;
            workspace_left = rw p f.long;
          }
