-- What accepted settings of a reading say, and its contract by the way out. Assumes nothing.
use Rattle.std.specs.Prelude.{Ok, Err}
use mathlib.Core.Path.{◌≡◌, refl, ap, ◌∙◌}
use native.Mathlib.Omega.{arith}
use lib.ListN.{length}
use Rattle.image.specs.Answers.{accepted, refused}
use Rattle.imgproc.specs.declared.reading.config.ReadingConfig.{ReadingConfig}
use Rattle.imgproc.specs.declared.reading.ReadingCounts.{ReadingCounts}
use Rattle.imgproc.specs.declared.ImgProcError.{ImgProcError}
use Rattle.imgproc.specs.Refusals.{error_number, Conditions, first, ◌then◌, pair_conditions}
use Rattle.imgproc.specs.Reading.{reading_settings, reading_room, ReadingLent, ReadingLeft, numbers_of, reading_conditions, Reads}
use Rattle.imgproc.specs.ReadingSteps.{Usable, ReadReady, ReadDone}
use Rattle.imgproc.specs.ReadingLaws.{settings_say, room_says}
use Rattle.imgproc.specs.RefusalLaws.{then_accepted, then_refused, kernel_says, division_says}
use Rattle.imgproc.specs.Calls.{Paired}
use Rattle.imgproc.specs.Tiles.{Sized}
use Rattle.imgproc.proofs.WaysOut.{past, before}
use Rattle.imgproc.proofs.Answers.{in_range}
use Rattle.imgproc.specs.GridMeans.{sides_accepted, sized_of}

-- what accepted settings say
pub says : (s : ReadingConfig) → first (reading_settings s) ≡ Ok tt → Usable s
says s p =
    let a = settings_say s p in
    let d = division_says s.division a.division in
    let k = kernel_says s.opening_kernel a.kernel in
    let t = sides_accepted s.grid a.grid in
    record {
      element = omega (arith, d.0);
      floor = d.1;
      kernel = omega (arith, k);
      tile_width = t.0;
      tile_height = t.1;
      sauvola = in_range s.sauvola a.sauvola;
    }

-- ---- the contract

module _ (lent : ReadingLent) where
  -- what is checked after the pair
  abbrev room : Conditions
  room = reading_room lent.source lent.settings (length lent.bytes) (length lent.u64s) (length lent.open_tiles)

  -- all of it, left as it was
  abbrev untouched : ReadingLeft
  untouched = record { dst = lent.dst; bytes = lent.bytes; u64s = lent.u64s; open_tiles = lent.open_tiles }

  abbrev rest : Conditions
  rest = reading_settings lent.settings then room

  -- of a refused call: all is left as it was lent
  refused_call : {e : ImgProcError} → first (reading_conditions lent) ≡ Err e
      → Reads lent (refused (error_number e)) untouched
  refused_call r = record {
    answers = rw r;
    leaves = rw r;
    bytes_left = rw r refl;
    u64s_left = rw r refl;
    open_tiles_left = rw r;
  }

  -- by the pair, by the settings after it, or by the room after both
  pub refused_by_pair : {e : ImgProcError}
      → first (pair_conditions (length lent.src) lent.source (length lent.dst) lent.target) ≡ Err e
      → Reads lent (refused (error_number e)) untouched
  refused_by_pair r = refused_call (before (length lent.src) lent.source (length lent.dst) lent.target rest r)

  module _ (p : Paired (length lent.src) lent.source (length lent.dst) lent.target) where
    rest_is : first (reading_conditions lent) ≡ first rest
    rest_is = past (length lent.src) lent.source (length lent.dst) lent.target rest p

    pub refused_by_settings : {e : ImgProcError} → first (reading_settings lent.settings) ≡ Err e
        → Reads lent (refused (error_number e)) untouched
    refused_by_settings r = refused_call (rest_is ∙ then_refused (reading_settings lent.settings) room r)

    module _ (settings : first (reading_settings lent.settings) ≡ Ok tt) where
      room_is : first (reading_conditions lent) ≡ first room
      room_is = rest_is ∙ then_accepted (reading_settings lent.settings) room settings

      pub refused_by_room : {e : ImgProcError} → first room ≡ Err e
          → Reads lent (refused (error_number e)) untouched
      refused_by_room r = refused_call (room_is ∙ r)

      -- the grid's sides, and all that the work of an accepted call asks
      pub sized : Sized lent.settings.grid lent.source.width lent.source.height
      sized = let y = says lent.settings settings in sized_of p.from y.tile_width y.tile_height

      module _ (taken : first room ≡ Ok tt) where
        pub ready : ReadReady lent
        ready =
            let fit = room_says lent.source lent.settings _ _ _ taken in
            record {
              pair = p;
              settings = says lent.settings settings;
              bytes_fit = fit.bytes_fit;
              u64s_fit = fit.u64s_fit;
              open_tiles_fit = fit.open_tiles_fit;
            }

        -- of an accepted call
        pub done : {r : ReadingCounts} {left : ReadingLeft} → ReadDone lent r left → Reads lent (accepted (numbers_of r)) left
        done d =
            let c = room_is ∙ taken in
            record {
              answers = rw c (ap accepted d.counted);
              leaves = rw c d.leaves;
              bytes_left = rw c d.bytes_long;
              u64s_left = rw c d.u64s_long;
              open_tiles_left = rw c d.open_tiles_left;
            }
