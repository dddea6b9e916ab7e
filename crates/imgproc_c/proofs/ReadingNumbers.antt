-- Derives the contract of the reading's export from the reading's. Assumes nothing.
use Prim.Native.Nat.{ℕ}
use mathlib.Core.Path.{◌≡◌, refl, sym, ap, subst, ◌∙◌}
use mir.Syntax.{w16}
use mir.Val.{SFits, to_z, of_z}
use mir.ValLaws.{to_z-of_z}
use lib.IntN.{ℤ}
use lib.ListN.{length}
use lib.Ieee.{Float}
use Rattle.image.specs.Answers.{Answer}
use Rattle.imgproc.specs.declared.ImgProcError.TheVariants.{InvalidKernel}
use Rattle.imgproc.specs.declared.grid.config.TileThresholdMethod.{TileThresholdMethod}
use Rattle.imgproc.specs.declared.reading.config.ReadingConfig.{ReadingConfig}
use Rattle.imgproc.specs.GridCalls.{grid_settings}
use Rattle.imgproc.specs.Reading.{
  ReadingLent,
  ReadingLeft,
  ReadingNumbers,
  numbers_from,
  reading_settings,
  reading_room,
  reading_conditions,
  Reads,
}
use Rattle.imgproc.specs.Refusals.{Check, first, ◌then◌, refused_if, answer_by, pair_conditions, bad_kernel, division_settings, sauvola_settings}
use Rattle.imgproc.specs.RefusalLaws.{then_same}
use Rattle.imgproc_c.specs.Exports.{Tells}
use Rattle.imgproc_c.specs.Grid.{method_of, method_conditions}
use Rattle.imgproc_c.specs.Reading.{reading_from, number_settings, number_conditions, ReadsNumber}
use Rattle.imgproc_c.proofs.Exporting.{tells_as}
use Rattle.imgproc_c.proofs.GridNumbers.{method_same, settings_with}

-- what was lent, with another offset and method
abbrev lent_with : ReadingLent → ℤ → TileThresholdMethod → ReadingLent
lent_with lent z m =
    let s = lent.settings in
    record {
      src = lent.src;
      source = lent.source;
      dst = lent.dst;
      target = lent.target;
      settings = reading_from s.division s.opening_kernel (settings_with s.grid z m) s.sauvola;
      bytes = lent.bytes;
      u64s = lent.u64s;
      open_tiles = lent.open_tiles;
    }

-- the method is refused where the grid's settings would be
settings_same : (s : ReadingConfig) (n : ℕ) (k range : Float)
    → s.grid.method ≡ method_of n k range → first (reading_settings s) ≡ first (number_settings n s)
unfolding reading_settings number_settings
settings_same s n k range is =
    let division = division_settings s.division in
    let kernel = refused_if (bad_kernel s.opening_kernel) InvalidKernel in
    let last = sauvola_settings s.sauvola in
    let mine = grid_settings s.grid in
    let theirs = method_conditions n then mine in
    then_same division division (kernel then mine then last) (kernel then theirs then last) refl
    (then_same kernel kernel (mine then last) (theirs then last) refl
    (then_same mine theirs last last (method_same s.grid n k range is) refl))

-- a reading by the method of a number, whose offset went through its 16 bits, makes the export's contract
pub reads :
    {lent : ReadingLent} {used : TileThresholdMethod} {told : Answer ReadingNumbers} {left : ReadingLeft} {held held' : ReadingNumbers} {number : ℕ}
    (n : ℕ) (k range : Float)
    → SFits w16 lent.settings.grid.threshold_offset
    → lent.settings.grid.method ≡ method_of n k range
    → used ≡ method_of n k range
    → Reads (lent_with lent (to_z w16 (of_z w16 lent.settings.grid.threshold_offset)) used) told left
    → Tells told held number held'
    → ReadsNumber n lent held number left held'
reads {lent} {used} {told} {left} n k range fits is used-is b t =
    let s = lent.settings in
    let same-offset = to_z-of_z w16 s.grid.threshold_offset fits in
    let by-offset = subst (λ (z : ℤ). Reads (lent_with lent z used) told left) same-offset b in
    let own : Reads lent told left =
    subst (λ (m : TileThresholdMethod). Reads (lent_with lent s.grid.threshold_offset m) told left) (used-is ∙ sym is) by-offset in
    let pair = pair_conditions (length lent.src) lent.source (length lent.dst) lent.target in
    let room = reading_room lent.source s (length lent.bytes) (length lent.u64s) (length lent.open_tiles) in
    let mine = reading_settings s in
    let theirs = number_settings n s in
    let same : first (reading_conditions lent) ≡ first (number_conditions n lent) =
    then_same pair pair (mine then room) (theirs then room) refl (then_same mine theirs room room (settings_same s n k range is) refl) in
    record {
      reads = record {
        answers = refl;
        leaves = rw (sym same) own.leaves;
        bytes_left = rw (sym same) own.bytes_left;
        u64s_left = rw (sym same) own.u64s_left;
        open_tiles_left = rw (sym same) own.open_tiles_left;
      };
      tells = tells_as (own.answers ∙ ap (λ (c : Check). answer_by c (numbers_from lent)) same) t;
    }
