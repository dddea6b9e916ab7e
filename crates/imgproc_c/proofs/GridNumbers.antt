-- Derives the contract of the build's export from the build's: a number that is no method's is refused where the grid's settings are checked. Assumes
-- nothing.
use Rattle.std.specs.Prelude.{Err}
use Prim.Native.Nat.{ℕ, zero, suc}
use native.Mathlib.Omega.{arith}
use mathlib.Core.Path.{◌≡◌, refl, sym, ap, subst, ◌∙◌}
use mathlib.Core.Bool.{Bool, true, false, not, ◌||◌}
use mir.Syntax.{w16}
use mir.Val.{SFits, to_z, of_z}
use mir.ValLaws.{to_z-of_z}
use lib.Dec.{eqb, ltb}
use lib.IntN.{ℤ}
use lib.ListN.{length}
use lib.Ieee.{Float, lt}
use borrow.Author.Tests.{lt-ltb}
use Rattle.image.specs.Answers.{Answer}
use Rattle.imgproc.specs.declared.ImgProcError.TheVariants.{InvalidConfiguration}
use Rattle.imgproc.specs.declared.grid.config.TileThresholdMethod.{TileThresholdMethod}
use Rattle.imgproc.specs.declared.grid.config.TileThresholdConfig.{TileThresholdConfig}
use Rattle.imgproc.specs.declared.grid.TileCounts.{TileCounts}
use Rattle.imgproc.specs.GridCalls.{
  usable_method,
  grid_settings,
  grid_room,
  BuildLent,
  BuildLeft,
  tiles_from,
  build_conditions,
  Builds,
}
use Rattle.imgproc.specs.Refusals.{Check, first, ◌then◌, refused_if, answer_by, view_conditions}
use Rattle.imgproc.specs.RefusalLaws.{then_same, refuses, passes, refuses_last}
use Rattle.imgproc_c.specs.Exports.{Tells}
use Rattle.imgproc_c.specs.Grid.{method_of, method_conditions, settings, number_conditions, BuildsNumber}
use Rattle.imgproc_c.proofs.Exporting.{tells_as}

-- a method whose range is 0 is refused, whatever the tile sides are
out_of_range : (sides : Bool) → first (refused_if (sides || true) InvalidConfiguration) ≡ Err InvalidConfiguration
out_of_range true = refuses_last true InvalidConfiguration refl
out_of_range false = refuses_last true InvalidConfiguration refl

-- settings with the method of a number are refused by the number or by themselves, and alike
pub method_same : (s : TileThresholdConfig) (n : ℕ) (k range : Float)
    → s.method ≡ method_of n k range → first (grid_settings s) ≡ first (method_conditions n then grid_settings s)
unfolding method_conditions grid_settings lt
method_same s zero k range is = sym (passes (ltb 1 0) InvalidConfiguration (grid_settings s) refl)
method_same s (suc zero) k range is = sym (passes (ltb 1 1) InvalidConfiguration (grid_settings s) refl)
method_same s (suc (suc n)) k range is =
    let sides = eqb s.tile_width 0 || eqb s.tile_height 0 in
    ap (λ (m : TileThresholdMethod). first (refused_if (sides || not (usable_method m)) InvalidConfiguration)) is
    ∙ out_of_range sides
    ∙ sym (refuses (ltb 1 (suc (suc n))) InvalidConfiguration (grid_settings s) (lt-ltb 1 (suc (suc n)) (omega arith)))

-- the settings, and what was lent, with another offset and method
abbrev pub settings_with : TileThresholdConfig → ℤ → TileThresholdMethod → TileThresholdConfig
settings_with s z m = settings s.tile_width s.tile_height s.neighborhood_radius z s.contrast_floor m

abbrev lent_with : BuildLent → ℤ → TileThresholdMethod → BuildLent
lent_with lent z m = record {
  src = lent.src;
  source = lent.source;
  settings = settings_with lent.settings z m;
  workspace = lent.workspace;
  thresholds = lent.thresholds;
  skips = lent.skips;
  open_tiles = lent.open_tiles;
}

-- a build by the method of a number, whose offset went through its 16 bits, makes the export's contract
pub builds :
    {lent : BuildLent} {used : TileThresholdMethod} {told : Answer TileCounts} {left : BuildLeft} {held held' : TileCounts} {number : ℕ}
    (n : ℕ) (k range : Float)
    → SFits w16 lent.settings.threshold_offset
    → lent.settings.method ≡ method_of n k range
    → used ≡ method_of n k range
    → Builds (lent_with lent (to_z w16 (of_z w16 lent.settings.threshold_offset)) used) told left
    → Tells told held number held'
    → BuildsNumber n lent held number left held'
builds {lent} {used} {told} {left} n k range fits is used-is b t =
    let same-offset = to_z-of_z w16 lent.settings.threshold_offset fits in
    let by-offset = subst (λ (z : ℤ). Builds (lent_with lent z used) told left) same-offset b in
    let own : Builds lent told left =
    subst (λ (m : TileThresholdMethod). Builds (lent_with lent lent.settings.threshold_offset m) told left) (used-is ∙ sym is) by-offset in
    let g = lent.source in
    let room =
    grid_room (tiles_from lent) (length lent.workspace) (length lent.thresholds) (length lent.skips) (length lent.open_tiles) in
    let view = view_conditions (length lent.src) g in
    let mine = grid_settings lent.settings in
    let theirs = method_conditions n then mine in
    let same : first (build_conditions lent) ≡ first (number_conditions n lent) =
    then_same view view (mine then room) (theirs then room) refl
    (then_same mine theirs room room (method_same lent.settings n k range is) refl) in
    record {
      builds = record {
        answers = refl;
        thresholds_left = rw (sym same) own.thresholds_left;
        skips_left = rw (sym same) own.skips_left;
        open_tiles_left = rw (sym same) own.open_tiles_left;
        workspace_left = rw (sym same) own.workspace_left;
      };
      tells = tells_as (own.answers ∙ ap (λ (c : Check). answer_by c (tiles_from lent)) same) t;
    }
