-- What an accepted reading means, drawn from its contract alone: which pixels are judged dark, light and skipped, that
-- each count is the number of just those pixels, and whose comparisons are reported. (ReadingLeaves: what it leaves;
-- ReadingRows: its count buffer; RefusedExactly: when it is refused.) Assumes nothing.
use Rattle.std.specs.Prelude.{Ok}
use Rattle.std.specs.Prelude.{ℕ, ◌+◌, ◌*◌, ◌/◌, ◌≤◌, ◌<◌, ◌≡◌, Bool, true, false, cond, ◌&&◌, ◌↔◌, List, leb, length}
use Rattle.std.proofs.Common.{arith, sym, ap₂, ◌∙◌, leb-true, leb-false, le-leb}
use Rattle.std.proofs.Math.Path.{refl, ap}
use Rattle.std.proofs.Math.Bool.{not}
use Rattle.std.proofs.lemmas.Bool.{lt-leb}
use Rattle.image.specs.Answers.{accepted}
use Rattle.image.specs.Plane.{pixel, picture}
use Rattle.imgproc.specs.declared.reading.config.ReadingConfig.{ReadingConfig}
use Rattle.imgproc.specs.declared.reading.judging.Judgement.{Judgement}
use Rattle.imgproc.specs.declared.reading.judging.Judgement.TheVariants.{Dark, Light, Skipped}
use Rattle.imgproc.specs.declared.morphology.Operation.TheVariants.{Open, Close}
use Rattle.imgproc.specs.Reach.{R}
use Rattle.imgproc.specs.Refusals.{Conditions, first, ◌then◌, pair_conditions}
use Rattle.imgproc.specs.RefusalLaws.{both_accepted, taken, kernel_says, division_says, pair_says}
use Rattle.imgproc.specs.Calls.{Loan, Left, Serves, conditions_of, Paired}
use Rattle.imgproc.specs.MorphologyCalls.{opening, closing}
use Rattle.imgproc.specs.MorphologyLaws.{operation_walks_lem}
use Rattle.imgproc.specs.Grid.{tiles_y_of, skip_of}
use Rattle.imgproc.specs.GridLaws.{floor_0}
use Rattle.imgproc.specs.GridMeans.{sides_accepted, sized_of}
use Rattle.imgproc.specs.Tiles.{Sized}
use Rattle.imgproc.specs.Sauvola.{threshold_at_pixel, at_or_below}
use Rattle.imgproc.specs.Reading.{
  is_dark,
  is_light,
  is_skipped,
  opened_of,
  judged_over,
  judged,
  pixels,
  comparisons_of,
  ReadingNumbers,
  reading_of,
  reading_settings,
  reading_room,
  ReadingLent,
  ReadingLeft,
  reading_conditions,
  numbers_from,
  Reads,
}
use Rattle.imgproc.specs.ReadingLaws.{adds_up, comparisons_below, pixels_same, pixels_empty}
use Rattle.imgproc.specs.ReadingLaws.{SettingsSaid, settings_say, room_says}

-- ---- the judgement of a pixel

-- the tile of pixel (x, y) is skipped
abbrev pub skip_here : ReadingConfig → ℕ → ℕ → List ℕ → ℕ → ℕ → Bool
skip_here s w h p x y = skip_of s.grid w h (opened_of s w h p) (x / s.grid.tile_width) (y / s.grid.tile_height)

-- its flattened, opened value
abbrev pub value_here : ReadingConfig → ℕ → ℕ → List ℕ → ℕ → ℕ → ℕ
value_here s w h p x y = pixel (opened_of s w h p) w x y

-- the directly summed Sauvola threshold there
abbrev pub threshold_here : ReadingConfig → ℕ → ℕ → List ℕ → ℕ → ℕ → ℕ
threshold_here s w h p x y = threshold_at_pixel s.sauvola w h (opened_of s w h p) x y

-- the value is at most the threshold
abbrev pub at_most : ReadingConfig → ℕ → ℕ → List ℕ → ℕ → ℕ → Bool
at_most s w h p x y = leb (value_here s w h p x y) (threshold_here s w h p x y)

-- a choice of three, each by its tests
chosen_dark : (a b : Bool) → cond a Skipped (cond b Dark Light) ≡ Dark → (a ≡ false) × (b ≡ true)
chosen_dark true b p = let z : ◌≡◌ {A = ℕ} 0 1 = cc in absurd (omega arith)
chosen_dark false true p = (refl, refl)
chosen_dark false false p = let z : ◌≡◌ {A = ℕ} 0 1 = cc in absurd (omega arith)

chosen_light : (a b : Bool) → cond a Skipped (cond b Dark Light) ≡ Light → (a ≡ false) × (b ≡ false)
chosen_light true b p = let z : ◌≡◌ {A = ℕ} 0 1 = cc in absurd (omega arith)
chosen_light false true p = let z : ◌≡◌ {A = ℕ} 0 1 = cc in absurd (omega arith)
chosen_light false false p = (refl, refl)

chosen_skipped : (a b : Bool) → cond a Skipped (cond b Dark Light) ≡ Skipped → a ≡ true
chosen_skipped true b p = refl
chosen_skipped false true p = let z : ◌≡◌ {A = ℕ} 0 1 = cc in absurd (omega arith)
chosen_skipped false false p = let z : ◌≡◌ {A = ℕ} 0 1 = cc in absurd (omega arith)

tests_dark : (a b : Bool) → is_dark (cond a Skipped (cond b Dark Light)) ≡ (not a && b)
tests_dark true b = refl
tests_dark false true = refl
tests_dark false false = refl

tests_light : (a b : Bool) → is_light (cond a Skipped (cond b Dark Light)) ≡ (not a && not b)
tests_light true b = refl
tests_light false true = refl
tests_light false false = refl

tests_skipped : (a b : Bool) → is_skipped (cond a Skipped (cond b Dark Light)) ≡ a
tests_skipped true b = refl
tests_skipped false true = refl
tests_skipped false false = refl

module _ (s : ReadingConfig) (w h : ℕ) (p : List ℕ) (x y : ℕ) where
  judged_by : judged s w h p x y ≡ cond (skip_here s w h p x y) Skipped (cond (at_most s w h p x y) Dark Light)
  unfolding judged judged_over at_or_below
  judged_by = refl

  -- a pixel is judged dark exactly when its tile is not skipped and its flattened, opened value is at most the directly
  -- summed threshold
  pub dark_exactly : (judged s w h p x y ≡ Dark)
      ↔ ((skip_here s w h p x y ≡ false) × (value_here s w h p x y ≤ threshold_here s w h p x y))
  dark_exactly = (
    λ d. let c =
        chosen_dark (skip_here s w h p x y) (at_most s w h p x y) (sym judged_by ∙ d) in (c.0, leb-true _ _ c.1),
    λ c. judged_by ∙ rw (c.0, le-leb _ _ c.1),
  )

  -- light exactly when its tile is not skipped and that value is above that threshold
  pub light_exactly : (judged s w h p x y ≡ Light)
      ↔ ((skip_here s w h p x y ≡ false) × (threshold_here s w h p x y < value_here s w h p x y))
  light_exactly = (
    λ d. let c =
        chosen_light (skip_here s w h p x y) (at_most s w h p x y) (sym judged_by ∙ d) in (c.0, leb-false _ _ c.1),
    λ c. judged_by ∙ rw (c.0, lt-leb _ _ c.1),
  )

  -- skipped exactly when its tile is
  pub skipped_exactly : (judged s w h p x y ≡ Skipped) ↔ (skip_here s w h p x y ≡ true)
  skipped_exactly =
      (λ d. chosen_skipped (skip_here s w h p x y) (at_most s w h p x y) (sym judged_by ∙ d), λ c. judged_by ∙ rw c)

-- ---- an accepted reading

-- what was lent to it, its numbers, and what it left
pub record AcceptedReading : Type 0 where
  pub lent : ReadingLent
  pub numbers : ReadingNumbers
  pub left : ReadingLeft
  pub reads : Reads lent (accepted numbers) left

module _ (a : AcceptedReading) where
  abbrev pub settings_of : ReadingConfig
  settings_of = a.lent.settings

  abbrev pub wide : ℕ
  wide = a.lent.source.width

  abbrev pub high : ℕ
  high = a.lent.source.height

  -- its source, packed
  abbrev pub source_of : List ℕ
  source_of = picture a.lent.src a.lent.source

  -- pixel (x, y), as it was judged
  abbrev pub judged_here : ℕ → ℕ → Judgement
  judged_here x y = judged settings_of wide high source_of x y

  pub said : (first (reading_conditions a.lent) ≡ Ok tt) × (a.numbers ≡ numbers_from a.lent)
  said = taken (first (reading_conditions a.lent)) a.reads.answers

  -- the layouts and the sizes are accepted, and the settings
  abbrev pairs : Conditions
  pairs = pair_conditions (length a.lent.src) a.lent.source (length a.lent.dst) a.lent.target

  abbrev room : Conditions
  room = reading_room a.lent.source settings_of (length a.lent.bytes) (length a.lent.u64s) (length a.lent.open_tiles)

  parts : (first pairs ≡ Ok tt) × ((first (reading_settings settings_of) ≡ Ok tt) × (first room ≡ Ok tt))
  parts =
      let p = both_accepted pairs (reading_settings settings_of then room) said.0 in
      (p.0, both_accepted (reading_settings settings_of) room p.1)

  pub pair : Paired (length a.lent.src) a.lent.source (length a.lent.dst) a.lent.target
  pair = pair_says (length a.lent.src) a.lent.source (length a.lent.dst) a.lent.target parts.0

  -- ---- its numbers

  -- the four numbers are those of the judgements and of the comparisons
  pub numbers_are : a.numbers ≡ reading_of settings_of wide high source_of
  numbers_are = said.1

  -- the tile of pixel (x, y) is skipped
  abbrev pub tile_skipped : ℕ → ℕ → Bool
  tile_skipped = skip_here settings_of wide high source_of

  -- its value is at most its threshold
  abbrev pub dark_enough : ℕ → ℕ → Bool
  dark_enough = at_most settings_of wide high source_of

  judged_here_lem : (x y : ℕ) → judged_here x y ≡ cond (tile_skipped x y) Skipped (cond (dark_enough x y) Dark Light)
  judged_here_lem = judged_by settings_of wide high source_of

  -- dark is the number of pixels whose tile is not skipped and whose value is at most the threshold
  pub dark_counted : a.numbers.dark ≡ pixels wide high (λ x y. not (tile_skipped x y) && dark_enough x y)
  unfolding reading_of
  dark_counted =
      ap (λ (n : ReadingNumbers). n.dark) numbers_are
      ∙ pixels_same wide high (λ x y. is_dark (judged_here x y)) (λ x y. not (tile_skipped x y) && dark_enough x y)
      (λ x y. ap is_dark (judged_here_lem x y) ∙ tests_dark (tile_skipped x y) (dark_enough x y))

  -- light is the number of those whose tile is not skipped and whose value is above it
  pub light_counted : a.numbers.light ≡ pixels wide high (λ x y. not (tile_skipped x y) && not (dark_enough x y))
  unfolding reading_of
  light_counted =
      ap (λ (n : ReadingNumbers). n.light) numbers_are
      ∙ pixels_same wide high (λ x y. is_light (judged_here x y)) (λ x y. not (tile_skipped x y) && not (dark_enough x y))
      (λ x y. ap is_light (judged_here_lem x y) ∙ tests_light (tile_skipped x y) (dark_enough x y))

  -- skipped is the number of those whose tile is skipped
  pub skipped_counted : a.numbers.skipped ≡ pixels wide high tile_skipped
  unfolding reading_of
  skipped_counted =
      ap (λ (n : ReadingNumbers). n.skipped) numbers_are
      ∙ pixels_same wide high (λ x y. is_skipped (judged_here x y)) tile_skipped
      (λ x y. ap is_skipped (judged_here_lem x y) ∙ tests_skipped (tile_skipped x y) (dark_enough x y))

  -- the three counts add up to w × h
  pub add_up : a.numbers.dark + a.numbers.light + a.numbers.skipped ≡ wide * high
  add_up =
      ap (λ (n : ReadingNumbers). n.dark + n.light + n.skipped) numbers_are ∙ adds_up settings_of wide high source_of

  -- a contrast floor of 0 never skips
  pub floor_0_skips_none : settings_of.grid.contrast_floor ≡ 0 → a.numbers.skipped ≡ 0
  floor_0_skips_none z =
      skipped_counted
      ∙ pixels_empty wide high tile_skipped
      (λ x y. floor_0 settings_of.grid wide high (opened_of settings_of wide high source_of)
      (x / settings_of.grid.tile_width) (y / settings_of.grid.tile_height) z)

  settings_said : SettingsSaid settings_of
  settings_said = settings_say settings_of parts.1.0

  kernels : (3 ≤ settings_of.division.structuring_element) × (3 ≤ settings_of.opening_kernel)
  kernels = (
    (division_says settings_of.division settings_said.division).0,
    kernel_says settings_of.opening_kernel settings_said.kernel,
  )

  -- its picture and its tile sides make a grid, and the count buffer holds its tile rows
  pub tiled : Sized settings_of.grid wide high
  tiled = let t = sides_accepted settings_of.grid settings_said.grid in sized_of pair.from t.0 t.1

  pub tile_rows_fit : tiles_y_of settings_of.grid high ≤ length a.lent.open_tiles
  tile_rows_fit = (room_says a.lent.source settings_of _ _ _ parts.1.1).open_tiles_fit

  -- the comparisons are 2R(k) + 2R(m), below 24wh
  pub compared : (a.numbers.comparisons ≡ comparisons_of settings_of wide high)
      × (a.numbers.comparisons < 24 * (wide * high))
  unfolding reading_of
  compared =
      let e : a.numbers.comparisons ≡ comparisons_of settings_of wide high =
      ap (λ (n : ReadingNumbers). n.comparisons) numbers_are in
      let below =
      comparisons_below settings_of wide high pair.from.wide pair.from.high
      (omega (arith, kernels.0)) (omega (arith, kernels.1)) in
      (e, omega (arith, below))

  -- they are those of its two operations: what a closing with k and an opening with m of pictures of that size answer,
  -- together
  pub compared_as_called :
      {close open' : Loan ℕ} {close_left open_left : Left} {c o : ℕ}
      → Serves closing close (accepted c) close_left
      → Serves opening open' (accepted o) open_left
      → close.settings ≡ settings_of.division.structuring_element
      → open'.settings ≡ settings_of.opening_kernel
      → (close.source.width ≡ wide) × (close.source.height ≡ high)
      → (open'.source.width ≡ wide) × (open'.source.height ≡ high)
      → a.numbers.comparisons ≡ c + o
  compared_as_called {close} {open'} {c = c} {o = o} closed opened k m cs os =
      let element = settings_of.division.structuring_element in
      let kernel = settings_of.opening_kernel in
      let x : c ≡ 2 * R element wide high =
      (taken (first (conditions_of closing close)) closed.answers).1
      ∙ rw (k, cs.0, cs.1) (operation_walks_lem Close element wide high (omega (arith, kernels.0))) in
      let y : o ≡ 2 * R kernel wide high =
      (taken (first (conditions_of opening open')) opened.answers).1
      ∙ rw (m, os.0, os.1) (operation_walks_lem Open kernel wide high (omega (arith, kernels.1))) in
      compared.0 ∙ ap₂ (λ (i j : ℕ). i + j) (sym x) (sym y)
