-- What follows from the definition of a reading: its counts add up, none is dark where no pixel is judged so, its
-- comparisons stay below 24wh, and what its checks say where they accept. Assumes nothing.
use Rattle.std.specs.Prelude.{Ok}
use Rattle.std.specs.Prelude.{◌≡◌, refl, Bool, true, false, ◌||◌, ltb, List, ℕ, zero, suc, ◌+◌, ◌*◌, ◌/◌, ◌%◌, ◌≤◌, ◌<◌}
use Rattle.std.proofs.Common.{sym, ap, ap₂, ◌∙◌, eq-or-lt_of_le, mod-lt, mul_comm, arith, ⊎_elim}
use Rattle.std.proofs.Common.{ltb-false}
use Rattle.std.proofs.Common.{mul-zero, mul-one, mul-add, add-zero, add-suc}
use Rattle.std.proofs.Math.Arith.{digits_mod, digits_div}
use Rattle.image.specs.declared.Geometry.{Geometry}
use Rattle.image.specs.LayoutLaws.{neither}
use Rattle.image.specs.PlaneLaws.{in_plane, in_row}
use Rattle.imgproc.specs.declared.reading.config.ReadingConfig.{ReadingConfig}
use Rattle.imgproc.specs.declared.reading.judging.Judgement.{Judgement}
use Rattle.imgproc.specs.declared.reading.judging.Judgement.TheVariants.{Dark, Light, Skipped}
use Rattle.imgproc.specs.declared.ImgProcError.TheVariants.{InvalidKernel, WorkspaceTooSmall, GridBufferTooSmall}
use Rattle.imgproc.specs.Refusals.{first, ◌then◌, refused_if, bad_kernel, division_settings, sauvola_settings}
use Rattle.imgproc.specs.RefusalLaws.{both_accepted, not_refused}
use Rattle.imgproc.specs.Grid.{tiles_y_of}
use Rattle.imgproc.specs.GridCalls.{grid_settings}
use Rattle.imgproc.specs.Fold.{bit}
use Rattle.imgproc.specs.Reach.{walk}
use Rattle.imgproc.specs.Walks.{same_walk, walk_le, reading_below}
use Rattle.imgproc.specs.Reading.{
  is_dark,
  is_light,
  is_skipped,
  judged,
  pixels,
  comparisons_of,
  reading_of,
  reading_settings,
  reading_bytes,
  reading_u64s,
  reading_room,
}

-- three tests of which each index passes one
three : (a b c : ℕ → Bool) → ((i : ℕ) → bit (a i) + bit (b i) + bit (c i) ≡ 1) → (n : ℕ)
    → walk a n + walk b n + walk c n ≡ n
unfolding walk
three a b c h zero = refl
three a b c h (suc n) = omega (arith, three a b c h n, h n)

one_of : (j : Judgement) → bit (is_dark j) + bit (is_light j) + bit (is_skipped j) ≡ 1
one_of Dark = refl
one_of Light = refl
one_of Skipped = refl

-- the three counts add up to w × h
pub adds_up : (s : ReadingConfig) (w h : ℕ) (p : List ℕ)
    → (reading_of s w h p).dark + (reading_of s w h p).light + (reading_of s w h p).skipped ≡ w * h
unfolding reading_of pixels
adds_up s w h p =
    let j : ℕ → Judgement = λ i. judged s w h p (i % w) (i / w) in
    three (λ i. is_dark (j i)) (λ i. is_light (j i)) (λ i. is_skipped (j i)) (λ i. one_of (j i)) (w * h)

-- a walk that counts none passes no index, and one that passes none counts none
pub walk_none : (test : ℕ → Bool) (n : ℕ) → walk test n ≡ 0 → (i : ℕ) → i < n → test i ≡ false
unfolding walk
walk_none test zero e i l = absurd (omega arith)
walk_none test (suc n) e i l =
    ⊎_elim (λ q. last (test n) q refl) (λ q. walk_none test n (omega arith) i q)
    (eq-or-lt_of_le {n = i} {m = n} (omega arith))
  where
    last : (b : Bool) → i ≡ n → test n ≡ b → test i ≡ false
    last false q t = ap test q ∙ t
    last true q t = let z : bit (test n) ≡ 1 = ap bit t in absurd (omega arith)

pub no_walk : (test : ℕ → Bool) (n : ℕ) → ((i : ℕ) → i < n → test i ≡ false) → walk test n ≡ 0
unfolding walk
no_walk test zero h = refl
no_walk test (suc n) h =
    let z : bit (test n) ≡ 0 = ap bit (h n (omega arith)) in
    let w = no_walk test n (λ i l. h i (omega arith)) in omega arith

-- tests that agree on every pixel count the same pixels, and one that none passes counts none
pub pixels_same : (w h : ℕ) (a b : ℕ → ℕ → Bool) → ((x y : ℕ) → a x y ≡ b x y) → pixels w h a ≡ pixels w h b
unfolding pixels
pixels_same w h a b e = same_walk (λ i. a (i % w) (i / w)) (λ i. b (i % w) (i / w)) (w * h) (λ i l. e (i % w) (i / w))

pub pixels_empty : (w h : ℕ) (test : ℕ → ℕ → Bool) → ((x y : ℕ) → test x y ≡ false) → pixels w h test ≡ 0
unfolding pixels
pixels_empty w h test e = no_walk (λ i. test (i % w) (i / w)) (w * h) (λ i l. e (i % w) (i / w))

-- dark is 0 exactly when no pixel is judged dark
pub none_dark : (s : ReadingConfig) (w h : ℕ) (p : List ℕ) → (reading_of s w h p).dark ≡ 0 → (x y : ℕ) → x < w → y < h
    → is_dark (judged s w h p x y) ≡ false
unfolding reading_of pixels
none_dark s w h p e x y X Y =
    ap₂' (walk_none (λ i. is_dark (judged s w h p (i % w) (i / w))) (w * h) e (y * w + x) (in_plane w h x y X Y))
  where
    ap₂' : is_dark (judged s w h p ((y * w + x) % w) ((y * w + x) / w)) ≡ false → is_dark (judged s w h p x y) ≡ false
    ap₂' q =
        ap (λ (n : ℕ). is_dark (judged s w h p n y)) (sym (digits_mod y X))
        ∙ ap (λ (n : ℕ). is_dark (judged s w h p ((y * w + x) % w) n)) (sym (digits_div y X)) ∙ q

pub dark_none : (s : ReadingConfig) (w h : ℕ) (p : List ℕ) → 0 < w
    → ((x y : ℕ) → x < w → y < h → is_dark (judged s w h p x y) ≡ false) → (reading_of s w h p).dark ≡ 0
unfolding reading_of pixels
dark_none s w h p W n =
    no_walk (λ i. is_dark (judged s w h p (i % w) (i / w))) (w * h)
    (λ i l. n (i % w) (i / w) (mod-lt i W) (in_row w h i W l))

-- the comparisons stay below 24wh
pub comparisons_below : (s : ReadingConfig) (w h : ℕ) → 0 < w → 0 < h → 0 < s.division.structuring_element
    → 0 < s.opening_kernel → comparisons_of s w h < 24 * (w * h)
comparisons_below s w h W H K M = reading_below w h W H s.division.structuring_element s.opening_kernel K M

-- ---- counting row by row

walk_add : (p : ℕ → Bool) (a b : ℕ) → walk p (a + b) ≡ walk p a + walk (λ i. p (a + i)) b
unfolding walk
walk_add p a zero = rw (add-zero a) (sym (add-zero (walk p a)))
walk_add p a (suc b) = rw (add-suc a b) (let h = walk_add p a b in omega arith)

pub pixels_none : (w : ℕ) (test : ℕ → ℕ → Bool) → pixels w 0 test ≡ 0
unfolding pixels walk
pixels_none w test = ap (walk (λ i. test (i % w) (i / w))) (mul-zero w)

-- a row more
pub pixels_row : (w y : ℕ) (test : ℕ → ℕ → Bool) → 0 < w
    → pixels w (y + 1) test ≡ pixels w y test + walk (λ x. test x y) w
unfolding pixels
pixels_row w y test W =
    let p : ℕ → Bool = λ i. test (i % w) (i / w) in
    let e : w * (y + 1) ≡ w * y + w = mul-add w y 1 ∙ ap (λ (n : ℕ). w * y + n) (mul-one w) in
    ap (walk p) e
    ∙ walk_add p (w * y) w
    ∙ ap (λ (n : ℕ). walk p (w * y) + n)
    (same_walk (λ i. p (w * y + i)) (λ x. test x y) w
    (λ i l.
    let q : w * y + i ≡ y * w + i = ap (λ (n : ℕ). n + i) (mul_comm w y) in
    ap p q ∙ ap₂ test (digits_mod y l) (digits_div y l)))

-- no more pixels than there are
pub pixels_most : (w y : ℕ) (test : ℕ → ℕ → Bool) → pixels w y test ≤ w * y
unfolding pixels
pixels_most w y test = walk_le (λ i. test (i % w) (i / w)) (w * y)

-- ---- what accepted settings and workspaces say

-- each part of the settings is accepted
pub record SettingsSaid (s : ReadingConfig) : Type 0 where
  pub division : first (division_settings s.division) ≡ Ok tt
  pub kernel : bad_kernel s.opening_kernel ≡ false
  pub grid : first (grid_settings s.grid) ≡ Ok tt
  pub sauvola : first (sauvola_settings s.sauvola) ≡ Ok tt

pub settings_say : (s : ReadingConfig) → first (reading_settings s) ≡ Ok tt → SettingsSaid s
unfolding reading_settings
settings_say s p =
    let kernel = refused_if (bad_kernel s.opening_kernel) InvalidKernel in
    let last = grid_settings s.grid then sauvola_settings s.sauvola in
    let a = both_accepted (division_settings s.division) (kernel then last) p in
    let b = both_accepted kernel last a.1 in
    let c = both_accepted (grid_settings s.grid) (sauvola_settings s.sauvola) b.1 in
    record {
      division = a.0;
      kernel = not_refused (bad_kernel s.opening_kernel) InvalidKernel b.0;
      grid = c.0;
      sauvola = c.1;
    }

-- both workspaces hold what the reading asks for, and the count buffer its tile rows
pub record RoomSaid (g : Geometry) (s : ReadingConfig) (bytes u64s open_room : ℕ) : Type 0 where
  pub bytes_fit : reading_bytes s.grid g.width g.height ≤ bytes
  pub u64s_fit : reading_u64s s.grid g.width g.height ≤ u64s
  pub open_tiles_fit : tiles_y_of s.grid g.height ≤ open_room

pub room_says : (g : Geometry) (s : ReadingConfig) (bytes u64s open_room : ℕ)
    → first (reading_room g s bytes u64s open_room) ≡ Ok tt → RoomSaid g s bytes u64s open_room
room_says g s bytes u64s open_room p =
    let a = ltb bytes (reading_bytes s.grid g.width g.height) in
    let b = ltb u64s (reading_u64s s.grid g.width g.height) in
    let c = ltb open_room (tiles_y_of s.grid g.height) in
    let q = both_accepted (refused_if (a || b) WorkspaceTooSmall) (refused_if c GridBufferTooSmall) p in
    let n = neither a b (not_refused (a || b) WorkspaceTooSmall q.0) in
    record {
      bytes_fit = ltb-false bytes (reading_bytes s.grid g.width g.height) n.0;
      u64s_fit = ltb-false u64s (reading_u64s s.grid g.width g.height) n.1;
      open_tiles_fit = ltb-false open_room (tiles_y_of s.grid g.height) (not_refused c GridBufferTooSmall q.1);
    }
