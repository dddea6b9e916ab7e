-- An opening lies under its source and a closing over it, away from the border; every monotone map of samples, a cut at
-- a level among them, commutes with the four operations, at the border too. One law over the order gives both halves of
-- each. Assumes nothing.
use Rattle.std.specs.Prelude.{◌≡◌, refl, Bool, true, false, cond, List, [], ◌∷◌, map, ℕ, zero, suc, ◌+◌, ◌-◌, ◌*◌, ◌/◌, ◌%◌, ◌≤◌, ◌<◌, min, length, get_or}
use Rattle.std.proofs.Common.{sym, ap, ◌∙◌, subst, le_trans, le_of_suc-le-suc, not-suc-le-zero, zero-mul, arith, ext_get_or, eqb-true, le-leb, leb-true}
use Rattle.std.proofs.lemmas.List.{length-map}
use Rattle.std.proofs.lemmas.Bool.{lt-leb}
use Rattle.image.specs.Plane.{pixel}
use Rattle.image.specs.PlaneLaws.{in_plane, is_plane}
use Rattle.imgproc.specs.Extremes.{Extreme, Order, High, lowest, highest, Between, Inside, Near, unique}
use Rattle.imgproc.specs.Reach.{low, high, radius, one_block, reach_from, reach_to, reach_box}
use Rattle.imgproc.specs.Walks.{place}
use Rattle.imgproc.specs.Morphology.{swept_rect, eroded, dilated, opened, closed}
use Rattle.imgproc.specs.MorphologyLaws.{reach_in, length-swept, swept_extreme}
use Rattle.imgproc.specs.declared.morphology.Operation.{Operation}
use Rattle.imgproc.specs.declared.morphology.Operation.TheVariants.{Erode, Dilate, Open, Close}
use Rattle.imgproc.specs.MorphologyCalls.{operated}
use Rattle.imgproc.specs.UnderOver.{Inner, InnerBefore, InnerAtMost, cut, Monotone, Commutes}

-- ---- reaches

-- an inner position reaches r to either side, if the kernel is odd: a block that holds low and high is as long, and so
-- it is low..high
pub reach_inner : (k n i : ℕ) → k % 2 ≡ 1 → Inner (radius k) n i
    → (reach_from k n i ≡ i - radius k) × (reach_to k n i ≡ i + radius k)
unfolding reach_from reach_to
reach_inner k n i odd inner = go (one_block k n i) refl
  where
    long : k ≡ 2 * radius k + 1
    long = omega arith

    end : high (radius k) n i ≡ i + radius k
    end = omega (arith, inner.after)

    go : (b : Bool) → one_block k n i ≡ b
        → (cond b (k * (low (radius k) i / k)) (low (radius k) i) ≡ i - radius k)
        × (cond b (min (k * (low (radius k) i / k) + k - 1) (n - 1)) (high (radius k) n i) ≡ i + radius k)
    go true e =
        let start = place k (low (radius k) i) (omega arith) in
        let stop = place k (high (radius k) n i) (omega arith) in
        let one : k * (low (radius k) i / k) ≡ k * (high (radius k) n i / k) = ap (λ (q : ℕ). k * q) (eqb-true _ _ e) in
        let block : k * (low (radius k) i / k) ≡ i - radius k = omega (arith, inner.before) in
        (block, omega (arith, inner.before, inner.after))
    go false e = (refl, end)

-- each position reaches whatever is as near as r
pub near_reached : (k n i j : ℕ) → 0 < k → i < n → j < n → Near (radius k) i j
    → Between (reach_from k n j) (reach_to k n j) i
unfolding reach_from reach_to
near_reached k n i j K I J near = go (one_block k n j) refl
  where
    go : (b : Bool) → one_block k n j ≡ b
        → Between
        (cond b (k * (low (radius k) j / k)) (low (radius k) j))
        (cond b (min (k * (low (radius k) j / k) + k - 1) (n - 1)) (high (radius k) n j)) i
    go true e =
        let a = place k (low (radius k) j) K in
        let z = place k (high (radius k) n j) K in
        let s : k * (low (radius k) j / k) ≡ k * (high (radius k) n j / k) = ap (λ (q : ℕ). k * q) (eqb-true _ _ e) in
        (omega arith, omega arith)
    go false e = (omega arith, omega arith)

-- ---- under and over

-- a picture that is swept by one order and then by another stands before its source under the first, at inner pixels:
-- there the second sweep takes the value of a pixel whose own reach holds the source's sample
pub swept_back : {R R' : ℕ → ℕ → Type 0} {op op' : ℕ → ℕ → ℕ} → Order R op → Order R' op'
    → (kw kh w h : ℕ) → kw % 2 ≡ 1 → kh % 2 ≡ 1 → (p : List ℕ)
    → InnerBefore R (radius kw) (radius kh) w h
    (pixel (swept_rect op' kw kh w h (swept_rect op kw kh w h p)) w) (pixel p w)
swept_back {R} {op = op} o o' kw kh w h X Y p x y across down =
    let first = swept_rect op kw kh w h p in
    let wide : x < w = omega (arith, across.after) in
    let tall : y < h = omega (arith, down.after) in
    let second = swept_extreme o' kw kh w h (omega arith) (omega arith) first x y wide tall in
    let u = second.at.0 in
    let v = second.at.1 in
    let across' : u < w = omega (arith, second.within.0.1, reach_in kw w x (omega arith) wide) in
    let down' : v < h = omega (arith, second.within.1.1, reach_in kh h y (omega arith) tall) in
    let back =
    (swept_extreme o kw kh w h (omega arith) (omega arith) p u v across' down').bound (x, y) (
      near_reached kw w x u (omega arith) wide across' (omega (arith, reach_inner kw w x X across)),
      near_reached kh h y v (omega arith) tall down' (omega (arith, reach_inner kh h y Y down)),
    ) in
    subst (λ (n : ℕ). R n (pixel p w x y)) {x = pixel first w u v} second.is back

module _ (k w h : ℕ) (odd : k % 2 ≡ 1) (p : List ℕ) where
  -- opening ≤ source
  pub opened_under : InnerAtMost k w h (pixel (opened k w h p) w) (pixel p w)
  opened_under = swept_back lowest highest k k w h odd odd p

  -- source ≤ closing
  pub closed_over : InnerAtMost k w h (pixel p w) (pixel (closed k w h p) w)
  closed_over = swept_back highest lowest k k w h odd odd p

-- ---- maps of samples

-- the sample at i of a mapped list
mapped_at : (f : ℕ → ℕ) (p : List ℕ) (i : ℕ) → i < length p → get_or (map f p) i 0 ≡ f (get_or p i 0)
mapped_at f [] i l = absurd (not-suc-le-zero l)
mapped_at f (v ∷ p) zero l = refl
mapped_at f (v ∷ p) (suc i) l = mapped_at f p i (le_of_suc-le-suc l)

-- pixel (x, y) of a mapped picture
pub pixel_mapped : (f : ℕ → ℕ) (w h : ℕ) (p : List ℕ) → length p ≡ w * h → (x y : ℕ) → x < w → y < h
    → pixel (map f p) w x y ≡ f (pixel p w x y)
pixel_mapped f w h p l x y X Y = mapped_at f p (y * w + x) (omega (arith, in_plane w h x y X Y))

-- two packed pictures with the same pixels are the same, even if they have none
same_picture : (w h : ℕ) (p q : List ℕ) → length p ≡ w * h → length q ≡ w * h
    → ((x y : ℕ) → x < w → y < h → pixel p w x y ≡ pixel q w x y) → p ≡ q
same_picture zero h p q l m each = ext_get_or 0 p q (l ∙ sym m) (λ i b. absurd (omega (arith, zero-mul h)))
same_picture (suc w) h p q l m each =
    is_plane (suc w) h (pixel q (suc w)) p (omega arith) l each
    ∙ sym (is_plane (suc w) h (pixel q (suc w)) q (omega arith) m (λ x y X Y. refl))

-- a map keeps the order R
abbrev pub Keeps : (ℕ → ℕ → Type 0) → (ℕ → ℕ) → Type 0
Keeps R f = (a b : ℕ) → R a b → R (f a) (f b)

-- a map that keeps the order commutes with a sweep: the extreme, mapped, is the extreme of the mapped samples
module _ {R : ℕ → ℕ → Type 0} {op : ℕ → ℕ → ℕ} (o : Order R op) (f : ℕ → ℕ) (keeps : Keeps R f)
    (kw kh w h : ℕ) (X : 0 < kw) (Y : 0 < kh) where
  mapped_extreme : (p : List ℕ) → length p ≡ w * h → (x y : ℕ) → x < w → y < h
      → Extreme R (Inside (reach_box kw kh w h x y)) (λ q. pixel (map f p) w q.0 q.1)
      (f (pixel (swept_rect op kw kh w h p) w x y))
  mapped_extreme p l x y a b =
      let v = pixel (swept_rect op kw kh w h p) w x y in
      let e = swept_extreme o kw kh w h X Y p x y a b in
      let here : (q : ℕ × ℕ) → Inside (reach_box kw kh w h x y) q
      → pixel (map f p) w q.0 q.1 ≡ f (pixel p w q.0 q.1) = λ q i.
      pixel_mapped f w h p l q.0 q.1
      (omega (arith, i.0.1, reach_in kw w x X a)) (omega (arith, i.1.1, reach_in kh h y Y b)) in
      record {
        bound = λ q i. subst (λ (n : ℕ). R (f v) n) (sym (here q i)) (keeps _ _ (e.bound q i));
        at = e.at;
        within = e.within;
        is = here e.at e.within ∙ ap f e.is;
      }

  pub swept_commutes : Commutes f w h (swept_rect op kw kh w h)
  swept_commutes p l =
      let s = swept_rect op kw kh w h p in
      let n = length-swept op kw kh w h p in
      same_picture w h (swept_rect op kw kh w h (map f p)) (map f s)
      (length-swept op kw kh w h (map f p)) (length-map s f ∙ n)
      (λ x y a b.
      unique o (swept_extreme o kw kh w h X Y (map f p) x y a b) (mapped_extreme p l x y a b)
      ∙ sym (pixel_mapped f w h s n x y a b))

-- and so with two sweeps, by one order and then by another
pub swept_twice_commutes : {R R' : ℕ → ℕ → Type 0} {op op' : ℕ → ℕ → ℕ} → Order R op → Order R' op'
    → (f : ℕ → ℕ) → Keeps R f → Keeps R' f → (kw kh w h : ℕ) → 0 < kw → 0 < kh
    → Commutes f w h (λ p. swept_rect op' kw kh w h (swept_rect op kw kh w h p))
swept_twice_commutes {op = op} {op' = op'} o o' f k k' kw kh w h X Y p l =
    ap (swept_rect op' kw kh w h) (swept_commutes o f k kw kh w h X Y p l)
    ∙ swept_commutes o' f k' kw kh w h X Y (swept_rect op kw kh w h p) (length-swept op kw kh w h p)

-- every monotone map commutes with the four operations
module _ (f : ℕ → ℕ) (monotone : Monotone f) (k w h : ℕ) (K : 0 < k) where
  keeps_high : Keeps High f
  keeps_high a b l = monotone b a l

  pub eroded_commutes : Commutes f w h (eroded k w h)
  eroded_commutes = swept_commutes lowest f monotone k k w h K K

  pub dilated_commutes : Commutes f w h (dilated k w h)
  dilated_commutes = swept_commutes highest f keeps_high k k w h K K

  pub opened_commutes : Commutes f w h (opened k w h)
  opened_commutes = swept_twice_commutes lowest highest f monotone keeps_high k k w h K K

  pub closed_commutes : Commutes f w h (closed k w h)
  closed_commutes = swept_twice_commutes highest lowest f keeps_high monotone k k w h K K

  pub operated_commutes : (operation : Operation) → Commutes f w h (operated operation k w h)
  operated_commutes Erode = eroded_commutes
  operated_commutes Dilate = dilated_commutes
  operated_commutes Open = opened_commutes
  operated_commutes Close = closed_commutes

-- ---- cuts

-- what a cut is: 0 at or below the level
pub cut_at : (level v : ℕ) → v ≤ level → cut level v ≡ 0
cut_at level v l = rw (le-leb v level l)

-- and 255 above it
pub cut_above : (level v : ℕ) → level < v → cut level v ≡ 255
cut_above level v l = rw (lt-leb v level l)

-- of two choices the first is not above the second, if its test holds wherever the second's does and no number that may
-- then be chosen is above the other's
choice : {l h l' h' : ℕ} → l ≤ l' → l ≤ h' → h ≤ h' → {s t : Bool} → (t ≡ true → s ≡ true) → cond s l h ≤ cond t l' h'
choice low across high {s = true} {t = true} i = low
choice low across high {s = true} {t = false} i = across
choice low across high {s = false} {t = true} i = let e = i refl in let z : ◌≡◌ {A = ℕ} 0 1 = cc in absurd (omega arith)
choice low across high {s = false} {t = false} i = high

-- a cut is monotone: what lies at or below a sample that is at or below the level is so too
pub cut_monotone : (level : ℕ) → Monotone (cut level)
cut_monotone level a b l =
    choice (omega arith) (omega arith) (omega arith) (λ e. le-leb a level (le_trans l (leb-true b level e)))

-- so cutting and then eroding, dilating, opening or closing is doing it and then cutting
module _ (level k w h : ℕ) (K : 0 < k) where
  pub eroded_cut : Commutes (cut level) w h (eroded k w h)
  eroded_cut = eroded_commutes (cut level) (cut_monotone level) k w h K

  pub dilated_cut : Commutes (cut level) w h (dilated k w h)
  dilated_cut = dilated_commutes (cut level) (cut_monotone level) k w h K

  pub opened_cut : Commutes (cut level) w h (opened k w h)
  opened_cut = opened_commutes (cut level) (cut_monotone level) k w h K

  pub closed_cut : Commutes (cut level) w h (closed k w h)
  closed_cut = closed_commutes (cut level) (cut_monotone level) k w h K
