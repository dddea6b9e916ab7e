-- The lines of a forward, a backward and a joining pass, and the three passes together: one law over the order. Assumes nothing.
use mathlib.Core.Path.{◌≡◌, refl, ap, ap₂, ◌∙◌}
use mathlib.Core.Bool.{Bool}
use mathlib.Core.List.{List}
use mathlib.Core.Logic.{◌⊎◌, inl, inr, ⊎_elim}
use Prim.Native.Nat.{ℕ, ◌+◌, ◌-◌, ◌*◌, ◌%◌, ◌≤◌, ◌<◌}
use native.Mathlib.Nat.{mul-le-mul_right}
use native.Mathlib.Omega.{arith}
use lib.ListN.{length, get_or}
use borrow.Author.Tests.{eq-eqb, ne_eqb}
use Rattle.imgproc.specs.Extremes.{Order}
use Rattle.imgproc.specs.Reach.{walk, forward_at, backward_at, join_at, low, high, radius}
use Rattle.imgproc.specs.Walks.{walk_le}
use Rattle.imgproc.specs.declared.morphology.tally.Tally.{Tally}
use Rattle.imgproc.specs.declared.morphology.sweeps.Planes.{Planes}
use Rattle.imgproc.specs.Tallies.{Raised, HasRoom, raised_none, raised_twice, raised_as, room_left}
use Rattle.imgproc.specs.Sweeps.{
  lane,
  Apart,
  Outside,
  Rowed,
  Forwards,
  Backwards,
  Joins,
  PassReady,
  Passed,
  ForwardPassed,
  BackwardPassed,
  JoinPassed,
  area,
  LinesSwept,
}
use Rattle.imgproc.proofs.morphology.sweeps.Blocks.{
  forward_first,
  forward_next,
  backward_first,
  backward_next,
  backward_none,
  after,
  reached,
  seen,
  order,
}
use Rattle.imgproc.proofs.morphology.Lanes.{off, apart_within, apart_swap, outside_at, line_order, line_before, Downward, down_more, Upward, up_more}

-- a sample of a plane apart from the one that was written is as it was
pub plane_kept : {w h to : ℕ} {d a : List ℕ} (from x y j : ℕ) → Apart from (w * h) to (w * h) → Outside to (w * h) d a → x < w → y < h
    → j ≡ from + (y * w + x) → get_or a j 0 ≡ lane d from w x y
plane_kept {w} {h} {to} {d} {a} from x y j p o X Y e =
    let b = line_order w y h Y in
    outside_at j o (off j p (omega arith) (omega arith)) ∙ ap (λ (n : ℕ). get_or d n 0) e

module _ {R : ℕ → ℕ → Type 0} {op : ℕ → ℕ → ℕ} (o : Order R op) (k : ℕ) (pos : 0 < k)
    (from to w h : ℕ) (apart : Apart from (w * h) to (w * h)) (d : List ℕ) (tally : Tally) where
  -- ---- forward
  abbrev pub ForwardDown : ℕ → List ℕ → Tally → Type 0
  ForwardDown y a c = Downward (λ (x : ℕ). Forwards R k (lane d from w x)) (forward_at k) to w h y d a tally c

  pub forward_copy : {y : ℕ} {c : Tally} {a a' : List ℕ} → ForwardDown y a c → y < h → y % k ≡ 0
      → Rowed (to + y * w) w (λ (x : ℕ). get_or a (from + y * w + x) 0) a a' → ForwardDown (y + 1) a' c
  forward_copy {y} {a = a} s l z r =
      down_more (λ (x : ℕ). get_or a (from + y * w + x) 0) s l r
      (λ x m. rw (plane_kept from x y (from + y * w + x) apart s.lines.rest m l (omega arith)) (forward_first o k pos (lane d from w x) y z))
      (raised_none (simp (eq-eqb _ _ z) (omega arith)))

  pub forward_meet : {y : ℕ} {c c' : Tally} {a a' : List ℕ} → ForwardDown y a c → y < h → (y % k ≡ 0 → ⊥)
      → Rowed (to + y * w) w (λ (x : ℕ). op (get_or a (to + (y * w - w) + x) 0) (get_or a (from + y * w + x) 0)) a a' → Raised c w c' → ForwardDown (y + 1) a' c'
  forward_meet {y} {a = a} s l nz r e =
      let p : 0 < y = after k y nz in
      let up = line_before w y p in
      down_more (λ (x : ℕ). op (get_or a (to + (y * w - w) + x) 0) (get_or a (from + y * w + x) 0)) s l r
      (λ x m.
      let here = plane_kept from x y (from + y * w + x) apart s.lines.rest m l (omega arith) in
      let above : get_or a (to + (y * w - w) + x) 0 ≡ lane a to w x (y - 1) = ap (λ (n : ℕ). get_or a n 0) (omega arith) in
      rw (above, here) (forward_next o k pos (lane d from w x) y nz (s.lines.each x (y - 1) m (omega arith))))
      (raised_as e (simp (ne_eqb _ _ nz) (omega arith)))

  -- ---- backward: the turn at y writes line y - 1
  abbrev pub BackwardUp : ℕ → List ℕ → Tally → Type 0
  BackwardUp y a c = Upward (λ (x : ℕ). Backwards R k h (lane d from w x)) (backward_at k h) to w h y d a tally c

  pub backward_copy : {y : ℕ} {c : Tally} {a a' : List ℕ} → BackwardUp y a c → 0 < y → y ≤ h → ((y - 1) % k ≡ k - 1) ⊎ (y - 1 ≡ h - 1)
      → Rowed (to + (y - 1) * w) w (λ (x : ℕ). get_or a (from + (y - 1) * w + x) 0) a a' → BackwardUp (y - 1) a' c
  backward_copy {y} {a = a} s l u z r =
      up_more (λ (x : ℕ). get_or a (from + (y - 1) * w + x) 0) s l u r
      (λ x m.
      rw (plane_kept from x (y - 1) (from + (y - 1) * w + x) apart s.lines.rest m (omega arith) (omega arith))
      (backward_first o k pos (lane d from w x) h (y - 1) (omega arith) z))
      (raised_none (rw (backward_none k h (y - 1) z) (omega arith)))

  pub backward_meet : {y : ℕ} {c c' : Tally} {a a' : List ℕ} → BackwardUp y a c → 0 < y → y ≤ h → ((y - 1) % k ≡ k - 1 → ⊥) → (y - 1 ≡ h - 1 → ⊥)
      → Rowed (to + (y - 1) * w) w (λ (x : ℕ). op (get_or a (to + ((y - 1) * w + w) + x) 0) (get_or a (from + (y - 1) * w + x) 0)) a a'
      → Raised c w c' → BackwardUp (y - 1) a' c'
  backward_meet {y} {a = a} s l u nk nh r e =
      let same : (y - 1 + 1) * w ≡ y * w = ap (λ (n : ℕ). n * w) (omega arith) in
      let up = line_before w y l in
      up_more (λ (x : ℕ). op (get_or a (to + ((y - 1) * w + w) + x) 0) (get_or a (from + (y - 1) * w + x) 0)) s l u r
      (λ x m.
      let here = plane_kept from x (y - 1) (from + (y - 1) * w + x) apart s.lines.rest m (omega arith) (omega arith) in
      let next : get_or a (to + ((y - 1) * w + w) + x) 0 ≡ lane a to w x (y - 1 + 1) = ap (λ (n : ℕ). get_or a n 0) (omega arith) in
      rw (next, here)
      (backward_next o k pos (lane d from w x) h (y - 1) (omega arith) nk nh (s.lines.each x (y - 1 + 1) m (omega (arith, nh)))))
      (raised_as e (simp (ne_eqb _ _ nk, ne_eqb _ _ nh) (omega arith)))

-- ---- joining
module _ (op : ℕ → ℕ → ℕ) (k suffix prefix to w h : ℕ)
    (left : Apart suffix (w * h) to (w * h)) (right : Apart prefix (w * h) to (w * h)) (d : List ℕ) (tally : Tally) where
  abbrev pub JoinDown : ℕ → List ℕ → Tally → Type 0
  JoinDown y a c = Downward (λ (x : ℕ). Joins op k h (lane d suffix w x) (lane d prefix w x)) join_at to w h y d a tally c

  pub join_line : {y lo hi : ℕ} {c c' : Tally} {a a' : List ℕ} → JoinDown y a c → y < h → lo ≡ low (radius k) y → hi ≡ high (radius k) h y
      → Rowed (to + y * w) w (λ (x : ℕ). op (get_or a (suffix + lo * w + x) 0) (get_or a (prefix + hi * w + x) 0)) a a'
      → Raised c w c' → JoinDown (y + 1) a' c'
  join_line {y} {lo = lo} {hi = hi} {a = a} s l p q r e =
      down_more (λ (x : ℕ). op (get_or a (suffix + lo * w + x) 0) (get_or a (prefix + hi * w + x) 0)) s l r
      (λ x m.
      let back = plane_kept suffix x lo (suffix + lo * w + x) left s.lines.rest m (omega arith) (omega arith) in
      let forth = plane_kept prefix x hi (prefix + hi * w + x) right s.lines.rest m (omega arith) (omega arith) in
      ap₂ op back forth ∙ rw (p, q))
      (raised_as e (omega arith))

-- ---- the three passes: at each sample of each lane the extreme of its reach. The scratch at `spare` holds the forward extremes, then the backward ones
pub lines_swept : {least : Bool} {k : ℕ} {p : Planes} {t a b r : Tally} {d e f g : List ℕ} → 0 < k
    → Apart p.from (area p) p.spare (2 * area p)
    → ForwardPassed t d p k least a e → BackwardPassed a e p k least b f → JoinPassed b f p k least r g → LinesSwept t d p k least r g
lines_swept {least} {k} {p} {d = d} {f = f} {g = g} pos apart forth back joined = record {
  each = λ x y X Y.
      reached (order least) k pos (lane d p.from p.width x) p.height (lane f (p.spare + area p) p.width x) (lane f p.spare p.width x)
      (λ j l.
      seen
      (λ i s.
      plane_kept p.from x i (p.from + (i * p.width + x))
      (apart_within _ _ _ _ apart (omega arith) (omega arith) (omega arith) (omega arith))
      forth.rest
      X
      (omega arith)
      refl)
      (back.each x j X l))
      (λ j l. rw (plane_kept p.spare x j (p.spare + (j * p.width + x)) (record { clear = inl (omega arith) }) back.rest X l refl) (forth.each x j X l))
      y
      (lane g p.to p.width x y)
      Y
      (joined.each x y X Y);
  counted = raised_twice (raised_twice forth.counted back.counted refl) joined.counted (omega arith);
  kept = record {
    long = joined.rest.long ∙ back.rest.long ∙ forth.rest.long;
    same = λ j u q.
        outside_at j joined.rest u
        ∙ outside_at j back.rest (record { off = ⊎_elim (λ s. inl (omega arith)) (λ s. inr (omega arith)) q.off })
        ∙ outside_at j forth.rest (record { off = ⊎_elim (λ s. inl (omega arith)) (λ s. inr (omega arith)) q.off });
  };
}

-- the planes that a pass reads and writes lie apart: the source from both halves of the scratch, and these from the target
module _ {t : Tally} {d : List ℕ} {p : Planes} {k : ℕ} (ready : PassReady t d p k) where
  pub forth_apart : Apart p.from (area p) p.spare (area p)
  forth_apart = apart_within _ _ _ _ ready.source_apart (omega arith) (omega arith) (omega arith) (omega arith)

  pub back_apart : Apart p.from (area p) (p.spare + area p) (area p)
  back_apart = apart_within _ _ _ _ ready.source_apart (omega arith) (omega arith) (omega arith) (omega arith)

  pub prefix_apart : Apart p.spare (area p) p.to (area p)
  prefix_apart = apart_within _ _ _ _ (apart_swap ready.target_apart) (omega arith) (omega arith) (omega arith) (omega arith)

  pub suffix_apart : Apart (p.spare + area p) (area p) p.to (area p)
  suffix_apart = apart_within _ _ _ _ (apart_swap ready.target_apart) (omega arith) (omega arith) (omega arith) (omega arith)

-- what a later pass asks
pub pass_again : {t a : Tally} {d e : List ℕ} {p : Planes} {k : ℕ} → PassReady t d p k → length e ≡ length d → HasRoom a (area p) → PassReady a e p k
pass_again q long room = record {
  source = omega (arith, q.source);
  target = omega (arith, q.target);
  scratch = omega (arith, q.scratch);
  source_apart = q.source_apart;
  target_apart = q.target_apart;
  kernel = q.kernel;
  room = room;
}

-- after a pass there is room in the tally for what the plane's samples leave
pub passed_room : {P : ℕ → ℕ → ℕ → Type 0} {test : ℕ → Bool} {t a : Tally} {d e : List ℕ} {to w h n l : ℕ}
    → HasRoom t n → Passed P test t d to w h a e → w * h + l ≤ n → HasRoom a l
passed_room {test = test} {w = w} {h = h} room p e =
    let b : walk test h * w ≤ h * w = mul-le-mul_right w (walk_le test h) in
    room_left room p.counted (omega arith)
