-- Rows of lanes written in a workspace, and passes that have come some lines down or up a plane. Assumes nothing.
use mathlib.Core.Path.{◌≡◌, refl, sym, ap, ◌∙◌, subst}
use mathlib.Core.Bool.{Bool, true}
use mathlib.Core.List.{List}
use mathlib.Core.Logic.{inl, inr, ⊎_elim}
use Prim.Native.Nat.{ℕ, ◌+◌, ◌-◌, ◌*◌, ◌≤◌, ◌<◌}
use native.Mathlib.Nat.{not-suc-le-zero, mul-le-mul_right, add-mul}
use native.Mathlib.Omega.{arith}
use lib.ListN.{length, get_or, set, length-set}
use lib.Seq.{get_or-set_same, get_or-set_other}
use Rattle.imgproc.specs.Fold.{bit}
use Rattle.imgproc.specs.Reach.{walk}
use Rattle.imgproc.specs.Walks.{cases, walk_more, walk_le}
use Rattle.imgproc.specs.declared.morphology.tally.Tally.{Tally}
use Rattle.imgproc.specs.Tallies.{Raised, HasRoom, raised_none, raised_twice, room_left}
use Rattle.imgproc.specs.Sweeps.{lane, Apart, Off, Outside, Rowed, Passed}

-- ---- places

-- a place of a stretch is off each stretch apart from it
pub off : {a m b n : ℕ} (j : ℕ) → Apart a m b n → a ≤ j → j < a + m → Off b n j
off j p l h = record { off = ⊎_elim (λ q. inl (omega arith)) (λ q. inr (omega arith)) p.clear }

-- stretches within stretches that are apart
pub apart_within : {a m b n : ℕ} (a' m' b' n' : ℕ) → Apart a m b n → a ≤ a' → a' + m' ≤ a + m → b ≤ b' → b' + n' ≤ b + n → Apart a' m' b' n'
apart_within a' m' b' n' p x y z w = record { clear = ⊎_elim (λ q. inl (omega arith)) (λ q. inr (omega arith)) p.clear }

pub apart_swap : {a m b n : ℕ} → Apart a m b n → Apart b n a m
apart_swap p = record { clear = ⊎_elim (λ q. inr q) (λ q. inl q) p.clear }

-- line y ends before line z starts
pub line_order : (w y z : ℕ) → y < z → y * w + w ≤ z * w
line_order w y z l = let h : (y + 1) * w ≤ z * w = mul-le-mul_right w (omega arith) in omega arith

pub line_before : (w y : ℕ) → 0 < y → y * w ≡ (y - 1) * w + w
line_before w y l = (ap (λ (n : ℕ). n * w) (omega arith) ∙ add-mul (y - 1) 1 w) ∙ omega arith

-- ---- what is kept

pub outside_at : {at n : ℕ} {d d' : List ℕ} (j : ℕ) → Outside at n d d' → Off at n j → get_or d' j 0 ≡ get_or d j 0
outside_at j o p = ⊎_elim (o.before j) (o.after j) p.off

-- a stretch of a stretch that may change, after it
pub outside_more : {at n : ℕ} {d d' d'' : List ℕ} (a m : ℕ) → Outside at n d d' → Outside a m d' d'' → at ≤ a → a + m ≤ at + n → Outside at n d d''
outside_more a m p q l h = record {
  long = q.long ∙ p.long;
  before = λ j x. q.before j (omega arith) ∙ p.before j x;
  after = λ j x. q.after j (omega arith) ∙ p.after j x;
}

-- ---- one row of lanes, sample by sample
module _ (at : ℕ) (g : ℕ → ℕ) (d : List ℕ) where
  pub row_more : (x v : ℕ) (a : List ℕ) → Rowed at x g d a → at + x < length a → v ≡ g x → Rowed at (x + 1) g d (set a (at + x) v)
  row_more x v a h l e = record {
    each = λ j m.
        cases j x
        (λ q. ap (λ (k : ℕ). get_or (set a (at + x) v) (at + k) 0) q ∙ get_or-set_same a (at + x) v 0 l ∙ e ∙ ap g (sym q))
        (λ q. get_or-set_other a (at + x) (at + j) v 0 (λ z. omega arith) ∙ h.each j q)
        (λ q. absurd (omega arith));
    rest = record {
      long = length-set a (at + x) v ∙ h.rest.long;
      before = λ j m. get_or-set_other a (at + x) j v 0 (λ z. omega arith) ∙ h.rest.before j m;
      after = λ j m. get_or-set_other a (at + x) j v 0 (λ z. omega arith) ∙ h.rest.after j (omega arith);
    };
  }

  -- what lies apart from the row is as it was
  pub row_apart : {from n w : ℕ} (x j : ℕ) (a : List ℕ) → Rowed at x g d a → Apart from n at w → x ≤ w → from ≤ j → j < from + n → get_or a j 0 ≡ get_or d j 0
  row_apart x j a h p l m q = ⊎_elim (λ s. h.rest.before j (omega arith)) (λ s. h.rest.after j (omega arith)) p.clear

-- ---- the lines of a plane that are done: P holds at each of their samples, and nothing outside the plane has changed
pub record Done (P : ℕ → ℕ → ℕ → Type 0) (D : ℕ → Type 0) (to w h : ℕ) (d d' : List ℕ) : Type 0 where
  pub each : (x y : ℕ) → x < w → D y → P x y (lane d' to w x y)
  pub rest : Outside to (w * h) d d'

module _ {P : ℕ → ℕ → ℕ → Type 0} {D D' : ℕ → Type 0} {to w h : ℕ} {d a a' : List ℕ} (y : ℕ) (g : ℕ → ℕ) where
  -- one line more is done
  pub done_more : y < h → Done P D to w h d a → Rowed (to + y * w) w g a a' → ((x : ℕ) → x < w → P x y (g x))
      → ((i : ℕ) → D' i → (i ≡ y → ⊥) → D i) → Done P D' to w h d a'
  done_more b r q here rest = record {
    each = λ x i l m.
        cases i y
        (λ e. rw e (subst (λ (v : ℕ). P x y v) (sym (q.each x l) ∙ ap (λ (j : ℕ). get_or a' j 0) (omega arith)) (here x l)))
        (λ e. rw (q.rest.before (to + (i * w + x)) (omega (arith, line_order w i y e))) (r.each x i l (rest i m (λ z. omega arith))))
        (λ e. rw (q.rest.after (to + (i * w + x)) (omega (arith, line_order w y i e))) (r.each x i l (rest i m (λ z. omega arith))));
    rest = outside_more (to + y * w) w r.rest q.rest (omega arith) (omega (arith, line_order w y h b));
  }

pub done_none : (P : ℕ → ℕ → ℕ → Type 0) {D : ℕ → Type 0} (to w h : ℕ) (d : List ℕ) → ((i : ℕ) → D i → ⊥) → Done P D to w h d d
done_none P to w h d n = record { each = λ x y l m. absurd (n y m); rest = record { long = refl; before = λ j l. refl; after = λ j l. refl } }

-- ---- a pass that has come down to line y
pub record Downward (P : ℕ → ℕ → ℕ → Type 0) (test : ℕ → Bool) (to w h y : ℕ) (d d' : List ℕ) (tally raised : Tally) : Type 0 where
  pub lines : Done P (λ (i : ℕ). i < y) to w h d d'
  pub counted : Raised tally (walk test y * w) raised

module _ {P : ℕ → ℕ → ℕ → Type 0} {test : ℕ → Bool} {to w h : ℕ} {d : List ℕ} {tally : Tally} where
  pub down_none : Downward P test to w h 0 d d tally tally
  unfolding walk
  down_none = record { lines = done_none P to w h d (λ i m. not-suc-le-zero m); counted = raised_none (omega arith) }

  pub down_more : {y : ℕ} {c c' : Tally} (g : ℕ → ℕ) {a a' : List ℕ} → Downward P test to w h y d a tally c → y < h → Rowed (to + y * w) w g a a'
      → ((x : ℕ) → x < w → P x y (g x)) → Raised c (bit (test y) * w) c' → Downward P test to w h (y + 1) d a' tally c'
  down_more {y} g s l r each e =
      let more : walk test (y + 1) * w ≡ walk test y * w + bit (test y) * w = ap (λ (n : ℕ). n * w) (walk_more test y) ∙ omega arith in
      record { lines = done_more y g l s.lines r each (λ i m ne. omega arith); counted = raised_twice s.counted e more }

  -- the tally so far has room for a line more
  pub down_room : {y : ℕ} {c : Tally} {a : List ℕ} → HasRoom tally (w * h) → Downward P test to w h y d a tally c → y < h → HasRoom c w
  down_room {y} room s l =
      let b : walk test y * w ≤ y * w = mul-le-mul_right w (walk_le test y) in
      room_left room s.counted (omega (arith, line_order w y h l))

-- the walk to y, by that to the line above
walk_above : (test : ℕ → Bool) (y : ℕ) → 0 < y → walk test y ≡ walk test (y - 1) + bit (test (y - 1))
walk_above test y l = ap (walk test) (omega arith) ∙ walk_more test (y - 1)

-- ---- a pass that has come up to line y, and has met so many lines on its way
pub record Upward (P : ℕ → ℕ → ℕ → Type 0) (test : ℕ → Bool) (to w h y : ℕ) (d d' : List ℕ) (tally raised : Tally) : Type 0 where
  pub lines : Done P (λ (i : ℕ). (y ≤ i) × (i < h)) to w h d d'
  pub met : ℕ
  pub ahead : met + walk test y ≡ walk test h
  pub counted : Raised tally (met * w) raised

module _ {P : ℕ → ℕ → ℕ → Type 0} {test : ℕ → Bool} {to w h : ℕ} {d : List ℕ} {tally : Tally} where
  pub up_more : {y : ℕ} {c c' : Tally} (g : ℕ → ℕ) {a a' : List ℕ} → Upward P test to w h y d a tally c → 0 < y → y ≤ h → Rowed (to + (y - 1) * w) w g a a'
      → ((x : ℕ) → x < w → P x (y - 1) (g x)) → Raised c (bit (test (y - 1)) * w) c' → Upward P test to w h (y - 1) d a' tally c'
  up_more {y} g s l u r each e = record {
    lines = done_more (y - 1) g (omega arith) s.lines r each (λ i m ne. omega arith);
    met = s.met + bit (test (y - 1));
    ahead = omega (arith, s.ahead, walk_above test y l);
    counted = raised_twice s.counted e (add-mul s.met (bit (test (y - 1))) w);
  }

  pub up_room : {y : ℕ} {c : Tally} {a : List ℕ} → HasRoom tally (w * h) → Upward P test to w h y d a tally c → 0 < y → test (y - 1) ≡ true → HasRoom c w
  up_room {y} room s l t =
      let one : bit (test (y - 1)) ≡ 1 = rw t refl in
      let b : (s.met + 1) * w ≤ h * w = mul-le-mul_right w (omega (arith, s.ahead, walk_above test y l, walk_le test h)) in
      room_left room s.counted (omega arith)

  pub up_all : {y : ℕ} {c : Tally} {a : List ℕ} → Upward P test to w h y d a tally c → y ≡ 0 → Passed P test tally d to w h c a
  unfolding walk
  up_all {y} s e =
      let none : walk test y ≡ 0 = ap (walk test) e in
      let all : s.met ≡ walk test h = omega (arith, none, s.ahead) in
      record { each = λ x i m n. s.lines.each x i m (omega arith); rest = s.lines.rest; counted = rw all at s.counted }
