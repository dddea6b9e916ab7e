-- Document 01, part 2: which samples a position reaches, and how many comparisons a sweep makes. Definitions only.
use Rattle.std.specs.Prelude.{ℕ, zero, suc, ◌+◌, ◌-◌, ◌*◌, ◌/◌, ◌%◌, min, Bool, true, not, cond, ◌&&◌, eqb}
use Rattle.imgproc.specs.Fold.{Box, bit}

-- low = max(0, i - r) and high = min(i + r, n - 1), r on either side of i in a line of n
abbrev pub low : ℕ → ℕ → ℕ
low r i = i - r

abbrev pub high : ℕ → ℕ → ℕ → ℕ
high r n i = min (i + r) (n - 1)

-- r = (k - 1) / 2
abbrev pub radius : ℕ → ℕ
radius k = (k - 1) / 2

-- low and high lie in one block of k
abbrev pub one_block : ℕ → ℕ → ℕ → Bool
one_block k n i = eqb (low (radius k) i / k) (high (radius k) n i / k)

-- the reach of i: low..high, or the whole block, clipped to the line, where both lie in one
unfoldable pub reach_from : ℕ → ℕ → ℕ → ℕ
reach_from k n i = cond (one_block k n i) (k * (low (radius k) i / k)) (low (radius k) i)

unfoldable pub reach_to : ℕ → ℕ → ℕ → ℕ
reach_to k n i = cond (one_block k n i) (min (k * (low (radius k) i / k) + k - 1) (n - 1)) (high (radius k) n i)

-- the reach of x times the reach of y, with the kernel kw along the rows and kh along the columns
abbrev pub reach_box : ℕ → ℕ → ℕ → ℕ → ℕ → ℕ → Box
reach_box kw kh w h x y =
    record { left = reach_from kw w x; right = reach_to kw w x; top = reach_from kh h y; bottom = reach_to kh h y }

-- how many indices below n pass a test: a walk along the line
unfoldable pub walk : (ℕ → Bool) → ℕ → ℕ
walk p zero = 0
walk p (suc i) = walk p i + bit (p i)

-- the indices at which a pass makes a comparison
abbrev pub forward_at : ℕ → ℕ → Bool
forward_at k i = not (eqb (i % k) 0)

abbrev pub backward_at : ℕ → ℕ → ℕ → Bool
backward_at k n i = not (eqb i (n - 1)) && not (eqb (i % k) (k - 1))

abbrev pub join_at : ℕ → Bool
join_at i = true

-- the comparisons of a sweep of one line of n
abbrev pub line_walks : ℕ → ℕ → ℕ
line_walks k n = walk (forward_at k) n + walk (backward_at k n) n + walk join_at n

-- the sum of the walks of a sweep of each of h rows of w, with the kernel kw, and of each of w columns of h, with kh
abbrev pub rect_walks : ℕ → ℕ → ℕ → ℕ → ℕ
rect_walks kw kh w h = h * line_walks kw w + w * line_walks kh h

-- of an erosion or a dilation
abbrev pub sweep_walks : ℕ → ℕ → ℕ → ℕ
sweep_walks k w h = rect_walks k k w h

-- ⌈n / k⌉
abbrev pub ceiling : ℕ → ℕ → ℕ
ceiling n k = (n + k - 1) / k

-- R(k)
unfoldable pub R : ℕ → ℕ → ℕ → ℕ
R k w h = h * (3 * w - 2 * ceiling w k) + w * (3 * h - 2 * ceiling h k)
