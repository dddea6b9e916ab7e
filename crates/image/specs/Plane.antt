-- Pictures as lists: pixels of a strided picture, packed pictures, and a destination after a call. Definitions only.
use Rattle.std.specs.Prelude.{ℕ, zero, suc, ◌+◌, ◌*◌, ◌/◌, ◌%◌, cond, ◌&&◌, List, [], ◌∷◌, ◌++◌, ltb, length, get_or, take, drop}
use Rattle.image.specs.declared.Geometry.{Geometry}

-- pixel (x, y): the number at y × stride + x. The stride of a packed picture is its width
abbrev pub pixel : List ℕ → ℕ → ℕ → ℕ → ℕ
pixel d stride x y = get_or d (y * stride + x) 0

-- f i, f (i + 1), .., n of them
unfoldable pub tabulate_from : (ℕ → ℕ) → ℕ → ℕ → List ℕ
tabulate_from f i zero = []
tabulate_from f i (suc n) = f i ∷ tabulate_from f (suc i) n

-- f 0, f 1, .., n of them
unfoldable pub tabulate : (ℕ → ℕ) → ℕ → List ℕ
unfolding tabulate_from
tabulate f n = tabulate_from f 0 n

-- a packed picture: w × h numbers, row after row; pixel (x, y) is f x y
unfoldable pub plane : ℕ → ℕ → (ℕ → ℕ → ℕ) → List ℕ
unfolding tabulate
plane w h f = tabulate (λ i. f (i % w) (i / w)) (w * h)

-- the pixels of a strided picture, packed
unfoldable pub packed : List ℕ → ℕ → ℕ → ℕ → List ℕ
unfolding plane
packed d w h stride = plane w h (pixel d stride)

-- the picture of a geometry in a slice, packed
abbrev pub picture : List ℕ → Geometry → List ℕ
picture d g = packed d g.width g.height g.stride

-- the n numbers from `at` on
abbrev pub part : ℕ → ℕ → List ℕ → List ℕ
part at n d = take n (drop at d)

-- d with the numbers p from `at` on, and every other as it was
abbrev pub overwritten : ℕ → List ℕ → List ℕ → List ℕ
overwritten at p d = take at d ++ (p ++ drop (at + length p) d)

-- each number by its place: g i b for the number b at i, counted from k
unfoldable pub map_from : (ℕ → ℕ → ℕ) → ℕ → List ℕ → List ℕ
map_from g k [] = []
map_from g k (b ∷ bs) = g k b ∷ map_from g (suc k) bs

-- the byte at i of a painted destination that held b: pixel (i % stride, i / stride) of the packed picture p where that
-- is a pixel, else b
abbrev pub painted_at : List ℕ → ℕ → ℕ → ℕ → ℕ → ℕ → ℕ
painted_at p w h stride i b = cond (ltb (i % stride) w && ltb (i / stride) h) (pixel p w (i % stride) (i / stride)) b

-- a destination after a call: the packed picture p in its rows, and each byte outside the rows as it was
unfoldable pub painted : List ℕ → ℕ → ℕ → ℕ → List ℕ → List ℕ
unfolding map_from
painted p w h stride d = map_from (painted_at p w h stride) 0 d

-- a destination of a geometry after a call: the packed picture p in its rows
abbrev pub painted_on : List ℕ → Geometry → List ℕ → List ℕ
painted_on d g p = painted p g.width g.height g.stride d
