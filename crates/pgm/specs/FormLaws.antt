-- A header can be read in one way only, so an input has the form for at most one pair of sides; and how long a picture
-- is. Assumes nothing.
use Rattle.std.specs.Prelude.{ℕ, ◌*◌, ◌/◌, ◌%◌, ◌≤◌, ◌<◌, ◌≡◌, refl, List, ◌∷◌, ◌++◌, length, drop}
use Rattle.std.proofs.Common.{mul-le-mul, arith, sym, ap, ◌∙◌, append_assoc, ⊎_elim, length-append}
use Rattle.std.proofs.Math.Seq.{drop-append_seam}
use Rattle.pgm.specs.Decimal.{digit, digits_of, decimal}
use Rattle.pgm.specs.DecimalLaws.{small_or, decimal_one, decimal_two, decimal_short}
use Rattle.pgm.specs.Form.{side_limit, magic, ending, header, Form, header_limit, longest}

-- two sides are the same, and so are the bytes after them
abbrev pub Same : ℕ → ℕ → List ℕ → List ℕ → Type 0
Same n m a b = (n ≡ m) × (a ≡ b)

-- two sides, each with a space after it, that are read in the same bytes
module _ (n m : ℕ) (a b : List ℕ) (e : decimal n ++ (32 ∷ a) ≡ decimal m ++ (32 ∷ b)) where
  -- they are the same if both have one digit, or both have two
  both_one : n < 10 → m < 10 → Same n m a b
  both_one s t =
      let f : digit n ∷ 32 ∷ a ≡ digit m ∷ 32 ∷ b = rw (decimal_one n s, decimal_one m t) at e in
      let p : digit n ≡ digit m = cc in
      (omega arith, cc)

  both_two : 10 ≤ n → n < 100 → 10 ≤ m → m < 100 → Same n m a b
  both_two l s k t =
      let f : digit (n / 10) ∷ digit (n % 10) ∷ 32 ∷ a ≡ digit (m / 10) ∷ digit (m % 10) ∷ 32 ∷ b =
      rw (decimal_two n l s, decimal_two m k t) at e in
      let p : digit (n / 10) ≡ digit (m / 10) = cc in
      let q : digit (n % 10) ≡ digit (m % 10) = cc in
      (omega arith, cc)

  -- one digit against two cannot be: the space stands where the other has its second digit
  one_two : n < 10 → 10 ≤ m → m < 100 → ⊥
  one_two s k t =
      let f : digit n ∷ 32 ∷ a ≡ digit (m / 10) ∷ digit (m % 10) ∷ 32 ∷ b =
      rw (decimal_one n s, decimal_two m k t) at e in
      let p : 32 ≡ digit (m % 10) = cc in
      omega arith

-- a side that a space ends is read in one way only
pub same_side : (n m : ℕ) (a b : List ℕ) → n < 100 → m < 100
    → decimal n ++ (32 ∷ a) ≡ decimal m ++ (32 ∷ b) → Same n m a b
same_side n m a b N M e =
    ⊎_elim
    (λ s. ⊎_elim (λ t. both_one n m a b e s t) (λ k. absurd (one_two n m a b e s k M)) (small_or m))
    (λ l. ⊎_elim (λ t. absurd (one_two m n b a (sym e) t l N)) (λ k. both_two n m a b e l N k M) (small_or m))
    (small_or n)

-- a header and what follows it, part by part
pub header_parts : (w h : ℕ) (rest : List ℕ)
    → header w h ++ rest ≡ magic ++ (decimal w ++ (32 ∷ (decimal h ++ (32 ∷ (ending ++ rest)))))
header_parts w h rest = simp append_assoc

-- a header is read in one way only
pub same_header : (w h v g : ℕ) (a b : List ℕ) → w ≤ side_limit → h ≤ side_limit → v ≤ side_limit → g ≤ side_limit →
    header w h ++ a ≡ header v g ++ b → (w ≡ v) × ((h ≡ g) × (a ≡ b))
same_header w h v g a b ww hh vv gg e =
    let p = sym (header_parts w h a) ∙ e ∙ header_parts v g b in
    let x = same_side w v _ _ (omega arith) (omega arith) (ap (drop 3) p) in
    let y = same_side h g _ _ (omega arith) (omega arith) x.1 in
    (x.0, (y.0, ap (drop 4) y.1))

-- an input has the form for one pair of sides at most
pub form_once : (input : List ℕ) (w h v g : ℕ) → Form input w h → Form input v g → (w ≡ v) × (h ≡ g)
form_once input w h v g f k =
    let same = sym f.whole ∙ k.whole in
    let s = same_header w h v g f.pixels k.pixels f.wide f.high k.wide k.high same in
    (s.0, s.1.0)

-- the pixels follow the header
pub after_header : (input : List ℕ) (w h : ℕ) (f : Form input w h) → drop (length (header w h)) input ≡ f.pixels
after_header input w h f = ap (drop (length (header w h))) f.whole ∙ drop-append_seam (header w h) f.pixels

-- ---- how long a picture is

-- no header is longer than the limit, and that of the largest sides is as long
pub header_short : (w h : ℕ) → w ≤ side_limit → h ≤ side_limit → length (header w h) ≤ header_limit
header_short w h ww hh =
    simp length-append (omega (arith, decimal_short w 1 (omega arith), decimal_short h 1 (omega arith)))

pub header_longest : length (header side_limit side_limit) ≡ header_limit
unfolding decimal digits_of
header_longest = refl

-- no picture has more bytes than `longest`
pub form_short : (input : List ℕ) (w h : ℕ) → Form input w h → length input ≤ longest
form_short input w h f =
    let l = ap length f.whole ∙ length-append (header w h) f.pixels in
    let a : w * h ≤ side_limit * side_limit = mul-le-mul f.wide f.high in
    omega (arith, f.counted, header_short w h f.wide f.high)
