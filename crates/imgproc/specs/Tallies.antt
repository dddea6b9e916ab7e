-- Names what is said of a tally: n more were counted, n more fit, it stands at n; and proves laws about them.
-- Contracts, loops and owners go by these records: nobody but src/morphology/tally.rt, this file and the answers reads
-- the number of a tally. Assumes nothing.
use Rattle.std.specs.Prelude.{ℕ, ◌+◌, ◌^◌, ◌≤◌, ◌<◌, ◌≡◌}
use Rattle.std.proofs.Common.{arith}
use Rattle.imgproc.specs.declared.morphology.tally.Tally.{Tally}

-- t' is t with n comparisons more
pub record Raised (t : Tally) (n : ℕ) (t' : Tally) : Type 0 where
  pub more : t'.comparisons ≡ t.comparisons + n

-- n comparisons more fit in t
pub record HasRoom (t : Tally) (n : ℕ) : Type 0 where
  pub fits : t.comparisons + n < 2 ^ 64

-- t has counted n comparisons
pub record Stands (t : Tally) (n : ℕ) : Type 0 where
  pub at : t.comparisons ≡ n

-- ---- raised

-- nothing was counted
pub raised_none : {t : Tally} {n : ℕ} → n ≡ 0 → Raised t n t
raised_none e = record { more = omega arith }

-- raised twice: what was counted adds up
pub raised_twice : {t a b : Tally} {m n l : ℕ} → Raised t m a → Raised a n b → l ≡ m + n → Raised t l b
raised_twice p q e = record { more = omega (arith, p.more, q.more) }

-- the number of comparisons told otherwise
pub raised_as : {t a : Tally} {m n : ℕ} → Raised t m a → m ≡ n → Raised t n a
raised_as p e = record { more = omega (arith, p.more) }

-- ---- room

-- room for a part
pub room_part : {t : Tally} {n m : ℕ} → HasRoom t n → m ≤ n → HasRoom t m
room_part r l = record { fits = omega (arith, r.fits) }

-- what is left after raising
pub room_left : {t a : Tally} {m n l : ℕ} → HasRoom t n → Raised t m a → m + l ≤ n → HasRoom a l
room_left r p e = record { fits = omega (arith, r.fits, p.more) }

-- ---- where it stands

pub stands_as : {t : Tally} {m n : ℕ} → Stands t m → m ≡ n → Stands t n
stands_as s e = record { at = omega (arith, s.at) }

-- a tally that has just been started: its room, and where it stands once raised
pub room_fresh : {t : Tally} {n : ℕ} → Stands t 0 → n < 2 ^ 64 → HasRoom t n
room_fresh s l = record { fits = omega (arith, s.at) }

pub raised_fresh : {t a : Tally} {n : ℕ} → Stands t 0 → Raised t n a → Stands a n
raised_fresh s p = record { at = omega (arith, s.at, p.more) }
