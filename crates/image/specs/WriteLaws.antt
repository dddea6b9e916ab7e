-- For code that writes a list from `at` on, one number after another: one law for each need of its proof. Assumes
-- nothing.
use Rattle.std.specs.Prelude.{◌≡◌, List, [], ◌∷◌, ◌++◌, ℕ, ◌+◌, ◌≤◌, ◌<◌, length, get_or, take, drop, set}
use Rattle.std.proofs.Common.{sym, ap, ap₂, ◌∙◌, ⊎_elim, eq-or-lt_of_le, add-one, arith, length-append, ext_get_or, get_or-append-add}
use Rattle.std.proofs.Math.ListN.{get_or-append}
use Rattle.std.proofs.lemmas.List.{set_split}
use Rattle.image.specs.Plane.{tabulate, overwritten}
use Rattle.image.specs.PlaneLaws.{length-tabulate, get_d_tabulate, length-overwritten, overwritten_none}
use Rattle.image.specs.PaintLaws.{overwritten_more}

-- storing one number is writing a list of one
pub set_is : (d : List ℕ) (i v : ℕ) → i < length d → set d i v ≡ overwritten i (v ∷ []) d
set_is d i v h = set_split d i v h ∙ ap (λ (k : ℕ). take i d ++ (v ∷ drop k d)) (sym (add-one i))

-- a tabulated list of t numbers, and f t after it, is one of t + 1
tabulate_more : (f : ℕ → ℕ) (t : ℕ) → tabulate f t ++ (f t ∷ []) ≡ tabulate f (t + 1)
tabulate_more f t =
    let n = length-tabulate f t in
    let l : length (tabulate f t ++ (f t ∷ [])) ≡ t + 1 = length-append (tabulate f t) (f t ∷ []) ∙ omega arith in
    ext_get_or 0 _ _ (l ∙ sym (length-tabulate f (t + 1)))
    (λ i h.
    ⊎_elim
    (λ (e : i ≡ t).
    let k : i ≡ length (tabulate f t) + 0 = omega arith in
    ap (λ (j : ℕ). get_or (tabulate f t ++ (f t ∷ [])) j 0) k
    ∙ get_or-append-add (tabulate f t) (f t ∷ []) 0 0
    ∙ ap f (sym e)
    ∙ sym (get_d_tabulate f (t + 1) i (omega arith)))
    (λ (q : i < t).
    get_or-append (tabulate f t) (f t ∷ []) 0 i (omega arith)
    ∙ get_d_tabulate f t i q
    ∙ sym (get_d_tabulate f (t + 1) i (omega arith)))
    (eq-or-lt_of_le {n = i} {m = t} (omega arith)))

-- before the first number nothing is written
pub written_none : (f : ℕ → ℕ) (at : ℕ) (d : List ℕ) → d ≡ overwritten at (tabulate f 0) d
unfolding tabulate
written_none f at d = sym (overwritten_none at d)

-- storing a number after a list that was written writes both
pub written_next : (at : ℕ) (p : List ℕ) (v : ℕ) (d e : List ℕ) → at + length p < length d → e ≡ overwritten at p d
    → set e (at + length p) v ≡ overwritten at (p ++ (v ∷ [])) d
written_next at p v d e h is =
    let fits : at + length p ≤ length d = omega arith in
    let w = overwritten at p d in
    ap (λ (x : List ℕ). set x (at + length p) v) is
    ∙ set_is w (at + length p) v (omega (arith, length-overwritten at p d fits))
    ∙ overwritten_more at p (v ∷ []) d fits

-- storing the number t after the first t writes t + 1 of them
pub written_more : (f : ℕ → ℕ) (at t v : ℕ) (d e : List ℕ) → at + t < length d → e ≡ overwritten at (tabulate f t) d
    → v ≡ f t → set e (at + t) v ≡ overwritten at (tabulate f (t + 1)) d
written_more f at t v d e h p q =
    let n = length-tabulate f t in
    ap₂ (λ (k u : ℕ). set e (at + k) u) (sym n) q
    ∙ written_next at (tabulate f t) (f t) d e (omega arith) p
    ∙ ap (λ (l : List ℕ). overwritten at l d) (tabulate_more f t)

-- the list keeps its length
pub length-written : (f : ℕ → ℕ) (at t : ℕ) (d e : List ℕ) → at + t ≤ length d → e ≡ overwritten at (tabulate f t) d
    → length e ≡ length d
length-written f at t d e h p =
    let n = length-tabulate f t in ap length p ∙ length-overwritten at (tabulate f t) d (omega arith)
