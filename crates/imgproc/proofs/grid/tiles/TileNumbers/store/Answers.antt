-- `store` meets its contract: each number is stored after those before it. Assumes nothing.
use mathlib.Core.Path.{◌≡◌, ap₂, ◌∙◌}
use mathlib.Core.List.{List, [], ◌∷◌}
use Prim.Native.Nat.{ℕ, ◌+◌, ◌≤◌}
use native.Mathlib.Omega.{arith}
use lib.ListN.{length, set}
use Rattle.image.specs.Plane.{overwritten}
use Rattle.image.specs.WriteLaws.{set_is, written_next}
use Rattle.imgproc.proofs.grid.tiles.TileNumbers.store.Goals as goal

stored : (d : List ℕ) (at m M s q c : ℕ) → at + 5 ≤ length d
    → set (set (set (set (set d at m) (at + 1) M) (at + 2) s) (at + 3) q) (at + 4) c ≡ overwritten at (m ∷ M ∷ s ∷ q ∷ c ∷ []) d
stored d at m M s q c room =
    written_next at (m ∷ M ∷ s ∷ q ∷ []) c d _ (omega arith)
    (written_next at (m ∷ M ∷ s ∷ []) q d _ (omega arith)
    (written_next at (m ∷ M ∷ []) s d _ (omega arith)
    (written_next at (m ∷ []) M d _ (omega arith) (set_is d at m (omega arith)))))

pub returns : goal.returns
returns c =
    let n = c.args.self in
    let at = c.args.at in
    let d = c.args.workspace.now in
    ap₂ (λ (m M : ℕ). set (set (set (set (set d at m) (at + 1) M) (at + 2) n.sum) (at + 3) n.sum_sq) (at + 4) n.count) c.from.ensures c.from-2.ensures
    ∙ stored d at n.minimum n.maximum n.sum n.sum_sq n.count c.requires
