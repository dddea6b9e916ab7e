-- One law for each way out of `pack` and `unpack`, where l is the layout that the code holds. Assumes nothing.
use Prim.Native.Nat.{ℕ, ◌+◌, ◌*◌, ◌≤◌, ◌<◌}
use native.Mathlib.Omega.{arith}
use mathlib.Core.Path.{◌≡◌, sym, ap, ◌∙◌, subst}
use mathlib.Core.List.{List}
use lib.ListN.{length}
use borrow.Author.Tests.{lt-ltb, le-ltb}
use Rattle.image.specs.declared.Geometry.{Geometry}
use Rattle.std.specs.Prelude.{Ok}
use Rattle.image.specs.Answers.{Answer, accepted, refused, Bare, bare}
use Rattle.image.specs.Layout.{Layout, Kept, layout_of}
use Rattle.image.specs.LayoutLaws.{kept_as, area_small}
use Rattle.image.specs.Copy.{copied_in, packed_in, unpacked_in, Packs, Unpacks}

module _ (len : ℕ) (g : Geometry) (at room : ℕ) {l : Layout} (is : l ≡ layout_of len g) where
  module _ {v : Geometry} (i : l ≡ Ok v) where
    -- of a valid one: what holds of its numbers, and that it is the geometry that was lent
    pub kept_here : Kept len v
    kept_here = let k = kept_as len g v (sym is ∙ i) in subst (λ (u : Geometry). Kept len u) k.1 k.0

    pub same_here : g ≡ v
    same_here = (kept_as len g v (sym is ∙ i)).1

    -- its area fits any number of the code
    pub area_fits : v.width * v.height < 18446744073709551616
    area_fits = omega (arith, area_small kept_here)

    there : copied_in (Ok v) at room ≡ copied_in (layout_of len g) at room
    there = ap (λ (k : Layout). copied_in k at room) (sym i ∙ is)

    -- the plane does not lie in the workspace, or it does
    pub copied_short : room < at + v.width * v.height → refused 8 ≡ copied_in (layout_of len g) at room
    copied_short t = sym (rw (lt-ltb room (at + v.width * v.height) t)) ∙ there

    pub copied_done : at + v.width * v.height ≤ room → accepted bare ≡ copied_in (layout_of len g) at room
    copied_done t = sym (rw (le-ltb room (at + v.width * v.height) t)) ∙ there

-- a call that gives the right answer and leaves what that answer says keeps its contract
pub packs : (src : List ℕ) (g : Geometry) (at : ℕ) (before : List ℕ) {answer : Answer Bare} {after : List ℕ}
    → answer ≡ copied_in (layout_of (length src) g) at (length before)
    → after ≡ packed_in answer g src at before → Packs src g at before answer after
packs src g at before e f = record { answers = e; leaves = f ∙ ap (λ (k : Answer Bare). packed_in k g src at before) e }

pub unpacks : (ws : List ℕ) (at : ℕ) (before : List ℕ) (g : Geometry) {answer : Answer Bare} {after : List ℕ}
    → answer ≡ copied_in (layout_of (length before) g) at (length ws)
    → after ≡ unpacked_in answer g ws at before → Unpacks ws at before g answer after
unpacks ws at before g e f = record { answers = e; leaves = f ∙ ap (λ (k : Answer Bare). unpacked_in k g ws at before) e }
