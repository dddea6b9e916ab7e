-- When a call is refused: with n exactly when n is the number of the first condition of its list that fits; it is
-- accepted exactly when none fits. One proof over the list of conditions, then a law for each call of this crate.
-- Assumes nothing.
use Prim.Native.Nat.{ℕ, ◌+◌, ◌*◌}
use Rattle.std.proofs.Common.{arith, sym, ap, ◌∙◌}
use Rattle.std.specs.Prelude.{◌≡◌, Bool, not, ◌&&◌, ◌↔◌, ltb, length}
use Rattle.std.proofs.Math.Path.{refl}
use Rattle.std.proofs.Math.Bool.{true, false, cond}
use mathlib.Core.List.{List, [], ◌∷◌, ◌++◌}
use Rattle.std.specs.Borrow.{Bor}
use Rattle.image.specs.declared.Geometry.{Geometry}
use Rattle.image.specs.declared.LumaError.{LumaError}
use Rattle.image.specs.declared.LumaError.TheVariants.{OutsidePicture}
use Rattle.image.specs.declared.view.Gray8View.{Gray8View}
use Rattle.std.specs.Prelude.{Result, Ok, Err, MatchResult}
use Rattle.image.specs.Answers.{Answer, accepted, refused, Bare, bare, Condition, numbered, answer_to}
use Rattle.image.specs.Layout.{
  Layout,
  layout_conditions,
  layout_by,
  layout_of,
  asked_for,
  pixel_layout,
  row_layout,
  number_of,
  layout_answer,
  Kept,
}
use Rattle.image.specs.LayoutLaws.{kept_valid}
use Rattle.image.specs.Plane.{pixel}
use Rattle.image.specs.Row.{row_in, row_at, Hands}
use Rattle.image.specs.Pixel.{value_in, written_in, bytes_in, Sets}
use Rattle.image.specs.Copy.{copied_in, packed_in, unpacked_in, Packs, Unpacks}

-- n is the number of the first condition of a list that fits: those before it do not
pub data FirstFits : List (Condition ℕ) → ℕ → Type 0 where
  here : {c : Condition ℕ} {cs : List (Condition ℕ)} {n : ℕ} → c.fits ≡ true → c.refusal ≡ n → FirstFits (c ∷ cs) n
  later : {c : Condition ℕ} {cs : List (Condition ℕ)} {n : ℕ} → c.fits ≡ false → FirstFits cs n → FirstFits (c ∷ cs) n

-- no condition of a list fits
pub data NoneFits : List (Condition ℕ) → Type 0 where
  none : NoneFits []
  next : {c : Condition ℕ} {cs : List (Condition ℕ)} → c.fits ≡ false → NoneFits cs → NoneFits (c ∷ cs)

-- an answer by a list of conditions: refused with a number exactly when it is that of the first that fits, and accepted
-- with its values exactly when none fits
pub record Exactly {A : Type 0} (cs : List (Condition ℕ)) (values : A) (answer : Answer A) : Type 0 where
  pub refused_exactly : (n : ℕ) → (answer ≡ refused n) ↔ FirstFits cs n
  pub accepted_exactly : (answer ≡ accepted values) ↔ NoneFits cs

-- ---- the one proof
module _ {A : Type 0} (values : A) where
  -- no answer is both accepted and refused
  pub differ : {n : ℕ} → accepted values ≡ refused n → ⊥
  differ p = let z : ◌≡◌ {A = ℕ} 0 1 = cc in omega arith

  fits_refused : {cs : List (Condition ℕ)} {n : ℕ} → FirstFits cs n → answer_to cs values ≡ refused n
  unfolding answer_to
  fits_refused (here p q) = rw p (ap (λ (m : ℕ). refused m) q)
  fits_refused (later p f) = rw p (fits_refused f)

  refused_fits : (cs : List (Condition ℕ)) {n : ℕ} → answer_to cs values ≡ refused n → FirstFits cs n
  unfolding answer_to
  refused_fits [] p = absurd (differ p)
  refused_fits (c ∷ cs) p = go c.fits refl p (λ q. refused_fits cs q)
    where
      go : (f : Bool) {n : ℕ} → c.fits ≡ f → cond f (refused c.refusal) (answer_to cs values) ≡ refused n
          → (answer_to cs values ≡ refused n → FirstFits cs n) → FirstFits (c ∷ cs) n
      go true {n} e p r = let q : c.refusal ≡ n = cc in here e q
      go false e p r = later e (r p)

  none_accepted : {cs : List (Condition ℕ)} → NoneFits cs → answer_to cs values ≡ accepted values
  unfolding answer_to
  none_accepted none = refl
  none_accepted (next p f) = rw p (none_accepted f)

  accepted_none : (cs : List (Condition ℕ)) → answer_to cs values ≡ accepted values → NoneFits cs
  unfolding answer_to
  accepted_none [] p = none
  accepted_none (c ∷ cs) p = go c.fits refl p (λ q. accepted_none cs q)
    where
      go : (f : Bool) → c.fits ≡ f → cond f (refused c.refusal) (answer_to cs values) ≡ accepted values
          → (answer_to cs values ≡ accepted values → NoneFits cs) → NoneFits (c ∷ cs)
      go true e p r = absurd (differ (sym p))
      go false e p r = next e (r p)

  -- an answer that `answer_to` gives is refused and accepted exactly as its list says
  pub exactly : (cs : List (Condition ℕ)) {answer : Answer A} → answer ≡ answer_to cs values → Exactly cs values answer
  exactly cs is = record {
    refused_exactly = λ n. (λ p. refused_fits cs (sym is ∙ p), λ f. is ∙ fits_refused f);
    accepted_exactly = (λ p. accepted_none cs (sym is ∙ p), λ f. is ∙ none_accepted f);
  }

-- ---- a layout, and what is checked after it

-- the numbered conditions of a layout in a slice of len bytes
abbrev pub layout_numbers : ℕ → Geometry → List (Condition ℕ)
layout_numbers len g = numbered number_of (layout_conditions len g)

-- the condition of a place: outside the picture it is 9
abbrev pub outside : Bool → List (Condition ℕ)
outside inside = record { fits = not inside; refusal = number_of OutsidePicture } ∷ []

-- the condition of a copy: w × h bytes from `at` on that do not lie in a workspace of `room` bytes are 8
abbrev pub too_short : Geometry → ℕ → ℕ → List (Condition ℕ)
too_short g at room = record { fits = ltb room (at + g.width * g.height); refusal = 8 } ∷ []

-- an answer that passes a layout's refusal on goes by the layout's conditions, and then by `last`, those of a valid one
module _ {A : Type 0} (g : Geometry)
    (by : Layout → Answer A) (passes : (e : LumaError) → by (Err e) ≡ refused (number_of e))
    (last : List (Condition ℕ)) (v : A) (valid : by (Ok g) ≡ answer_to last v) where
  through : (cs : List (Condition LumaError)) → by (layout_by g cs) ≡ answer_to (numbered number_of cs ++ last) v
  unfolding answer_to
  through [] = valid
  through (c ∷ cs) = step c.fits (through cs)
    where
      step : (f : Bool) → by (layout_by g cs) ≡ answer_to (numbered number_of cs ++ last) v
          → by (cond f (Err c.refusal) (layout_by g cs))
          ≡ cond f (refused (number_of c.refusal)) (answer_to (numbered number_of cs ++ last) v)
      step true p = passes c.refusal
      step false p = p

  pub layout_through : (len : ℕ) → by (layout_of len g) ≡ answer_to (layout_numbers len g ++ last) v
  unfolding layout_of
  layout_through len = through (layout_conditions len g)

-- `validate_layout`
pub layout_exactly : (len : ℕ) (g : Geometry) → Exactly (layout_numbers len g ++ []) g (layout_answer (layout_of len g))
unfolding answer_to
layout_exactly len g = exactly g (layout_numbers len g ++ []) (layout_through g layout_answer (λ e. refl) [] g refl len)

-- what a view tells of its layout: its geometry, or the refusal's number
abbrev pub view_answer : Result Gray8View LumaError → Answer Geometry
view_answer (Ok v) = accepted v.geometry
view_answer (Err e) = refused (number_of e)

-- `Gray8View::new`, by its contract
pub view_exactly : (d : Bor (List ℕ)) (g : Geometry) (r : Result Gray8View LumaError) →
    MatchResult r (λ v. (v.pixels ≡ d) × (v.geometry ≡ g) × Kept (length d.now) g) (λ e. layout_of (length d.now) g ≡ Err e) →
    Exactly (layout_numbers (length d.now) g ++ []) g (view_answer r)
unfolding answer_to
view_exactly d g r m =
    exactly g (layout_numbers (length d.now) g ++ [])
    (told r m ∙ layout_through g layout_answer (λ e. refl) [] g refl (length d.now))
  where
    told : (r : Result Gray8View LumaError) →
        MatchResult r (λ v. (v.pixels ≡ d) × (v.geometry ≡ g) × Kept (length d.now) g) (λ e. layout_of (length d.now) g ≡ Err e) →
        view_answer r ≡ layout_answer (layout_of (length d.now) g)
    told (Ok v) m = ap (λ (h : Geometry). accepted h) m.1 ∙ ap layout_answer (sym (kept_valid m.2))
    told (Err e) m = ap layout_answer (sym m)

-- `check_pixel` and `check_row`, which ask for a place
asked_exactly : (len : ℕ) (g : Geometry) (inside : Bool)
    → Exactly (layout_numbers len g ++ outside inside) g (layout_answer (asked_for (layout_of len g) inside))
unfolding answer_to
asked_exactly len g inside =
    exactly g (layout_numbers len g ++ outside inside)
    (layout_through g (λ l. layout_answer (asked_for l inside)) (λ e. refl) (outside inside) g (asked inside) len)
  where
    asked : (b : Bool) → layout_answer (asked_for (Ok g) b) ≡ answer_to (outside b) g
    asked true = refl
    asked false = refl

pub check_pixel_exactly : (len : ℕ) (g : Geometry) (x y : ℕ)
    → Exactly (layout_numbers len g ++ outside (ltb x g.width && ltb y g.height)) g
    (layout_answer (pixel_layout len g x y))
check_pixel_exactly len g x y = asked_exactly len g (ltb x g.width && ltb y g.height)

pub check_row_exactly : (len : ℕ) (g : Geometry) (y : ℕ)
    → Exactly (layout_numbers len g ++ outside (ltb y g.height)) g (layout_answer (row_layout len g y))
check_row_exactly len g y = asked_exactly len g (ltb y g.height)

-- `row` and `row_mut` hand out an empty part at the slice's start where `check_row` refuses
pub row_refused : {d r : Bor (List ℕ)} {g : Geometry} {y n : ℕ} → Hands d g y r
    → layout_answer (row_layout (length d.now) g y) ≡ refused n → (r.now ≡ []) × (r.ref_ptr ≡ d.ref_ptr)
row_refused {d} {r} {g} {y} h p = let e = go (row_layout (length d.now) g y) p in (h.bytes ∙ e.0, h.place ∙ e.1)
  where
    go : (l : Layout) {n : ℕ} → layout_answer l ≡ refused n → (row_in l d.now y ≡ []) × (row_at l d.ref_ptr y ≡ d.ref_ptr)
    go (Ok v) q = absurd (differ v q)
    go (Err e) q = (refl, refl)

-- `get` and `set`
module _ (d : List ℕ) (g : Geometry) (x y : ℕ) where
  abbrev inside : Bool
  inside = ltb x g.width && ltb y g.height

  pub get_exactly : Exactly (layout_numbers (length d) g ++ outside inside) (pixel d g.stride x y)
      (value_in (pixel_layout (length d) g x y) d x y)
  unfolding answer_to
  get_exactly =
      let v = pixel d g.stride x y in
      let by : Layout → Answer ℕ = λ l. value_in (asked_for l inside) d x y in
      exactly v (layout_numbers (length d) g ++ outside inside)
      (layout_through g by (λ e. refl) (outside inside) v (asked inside) (length d))
    where
      asked : (b : Bool) → value_in (asked_for (Ok g) b) d x y ≡ answer_to (outside b) (pixel d g.stride x y)
      asked true = refl
      asked false = refl

  module _ {v : ℕ} {answer : Answer Bare} {after : List ℕ} (sets : Sets d g x y v answer after) where
    pub set_exactly : Exactly (layout_numbers (length d) g ++ outside inside) bare answer
    unfolding answer_to
    set_exactly =
        let by : Layout → Answer Bare = λ l. written_in (asked_for l inside) in
        exactly bare (layout_numbers (length d) g ++ outside inside)
        (sets.answers ∙ layout_through g by (λ e. refl) (outside inside) bare (asked inside) (length d))
      where
        asked : (b : Bool) → written_in (asked_for (Ok g) b) ≡ answer_to (outside b) bare
        asked true = refl
        asked false = refl

    -- `set` changes no byte where it is refused
    pub set_keeps : {n : ℕ} → answer ≡ refused n → after ≡ d
    set_keeps p = sets.leaves ∙ go (pixel_layout (length d) g x y) (sym sets.answers ∙ p)
      where
        go : (l : Layout) {n : ℕ} → written_in l ≡ refused n → bytes_in l d x y v ≡ d
        go (Ok u) q = absurd (differ bare q)
        go (Err e) q = refl

-- `pack` and `unpack`
copied_through : (len : ℕ) (g : Geometry) (at room : ℕ)
    → copied_in (layout_of len g) at room ≡ answer_to (layout_numbers len g ++ too_short g at room) bare
unfolding answer_to
copied_through len g at room = layout_through g (λ l. copied_in l at room) (λ e. refl) (too_short g at room) bare refl len

module _ {src : List ℕ} {g : Geometry} {at : ℕ} {before : List ℕ} {answer : Answer Bare} {after : List ℕ}
    (packs : Packs src g at before answer after) where
  pub pack_exactly : Exactly (layout_numbers (length src) g ++ too_short g at (length before)) bare answer
  pack_exactly = exactly bare _ (packs.answers ∙ copied_through (length src) g at (length before))

  -- `pack` changes no number where it is refused
  pub pack_keeps : {n : ℕ} → answer ≡ refused n → after ≡ before
  pack_keeps p = packs.leaves ∙ ap (λ (a : Answer Bare). packed_in a g src at before) (sym packs.answers ∙ p)

module _ {ws : List ℕ} {at : ℕ} {before : List ℕ} {g : Geometry} {answer : Answer Bare} {after : List ℕ}
    (unpacks : Unpacks ws at before g answer after) where
  pub unpack_exactly : Exactly (layout_numbers (length before) g ++ too_short g at (length ws)) bare answer
  unpack_exactly = exactly bare _ (unpacks.answers ∙ copied_through (length before) g at (length ws))

  -- `unpack` changes no byte where it is refused
  pub unpack_keeps : {n : ℕ} → answer ≡ refused n → after ≡ before
  unpack_keeps p = unpacks.leaves ∙ ap (λ (a : Answer Bare). unpacked_in a g ws at before) (sym unpacks.answers ∙ p)
