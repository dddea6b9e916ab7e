-- What is parsed of an input is the one picture whose form it has; and the first bytes of an input, one
-- more than the longest picture has, tell what is parsed of the whole. Assumes nothing.
use Rattle.std.specs.Prelude.{ℕ, zero, suc, ◌+◌, ◌*◌, ◌/◌, ◌%◌, ◌≤◌, ◌<◌, ◌≡◌, refl, Bool, true, false, cond, ◌⊎◌, List, [], ◌∷◌, ◌++◌, eqb, ltb, length, take, drop, Some, None, Result}
use Rattle.std.proofs.Common.{arith, sym, ap, ap₂, subst, ◌∙◌, inl, inr, ⊎_elim, length-append, length-drop, take_all, length-take-le, eqb-true, eq-eqb, ltb-true, ltb-false}
use Rattle.std.proofs.lemmas.Bool.{eqb-false}
use Rattle.image.specs.Answers.{accepted}
use Rattle.image.specs.LayoutLaws.{both}
use Rattle.pgm.specs.declared.picture.Malformed.{Malformed}
use Rattle.pgm.specs.declared.picture.Picture.{Picture}
use Rattle.pgm.specs.Form.{side_limit, header, Form, input_limit, PictureFound, Parsed, found_answer, found, parsed_answer, Pictured, Answers}
use Rattle.pgm.specs.FormLaws.{same_header, form_short, after_header}
use Rattle.pgm.specs.Parse.{begins, formed, sides, headed_by, sought, parsed_of, parsed_from}

-- ---- the form as a test

begins_true : (text bytes : List ℕ) → begins text bytes ≡ true → bytes ≡ text ++ drop (length text) bytes
begins_true [] bytes e = refl
begins_true (x ∷ text) [] e = let z : ◌≡◌ {A = ℕ} 0 1 = cc in absurd (omega arith)
begins_true (x ∷ text) (b ∷ bytes) e =
    let p = both (eqb b x) (begins text bytes) e in
    let q = eqb-true b x p.0 in
    let r = begins_true text bytes p.1 in
    ap (λ (y : ℕ). y ∷ bytes) q ∙ ap (λ (l : List ℕ). x ∷ l) r

begins_append : (text rest : List ℕ) → begins text (text ++ rest) ≡ true
begins_append [] rest = refl
begins_append (x ∷ text) rest = rw (eq-eqb x x refl, begins_append text rest)

formed_form : (input : List ℕ) (w h : ℕ) → w ≤ side_limit → h ≤ side_limit → formed input w h ≡ true → Form input w h
formed_form input w h ww hh e =
    let p = both (eqb (length input) (length (header w h) + w * h)) (begins (header w h) input) e in
    let l = eqb-true (length input) (length (header w h) + w * h) p.0 in
    record {
      wide = ww;
      high = hh;
      pixels = drop (length (header w h)) input;
      counted = omega (arith, length-drop (length (header w h)) input);
      whole = begins_true (header w h) input p.1;
    }

form_formed : (input : List ℕ) (w h : ℕ) → Form input w h → formed input w h ≡ true
form_formed input w h f =
    let start = header w h in
    let l : length input ≡ length start + w * h =
    ap length f.whole ∙ length-append start f.pixels ∙ omega (arith, f.counted) in
    let b : begins start input ≡ true = ap (begins start) f.whole ∙ begins_append start f.pixels in
    rw (eq-eqb (length input) (length start + w * h) l, b)

-- ---- what is sought is found

-- what is known after n pairs were tried
abbrev Tried : List ℕ → ℕ → Parsed → Type 0
Tried input n (Some p) = Pictured input p
Tried input n None = (k : ℕ) → k < n → formed input (k / sides) (k % sides) ≡ false

tried_more : (input : List ℕ) (n : ℕ) (b : Bool) (r : Parsed) → n < sides * sides →
    formed input (n / sides) (n % sides) ≡ b → Tried input n r →
    Tried input (suc n) (cond b (Some (headed_by input (n / sides) (n % sides))) r)
unfolding formed_form
tried_more input n true r l e k =
    record { form = formed_form input (n / sides) (n % sides) (omega arith) (omega arith) e; after = refl; same = refl }
tried_more input n false (Some p) l e k = k
tried_more input n false None l e k = λ i p. either i p (eqb i n) refl
  where
    either : (i : ℕ) → i < suc n → (b : Bool) → eqb i n ≡ b → formed input (i / sides) (i % sides) ≡ false
    either i p true q = ap (λ (j : ℕ). formed input (j / sides) (j % sides)) (eqb-true i n q) ∙ e
    either i p false q = k i (let d : i ≡ n → ⊥ = eqb-false i n q in omega arith)

tried : (input : List ℕ) (n : ℕ) → n ≤ sides * sides → Tried input n (sought input n)
unfolding sought
tried input zero l = λ i p. absurd (omega arith)
tried input (suc n) l =
    let here = formed input (n / sides) (n % sides) in
    tried_more input n here (sought input n) (omega arith) refl (tried input n (omega arith))

answers_tried : (input : List ℕ) (r : Parsed) → Tried input (sides * sides) r → Answers input r
answers_tried input (Some p) k = k
answers_tried input None k = λ w h f.
    let n = w * sides + h in
    let i : n / sides ≡ w = omega (arith, f.wide, f.high) in
    let j : n % sides ≡ h = omega (arith, f.wide, f.high) in
    let no = k n (omega (arith, f.wide, f.high)) in
    let yes : formed input (n / sides) (n % sides) ≡ true = ap₂ (formed input) i j ∙ form_formed input w h f in
    let z : ◌≡◌ {A = ℕ} 0 1 = cc (yes, no) in
    omega arith

-- what is parsed of an input meets `Answers`, and nothing else does
pub parsed_answers : (input : List ℕ) → Answers input (parsed_of input)
unfolding parsed_of
parsed_answers input = answers_tried input (sought input (sides * sides)) (tried input (sides * sides) (omega arith))

-- two pictures with the same sides, start and pixels are the same
alike : (p q : PictureFound) → p.width ≡ q.width → p.height ≡ q.height → p.start ≡ q.start → p.pixels ≡ q.pixels → p ≡ q
alike p q w h s d =
    ap (λ (n : ℕ). record { width = n; height = p.height; start = p.start; pixels = p.pixels }) w
    ∙ ap (λ (n : ℕ). record { width = q.width; height = n; start = p.start; pixels = p.pixels }) h
    ∙ ap (λ (n : ℕ). record { width = q.width; height = q.height; start = n; pixels = p.pixels }) s
    ∙ ap (λ (l : List ℕ). record { width = q.width; height = q.height; start = q.start; pixels = l }) d

pub parsed_once : (input : List ℕ) (r s : Parsed) → Answers input r → Answers input s → r ≡ s
parsed_once input (Some p) (Some q) a b =
    let f = a.form in
    let k = b.form in
    let e = sym f.whole ∙ k.whole in
    let s = same_header p.width p.height q.width q.height f.pixels k.pixels f.wide f.high k.wide k.high e in
    let w : p.width ≡ q.width = s.0 in
    let h : p.height ≡ q.height = s.1.0 in
    let l : p.start ≡ q.start = a.after ∙ ap₂ (λ (v g : ℕ). length (header v g)) w h ∙ sym b.after in
    let d : p.pixels ≡ q.pixels = a.same ∙ s.1.1 ∙ sym b.same in
    ap Some (alike p q w h l d)
parsed_once input (Some p) None a b = absurd (b p.width p.height a.form)
parsed_once input None (Some q) a b = absurd (a q.width q.height b.form)
parsed_once input None None a b = refl

-- the answer determines what was parsed
told_once : (r s : Parsed) → found_answer r ≡ found_answer s → r ≡ s
told_once (Some p) (Some q) e = cc
told_once (Some p) None e = cc
told_once None (Some q) e = cc
told_once None None e = refl

-- what meets `Answers` has the answer of `parse`, and what has that answer meets `Answers`
pub parsed_from_lem : (input : List ℕ) (r : Parsed) → Answers input r → found_answer r ≡ parsed_from input
parsed_from_lem input r a = ap found_answer (parsed_once input r (parsed_of input) a (parsed_answers input))

pub picture_from : (input : List ℕ) (p : PictureFound) → Answers input (Some p) → accepted p ≡ parsed_from input
picture_from input p a = parsed_from_lem input (Some p) a

pub parsed_means : (input : List ℕ) (r : Parsed) → found_answer r ≡ parsed_from input → Answers input r
parsed_means input r e =
    subst (λ (p : Parsed). Answers input p) (sym (told_once r (parsed_of input) e)) (parsed_answers input)

-- the pixels of a picture are what follows the header
pub pixels_from : (input : List ℕ) (p : PictureFound) → Answers input (Some p) →
    p.pixels ≡ drop (length (header p.width p.height)) input
pixels_from input p a = a.same ∙ sym (after_header input p.width p.height a.form)

-- the same of what `parse` returned, once it is known what that is
pub parsed_as : (input : List ℕ) {r s : Result Picture Malformed} → r ≡ s → parsed_answer r ≡ parsed_from input →
    Answers input (found s)
parsed_as input {s = s} e a = parsed_means input (found s) (ap parsed_answer (sym e) ∙ a)

-- anything that is made of what is parsed is made of any r that meets `Answers`
pub parsed_by : {A : Type 0} (by : Parsed → A) (input : List ℕ) (r : Parsed) → Answers input r →
    by (parsed_of input) ≡ by r
parsed_by by input r a = ap by (parsed_once input (parsed_of input) r (parsed_answers input) a)

-- ---- the first bytes are enough

module _ (input : List ℕ) (m : ℕ) (enough : input_limit ≤ m) where
  -- the first m bytes of an input are all of it, or neither they nor the input are a picture
  start : (take m input ≡ input) ⊎ (Answers input None × Answers (take m input) None)
  start = go (ltb m (length input)) refl
    where
      go : (b : Bool) → ltb m (length input) ≡ b →
          (take m input ≡ input) ⊎ (Answers input None × Answers (take m input) None)
      go false e = inl (take_all m input (ltb-false m (length input) e))
      go true e =
          let l = ltb-true m (length input) e in
          let t = length-take-le m input (omega arith) in
          inr (
            (λ w h f. omega (arith, form_short input w h f)),
            (λ w h f. omega (arith, form_short (take m input) w h f, t)),
          )

  -- so anything that is made of an input and what is parsed of it, and is the same for all inputs that are no picture,
  -- is that of the first bytes
  pub start_by : {A : Type 0} (by : Parsed → List ℕ → A) → ((a b : List ℕ) → by None a ≡ by None b) →
      by (parsed_of (take m input)) (take m input) ≡ by (parsed_of input) input
  start_by by same =
      ⊎_elim (λ e. ap (λ (l : List ℕ). by (parsed_of l) l) e)
      (λ none.
      parsed_by (λ (r : Parsed). by r (take m input)) (take m input) None none.1 ∙ same (take m input) input
      ∙ sym (parsed_by (λ (r : Parsed). by r input) input None none.0))
      start

  -- and the first bytes are parsed as the whole
  pub start_parsed : parsed_of (take m input) ≡ parsed_of input
  start_parsed = start_by (λ (r : Parsed) (l : List ℕ). r) (λ a b. refl)
