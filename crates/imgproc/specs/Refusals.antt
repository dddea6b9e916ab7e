-- What is refused, and with which number: each call has a list of conditions, and the first that fits counts.
-- Definitions only.
use Rattle.std.specs.Prelude.{Result, Ok, Err}
use Rattle.std.specs.Prelude.{ℕ, ◌+◌, ◌*◌, ◌%◌, ◌≡◌, Bool, cond, not, ◌&&◌, ◌||◌, List, [], ◌∷◌, ◌++◌, ltb, eqb, length}
use Rattle.image.specs.declared.Geometry.{Geometry}
use Rattle.image.specs.declared.LumaError.{LumaError}
use Rattle.image.specs.Answers.{Answer, accepted, refused, Condition}
use Rattle.image.specs.Layout.{layout_conditions, number_of}
use Rattle.imgproc.specs.declared.illumination.BackgroundDivideConfig.{BackgroundDivideConfig}
use Rattle.imgproc.specs.declared.threshold.config.SauvolaConfig.{SauvolaConfig}
use Rattle.imgproc.specs.declared.ImgProcError.{ImgProcError}
use Rattle.imgproc.specs.declared.ImgProcError.TheVariants.{
  Image,
  DimensionMismatch,
  InvalidKernel,
  InvalidConfiguration,
  WorkspaceTooSmall,
  GridBufferTooSmall,
  WindowTooLarge,
}

-- the number of each refusal
abbrev pub error_number : ImgProcError → ℕ
error_number (Image e) = number_of e
error_number DimensionMismatch = 5
error_number InvalidKernel = 6
error_number InvalidConfiguration = 7
error_number WorkspaceTooSmall = 8
error_number GridBufferTooSmall = 10
error_number WindowTooLarge = 12

-- ---- lists of conditions

-- the conditions of a call, in the order in which they count
abbrev pub Conditions : Type 0
Conditions = List (Condition ImgProcError)

-- what a check says: go on, or why not
abbrev pub Check : Type 0
Check = Result Unit ImgProcError

-- the first condition that fits refuses; where none does, the call is accepted
unfoldable pub first : Conditions → Check
first [] = Ok tt
first (c ∷ cs) = cond c.fits (Err c.refusal) (first cs)

-- one condition
abbrev pub refused_if : Bool → ImgProcError → Conditions
refused_if fits e = record { fits = fits; refusal = e } ∷ []

infixr 5 ◌then◌
-- one list after another
abbrev pub ◌then◌ : Conditions → Conditions → Conditions
a then b = a ++ b

-- ---- what a call answers and leaves by its check

-- the answer: its values where it is accepted, else the number of the refusal
abbrev pub answer_by : {A : Type 0} → Check → A → Answer A
answer_by (Ok u) v = accepted v
answer_by (Err e) v = refused (error_number e)

-- a lent destination at exit: what an accepted call leaves there, or as it was
abbrev pub left_by : Check → List ℕ → List ℕ → List ℕ
left_by (Ok u) after before = after
left_by (Err e) after before = before

-- a lent workspace at exit: as it was where the call is refused, and else unspecified but for its length
abbrev pub Lent : Check → List ℕ → List ℕ → Type 0
Lent (Ok u) before after = length after ≡ length before
Lent (Err e) before after = after ≡ before

-- ---- the lists that calls share

-- the picture crate's conditions, passed on
abbrev pub passed_on : List (Condition LumaError) → Conditions
passed_on [] = []
passed_on (c ∷ cs) = record { fits = c.fits; refusal = Image c.refusal } ∷ passed_on cs

-- a view's layout
unfoldable pub view_conditions : ℕ → Geometry → Conditions
view_conditions len g = passed_on (layout_conditions len g)

-- source layout; destination layout; differing sizes
abbrev pub pair_conditions : ℕ → Geometry → ℕ → Geometry → Conditions
pair_conditions src_len src dst_len dst =
    view_conditions src_len src then
    view_conditions dst_len dst then
    refused_if (not (eqb src.width dst.width && eqb src.height dst.height)) DimensionMismatch

-- a kernel is bad where it is below 3 or even
abbrev pub bad_kernel : ℕ → Bool
bad_kernel k = ltb k 3 || eqb (k % 2) 0

-- ---- every call with a source and a destination: the layouts; 5; and then, of the source's sides, what is its own

-- Morphology: the kernel; the byte workspace under 6wh
abbrev pub kernel_and_room : ℕ → Geometry → ℕ → Conditions
kernel_and_room kernel g room =
    refused_if (bad_kernel kernel) InvalidKernel then
    refused_if (ltb room (6 * (g.width * g.height))) WorkspaceTooSmall

-- division settings: the element under 3 or even, or denominator_floor 0, is 7
unfoldable pub division_settings : BackgroundDivideConfig → Conditions
division_settings d =
    refused_if (bad_kernel d.structuring_element || eqb d.denominator_floor 0) InvalidConfiguration

-- Division: the settings; the byte workspace under 7wh
abbrev pub element_and_room : BackgroundDivideConfig → Geometry → ℕ → Conditions
element_and_room d g room =
    division_settings d then
    refused_if (ltb room (7 * (g.width * g.height))) WorkspaceTooSmall

-- Sauvola: radius 0, k_milli above 1,000 or dynamic_range 0 is 7
unfoldable pub sauvola_settings : SauvolaConfig → Conditions
sauvola_settings config =
    refused_if (eqb config.radius 0 || (ltb 1000 config.k_milli || eqb config.dynamic_range 0))
    InvalidConfiguration

-- the entries of the two tables of a picture of w by h: 2(w + 1)(h + 1)
abbrev pub table_entries : ℕ → ℕ → ℕ
table_entries w h = 2 * ((w + 1) * (h + 1))

-- a workspace under 2(w + 1)(h + 1) is 8
abbrev pub tables_room : Geometry → ℕ → Conditions
tables_room g room = refused_if (ltb room (table_entries g.width g.height)) WorkspaceTooSmall

-- Sauvola: the settings; the u64 workspace
abbrev pub settings_and_room : SauvolaConfig → Geometry → ℕ → Conditions
settings_and_room config g room = sauvola_settings config then tables_room g room
