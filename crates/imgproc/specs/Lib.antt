-- What the contracts of `imgproc` say. Each file says in its first line what it holds.

-- What to believe: what a call is refused for, what it is lent and leaves, and a file for each part of document 01 with
-- its contract. (Reach, Fold, Sums, WholeRoot and Root hold what several parts are defined by.)
pub mod Refusals
pub mod Calls
pub mod Fold
pub mod Reach
pub mod Morphology
pub mod MorphologyCalls
pub mod Division
pub mod Root
pub mod Sums
pub mod Grid
pub mod GridCalls
pub mod Blanking
pub mod WholeRoot
pub mod Sauvola
pub mod SauvolaNarrow
pub mod Reading
-- Laws about it: what each definition comes to, what follows from each contract, and document 01's pictures.
pub mod RefusalLaws
pub mod RefusedExactly
pub mod Extremes
pub mod Walks
pub mod MorphologyLaws
pub mod UnderOver
pub mod UnderOverLaws
pub mod CallMeans
pub mod MorphologyMeans
pub mod RootLaws
pub mod RootNear
pub mod RootBest
pub mod SumLaws
pub mod FoldLaws
pub mod GridLaws
pub mod GridMeans
pub mod OpenLaws
pub mod BlankingLaws
pub mod SauvolaLaws
pub mod SauvolaNarrowLaws
pub mod SauvolaNarrowMeans
pub mod ReadingLaws
pub mod ReadingMeans
pub mod ReadingLeaves
pub mod ReadingRows
pub mod Cases
pub mod PicturesUnderOver
pub mod PicturesSauvola
pub mod PicturesGrid
pub mod PicturesReading
pub mod Pictures
-- What only the inside needs: what functions that no caller sees ask and leave, and laws of it. (Laws use Tiles'
-- `Sized` and `Rooms`, the pictures Gathering's `after_tiles`.)
pub mod Tallies
pub mod Compared
pub mod Sweeps
pub mod Tables
pub mod Tiles
pub mod Gathering
pub mod GatheringLaws
pub mod ReadingSteps
