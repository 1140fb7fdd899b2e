-- The table: texts worked out by hand, then whole ranges, where a rule could be wrong between two of them, and then the refusals.
use Rattle.std.specs.Prelude.{true, List, [], ◌∷◌, ◌≡◌}
use Rattle.text_examples.specs.Table.{Row, all_hold}
use Rattle.text_examples.specs.Examples.{documented, states, sizes, counts}
use Rattle.text_examples.specs.FieldRanges.{every-number, every_byte, every-digit, credentials-written, sessions-written}
use Rattle.text_examples.specs.FileRanges.{file-lines, line-counts, contents-written, files-written}
use Rattle.text_examples.specs.Longest.{longest-text, longest-new}
use Rattle.text_examples.specs.Whole.{sixteen-files, all-used, most-free}
use Rattle.text_examples.specs.Folders.{in-root, two-firms, folder-lines, bad-folders}
use Rattle.text_examples.specs.Refusals.{writer-refuses, reader-refuses, unsound-texts, other-forms}
use Rattle.text_examples.specs.Transport.{coded-files, line-misplaced}
use Rattle.text_examples.specs.Waiting.{waiting-written, waiting-read, more-read, modes-read}
use Rattle.text_examples.specs.Spoilt.{credentials-spoilt, session-spoilt, file-spoilt, cut-and-more}

abbrev pub table : List (List Row)
table =
    documented ∷ states ∷ sizes ∷ counts
    ∷ every-number ∷ every_byte ∷ every-digit ∷ credentials-written ∷ sessions-written
    ∷ file-lines ∷ line-counts ∷ contents-written ∷ files-written
    ∷ waiting-written ∷ waiting-read ∷ more-read ∷ modes-read
    ∷ longest-text ∷ longest-new ∷ sixteen-files ∷ all-used ∷ most-free ∷ in-root ∷ two-firms ∷ folder-lines ∷ bad-folders
    ∷ writer-refuses ∷ reader-refuses ∷ unsound-texts ∷ other-forms ∷ coded-files ∷ line-misplaced
    ∷ credentials-spoilt ∷ session-spoilt ∷ file-spoilt ∷ cut-and-more
    ∷ []

-- every row of every group holds
abbrev pub EachHolds : List (List Row) → Type 0
EachHolds [] = Unit {0}
EachHolds (rows ∷ more) = (all_hold rows ≡ true) × EachHolds more
