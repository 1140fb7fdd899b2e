-- The table: which texts are lines, digits, and what lines do.
use Rattle.std.specs.Prelude.{true, List, [], ◌∷◌, ◌≡◌}
use Rattle.line_examples.specs.Table.{Row, all_hold}
use Rattle.line_examples.specs.Fields.{issue-fields, command-fields, reset-fields}
use Rattle.line_examples.specs.Digits.{hex-edges, every-hex-digit, number-edges, every-decimal-digit, every-pin-byte}
use Rattle.line_examples.specs.Turns.{example, before-issue, keeping, no_call}

abbrev pub table : List (List Row)
table =
    issue-fields ∷ command-fields ∷ reset-fields ∷ hex-edges ∷ every-hex-digit ∷ number-edges ∷ every-decimal-digit ∷ every-pin-byte ∷ example ∷ before-issue ∷ keeping ∷ no_call
    ∷ []

-- every row of every group holds
abbrev pub EachHolds : List (List Row) → Type 0
EachHolds [] = Unit {0}
EachHolds (rows ∷ more) = (all_hold rows ≡ true) × EachHolds more
