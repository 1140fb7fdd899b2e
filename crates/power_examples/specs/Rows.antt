-- The table: what commands store, what each cut leaves, and what recovery takes.
use Rattle.std.specs.Prelude.{true, List, [], ◌∷◌, ◌≡◌}
use Rattle.power_examples.specs.Table.{Row, all_hold}
use Rattle.power_examples.specs.Stored.{presented, pins, files, code-right, code-late, code-wrong}
use Rattle.power_examples.specs.Cuts.{append-cut, pin-cut, present-cut, make-cut}
use Rattle.power_examples.specs.Recovered.{journals, impossible, others}

abbrev pub table : List (List Row)
table = presented ∷ pins ∷ files ∷ code-right ∷ code-late ∷ code-wrong ∷ append-cut ∷ pin-cut ∷ present-cut ∷ make-cut ∷ journals ∷ impossible ∷ others ∷ []

-- every row of every group holds
abbrev pub EachHolds : List (List Row) → Type 0
EachHolds [] = Unit {0}
EachHolds (rows ∷ more) = (all_hold rows ≡ true) × EachHolds more
