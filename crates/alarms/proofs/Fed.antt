-- Bytes fed one by one.
-- Assumes nothing.
use Prim.Native.Nat.{ℕ, ◌+◌, ◌≤◌, ◌<◌}
use mathlib.Core.List.{List}
use mathlib.Core.Path.{◌≡◌}
use native.Mathlib.Numerals.{add-one}
use lib.ListN.{length, get_or, drop, drop_of_length-le}
use lib.Seq.{drop-cons}
use Rattle.alarms.specs.declared.Feed.{Feed}
use Rattle.alarms.specs.Feed.{scanned, fed_one, fed_all}

-- one byte more
pub fed_more : (f g : Feed) (piece : List ℕ) (i : ℕ) → i < length piece → g ≡ fed_one f (scanned f.scan (get_or piece i 0)) → fed_all g (drop (i + 1) piece) ≡ fed_all f (drop i piece)
unfolding fed_all
fed_more f g piece i l e = rw (drop-cons piece i 0 l, add-one i, e)

-- none are left
pub fed_end : (f : Feed) (piece : List ℕ) (i : ℕ) → length piece ≤ i → fed_all f (drop i piece) ≡ f
unfolding fed_all
fed_end f piece i h = rw (drop_of_length-le piece h)
