-- Pieces read one behind the other, and the report on all of them.
-- Assumes nothing.
use Prim.Native.Nat.{ℕ, ◌≤◌}
use mathlib.Core.List.{List, [], ◌∷◌, ◌++◌, append-nil}
use mathlib.Core.Path.{◌≡◌, refl, sym, ap, ◌∙◌}
use lib.ListN.{length}
use Rattle.alarms.specs.declared.Feed.{Feed}
use Rattle.alarms.specs.Report.{report}
use Rattle.alarms.specs.Feed.{fed_all, start, told_of, Tells}
use Rattle.alarms.proofs.Reports.{fed-joined}
use Rattle.alarms.proofs.Printed.{report-printed}
use Rattle.totals.specs.Reading.{Follows, Reported}

pub follows-none : (f : Feed) → Follows f f
unfolding fed_all
follows-none f = record { bytes = []; is = refl }

pub follows-fed : {f g : Feed} (piece : List ℕ) → g ≡ fed_all f piece → Follows f g
follows-fed piece e = record { bytes = piece; is = e }

pub follows-more : {f g h : Feed} → Follows f g → Follows g h → Follows f h
follows-more {f} p q = record { bytes = p.bytes ++ q.bytes; is = q.is ∙ ap (λ (x : Feed). fed_all x q.bytes) p.is ∙ sym (fed-joined f p.bytes q.bytes) }

pub reported : (s f : Feed) (out left : List ℕ) (r : ℕ) → s ≡ start → Follows s f → 16384 ≤ length out → Tells (told_of f) out r left → Reported left r
reported s f out left r e p h t =
    let t' : Tells (told_of (fed_all start p.bytes)) out r left = rw (p.is, e) at t in
    record { bytes = p.bytes; is = report-printed (p.bytes ∷ []) out left r h t' ∙ ap report (append-nil p.bytes); inside = t.inside }
