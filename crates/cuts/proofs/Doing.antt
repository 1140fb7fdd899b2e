-- What a deed has of the files and the area by the checks. No credential is in it, so it holds of the card as a code leaves it.
use Prim.Native.Nat.{ℕ, ◌+◌, ◌≤◌}
use mathlib.Core.Bool.{true}
use mathlib.Core.List.{List}
use mathlib.Core.Path.{◌≡◌}
use lib.ListN.{length}
use Rattle.files.specs.declared.Directory.{Directory}
use Rattle.files.specs.Types.{size}
use Rattle.files.specs.Directory.{file, extent}
use Rattle.files.specs.Record.{next_start, entry, appended, appends_record}
use Rattle.files.specs.Create.{area_size, creates}
use Rattle.files.specs.Create as directory
use Rattle.files.proofs.Parting.{Stored}
use Rattle.rules.specs.declared.Card.{Card}
use Rattle.rules.specs.declared.Ins.{Ins}
use Rattle.rules.specs.Frame.{Command}
use Rattle.rules.specs.Effect.{Deed, turns, enters, shows, stores, appends, makes, founds}
use Rattle.demands.proofs.Rows.{Fair}

pub record Updates (d : Directory) (area : List ℕ) (place at : ℕ) (bytes : List ℕ) : Type 0 where
  pub some : 1 ≤ place
  pub low : place ≤ d.count
  pub fits : at + length bytes ≤ size (file d place)
  pub any : (other : List ℕ) → length other ≡ length bytes → Stored (file d place) (file d place) (extent d place area) at other

pub record Appends (d : Directory) (area : List ℕ) (place : ℕ) (r : List ℕ) : Type 0 where
  pub some : 1 ≤ place
  pub low : place ≤ d.count
  pub fits : next_start (file d place) + length (entry (file d place) r) ≤ size (file d place)
  pub stored : Stored (file d place) (appended (file d place) (length r)) (extent d place area) (next_start (file d place)) (entry (file d place) r)
  pub served : appends_record (file d place) (length r) ≡ true

abbrev pub Doing : Directory → List ℕ → Deed → Type 0
Doing d area (turns place) = Unit
Doing d area (enters n) = Unit
Doing d area (shows place at n) = Unit
Doing d area (stores place at bytes) = Updates d area place at bytes
Doing d area (appends place r) = Appends d area place r
Doing d area (makes f) = creates d f area_size ≡ true
Doing d area (founds x) = directory.founds d x ≡ true

pub doing : (i : Ins) (c : Card) (area : List ℕ) (k : Command) (x : Deed) → Fair i c area k x → Doing c.directory area x
doing i c area k (turns place) q = tt
doing i c area k (enters n) q = tt
doing i c area k (shows place at n) q = tt
doing i c area k (stores place at bytes) q =
    record { some = q.fair.entitled.some; low = q.fair.entitled.low; fits = q.fair.fits; any = q.any }
doing i c area k (appends place r) q =
    record { some = q.fair.entitled.some; low = q.fair.entitled.low; fits = q.fair.fits; stored = q.fair.stored; served = q.served }
doing i c area k (makes f) q = q.served
doing i c area k (founds x) q = q.served
