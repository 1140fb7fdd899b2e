-- No file and no directory goes, and none becomes another.
use Prim.Native.Nat.{◌≤◌}
use mathlib.Core.List.{◌++◌}
use mathlib.Core.Path.{sym, ◌∙◌}
use native.Mathlib.Omega.{arith}
use lib.ListN.{length}
use Rattle.demands.specs.Ledger.{ledger}
use Rattle.demands.specs.Run.{after}
use Rattle.demands.specs.Files.{FilesRemain}
use Rattle.demands.specs.Directories.{DirectoriesRemain}
use Rattle.demands.specs.Held.{IsFile, IsFolder}
use Rattle.demands.proofs.Trees.{ledger-grown}
use Rattle.demands.proofs.History.{files-follow}
use Rattle.demands.proofs.Directories.{directories-follow}

pub files-remain : FilesRemain
files-remain o area es more h n here =
    let now = files-follow o area es h in
    let later = files-follow o area (es ++ more) h in
    let grown = (ledger-grown o es more).files in
    let low : n ≤ length (ledger o es).tree.labels = rw (← now.count-is) here.last in
    let there : IsFile (after o area (es ++ more)).card n = record { first = here.first; last = rw later.count-is (omega (arith, low, grown.longer)) } in
    record { there = there; label_is = later.label_is n there ∙ grown.same n low ∙ sym (now.label_is n here) }

pub directories-remain : DirectoriesRemain
directories-remain o area es more h n here =
    let now = directories-follow o area es h in
    let later = directories-follow o area (es ++ more) h in
    let grown = (ledger-grown o es more).directories in
    let low : n ≤ length (ledger o es).tree.tags = rw (← now.number_is) here.last in
    let there : IsFolder (after o area (es ++ more)).card n = record { first = here.first; last = rw later.number_is (omega (arith, low, grown.longer)) } in
    record { there = there; tag_is = later.tag_is n there ∙ grown.same n low ∙ sym (now.tag_is n here) }
