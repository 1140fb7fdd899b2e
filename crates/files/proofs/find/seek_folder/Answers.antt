use mathlib.Core.Path.{◌∙◌}
use Prim.Native.Nat.{◌≤◌}
use native.Mathlib.Omega.{arith}
use lib.Dec.{eqb}
use lib.ListN.{length}
use Rattle.std.proofs.Common.{rules}
use Rattle.files.specs.declared.Folder.{Folder}
use Rattle.files.specs.State.{blank_folder}
use Rattle.files.specs.Directory.{folder_fid}
use Rattle.files.proofs.Sought.{seek-front}
use Rattle.files.proofs.find.seek_folder.Goals as goal

pub returns : goal.returns
returns c = let a = c.args in
    let h : a.upto ≤ length a.folders = omega (arith, c.requires) in
    c.last_place.ensures (λ (x : Folder). eqb (folder_fid x) a.fid) blank_folder (λ x r e. search (rules, e))
    ∙ seek-front (λ (x : Folder). eqb (folder_fid x) a.fid) a.folders blank_folder a.upto h
