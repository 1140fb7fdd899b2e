use mathlib.Core.Path.{ap, ◌∙◌}
use Prim.Native.Nat.{◌≤◌}
use native.Mathlib.Omega.{arith}
use lib.ListN.{length}
use Rattle.std.proofs.Common.{rules}
use Rattle.files.specs.Words.{seek}
use Rattle.files.specs.State.{blank_file}
use Rattle.files.specs.Directory.{of_fid, here, find_fid}
use Rattle.files.proofs.Sought.{seek-front}
use Rattle.files.proofs.find.find_fid.Goals as goal

pub returns : goal.returns
unfolding find_fid
returns c = let a = c.args in
    let n = c.used in
    let h : n.result ≤ length a.d.files = omega (arith, n.ensures.low) in
    c.last_place.ensures (of_fid a.folder a.fid) blank_file (λ x r e. search (rules, e))
    ∙ seek-front (of_fid a.folder a.fid) a.d.files blank_file n.result h ∙ ap (seek (here (of_fid a.folder a.fid) a.d.files)) n.ensures.is
