use Prim.Native.Nat.{ℕ, min}
use mathlib.Core.Path.{◌≡◌, sym, ap, refl, ◌∙◌}
use lib.ListN.{take}
use Rattle.texts.specs.Text.{folder_lines, folder_count}
use Rattle.digits.specs.Page.{page, draw}
use Rattle.texts.proofs.Drawing.{folders-more, folders-end}
use Rattle.texts.proofs.text.put_folders.Goals as goal

pub loop-x-preserved : goal.loop-x-preserved
loop-x-preserved c = let l = c.loop-x in (c.put_folder-q.auto.out ∙ l.invariant.0, folders-more _ l.x-index _ _ _ c.loop-x-test.true refl c.put_folder-q.ensures ∙ l.invariant.1)

pub returns : goal.returns
unfolding folder_count
returns c =
    let l = c.loop-x in
    let e : c.min-n.result ≡ min c.args.d.number 4 = c.min-n.ensures ∙ rw c.from.ensures in
    sym (folders-end _ l.x-index _ c.loop-x-test.false) ∙ l.invariant.1 ∙ ap (λ (n : ℕ). draw (folder_lines (take n c.args.d.folders)) (page c.args.out.now c.args.at)) e
