use Prim.Native.Nat.{ℕ}
use mathlib.Core.Path.{sym, ap, refl, ◌∙◌}
use lib.ListN.{take}
use Rattle.texts.specs.Text.{files_text}
use Rattle.digits.specs.Page.{page, draw}
use Rattle.texts.specs.Forms.{is_new}
use Rattle.texts.proofs.Drawing.{files-more, files-end}
use Rattle.texts.proofs.text.put_files.Goals as goal

pub loop-f-preserved : goal.loop-f-preserved
loop-f-preserved c =
    let l = c.loop-f in (
      c.put_whole-q.auto.out ∙ l.invariant.0,
      files-more (is_new c.args.form) c.args.d _ l.rest.now _ _ l.f-index _ _ _ _ _ c.loop-f-test.true refl c.size.ensures c.min.ensures c.split_at.ensures.front c.split_at.ensures.back c.put_whole-q.ensures ∙ l.invariant.1,
    )

pub returns : goal.returns
returns c =
    let l = c.loop-f in
    sym (files-end (is_new c.args.form) c.args.d _ l.rest.now l.f-index _ c.loop-f-test.false) ∙ l.invariant.1
    ∙ ap (λ (n : ℕ). draw (files_text (is_new c.args.form) c.args.d (take n c.args.d.files) c.args.area.now) (page c.args.out.now c.args.at)) c.used.ensures.is
