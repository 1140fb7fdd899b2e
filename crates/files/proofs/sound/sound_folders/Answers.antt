use Rattle.std.proofs.Common.{◌≡◌, sym, ap, ◌∙◌, length, arith, rules}
use Rattle.files.specs.Words.{all_below}
use Rattle.files.specs.Sound.{sound_folder}
use Rattle.files.proofs.Checks.{below_none, below_more, below-fail}
use Rattle.files.proofs.Folders.{folders-many, folders-pass}
use Rattle.files.proofs.sound.sound_folders.Goals as goal

pub returns-then-number-gt4 : goal.returns-then-number-gt4
returns-then-number-gt4 c = sym (folders-many c.args.folders c.args.number c.if-number-gt4.true)

pub loop-i-init : goal.loop-i-init
loop-i-init c = below_none (sound_folder c.args.folders c.args.number)

pub returns-then-not-sound_folder : goal.returns-then-not-sound_folder
returns-then-not-sound_folder c = let a = c.args in
    let p = sound_folder a.folders a.number in
    let n : length a.folders ≡ 4 = search rules in
    sym (folders-pass a.folders a.number n c.if-number-gt4.false ∙ below-fail p 4 c.loop-i.i c.loop-i-test.true (sym c.sound_folder.ensures ∙ c.if-not-sound_folder.true))

pub loop-i-preserved : goal.loop-i-preserved
loop-i-preserved c = below_more (sound_folder c.args.folders c.args.number) c.loop-i.i c.loop-i.invariant (sym c.sound_folder.ensures ∙ c.if-not-sound_folder.false)

pub returns : goal.returns
returns c = let a = c.args in
    let p = sound_folder a.folders a.number in
    let n : length a.folders ≡ 4 = search rules in
    let e : c.loop-i.i ≡ 4 = omega arith in
    sym (folders-pass a.folders a.number n c.if-number-gt4.false ∙ ap (all_below p) (sym e) ∙ c.loop-i.invariant)
