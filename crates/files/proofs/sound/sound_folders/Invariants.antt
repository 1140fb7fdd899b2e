use Rattle.std.proofs.Common.{◌≡◌, true}
use Rattle.files.specs.Words.{all_below}
use Rattle.files.specs.Sound.{sound_folder}
use Rattle.files.proofs.sound.sound_folders.Given as goal

abbrev pub invariant-loop-i : goal.invariant-loop-i
invariant-loop-i l = all_below (sound_folder l.folders l.number) l.i ≡ true
