use Rattle.std.proofs.Common.{◌≡◌, ℕ, true, ◌+◌, ◌*◌, ◌≤◌, length}
use Rattle.files.specs.Words.{all_below, is_zero}
use Rattle.files.specs.Directory.{file_at, start_at, folder_fid, folder_at}
use Rattle.files.specs.Create.{housed}
use Rattle.files.specs.Sound.{sound_place, alone, parted_place}
use Rattle.files.proofs.Pass.{marks}
use Rattle.files.proofs.Rooted.{root_lacks}
use Rattle.files.proofs.sound.is_sound.Given as goal

abbrev pub invariant-loop-i : goal.invariant-loop-i
invariant-loop-i l = record {
  marked : l.seen ≡ marks l.fn.d.files l.i;
  short : l.end ≤ l.i * 65535;
  ends : l.end ≡ start_at l.fn.d.files l.i;
  within : l.end ≤ length l.area;
  sound : all_below (sound_place l.fn.d) l.i ≡ true;
  lone : all_below (alone l.fn.d.files) l.i ≡ true;
  parted : all_below (parted_place l.fn.d l.area) l.i ≡ true;
  housed : all_below (λ (k : ℕ). housed l.fn.d (file_at l.fn.d.files k)) l.i ≡ true;
}

abbrev pub invariant-loop-x : goal.invariant-loop-x
invariant-loop-x l = all_below (λ (k : ℕ). root_lacks l.fn.d.files l.n (folder_fid (folder_at l.fn.d.folders k))) l.x-index ≡ true

abbrev pub invariant-loop-f : goal.invariant-loop-f
invariant-loop-f l = is_zero l.rest ≡ all_below (sound_place l.fn.d) (l.n + l.f-index)
