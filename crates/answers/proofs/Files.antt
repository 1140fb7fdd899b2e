-- No second answer to any public function of `files`.
use Prim.Native.Nat.{ℕ}
use mathlib.Core.Bool.{Bool}
use mathlib.Core.List.{List}
use Rattle.files.specs.declared.File.{File}
use Rattle.files.specs.declared.FileAnswer.{FileAnswer}
use Rattle.files.specs.Part.{Reading, Writing, FileWriting}
use Rattle.answers.specs.Files.{Files}
use Rattle.answers.proofs.Laws.{Same, one_answer, returned, bounded, with-lent}

reading : {served : Bool} {bytes buffer : List ℕ} {r r' : Bool} {l l' : List ℕ}
    → Reading served bytes buffer r l → Reading served bytes buffer r' l' → Same r r' l l'
reading p q = with-lent p.answer-is q.answer-is p.left_is q.left_is

module _ {served : Bool} {xs : List ℕ} {at : ℕ} {ys l l' : List ℕ} where
  writing : {r r' : Bool} → Writing served xs at ys r l → Writing served xs at ys r' l' → Same r r' l l'
  writing p q = with-lent p.answer-is q.answer-is p.left_is q.left_is

  file-writing : {new old : File} {r r' : FileAnswer}
      → FileWriting served new old xs at ys r l → FileWriting served new old xs at ys r' l' → Same r r' l l'
  file-writing p q = with-lent p.answer-is q.answer-is p.left_is q.left_is

-- each answer is written out: the value returned, and a place for each parameter, tt where nothing can change
pub files : Files
files = record {
  state-new-file = λ κs a x y. returned;
  state-in-folder = λ κs a x y. returned;
  state-new-folder = λ κs a x y. returned;
  state-blank-file = λ κs a x y. returned;
  state-with-newest = λ κs a x y. returned;
  state-with-used = λ κs a x y. returned;
  state-no-files = λ κs a x y. returned;
  state-added = λ κs a x y. returned;
  state-added-folder = λ κs a x y. returned;
  state-at-place = λ κs a x y. returned;
  state-placed = λ κs a x y. returned;
  and-or-both = λ κs a x y. returned;
  and-or-either = λ κs a x y. returned;
  numbers-wide = λ κs a x y. bounded;
  numbers-two = λ κs a x y. bounded;
  numbers-less = λ κs a x y. returned;
  numbers-fewer = λ κs a x y. returned;
  numbers-ends-by = λ κs a x y. returned;
  access-allowed = λ κs a x y. returned;
  access-good-rights = λ κs a x y. returned;
  access-asks-code = λ κs a x y. returned;
  access-good-file-rights = λ κs a x y. returned;
  sizes-has-records = λ κs a x y. returned;
  sizes-count = λ κs a x y. bounded;
  sizes-record-length = λ κs a x y. bounded;
  sizes-size = λ κs a x y. bounded;
  sizes-is-extent = λ κs a x y. returned;
  sizes-good-shape = λ κs a x y. returned;
  places-used = λ κs a x y. bounded;
  places-file = λ κs a x y. returned;
  places-folder = λ κs a x y. returned;
  places-start = λ κs a x y. bounded;
  places-end = λ κs a x y. bounded;
  places-is-place = λ κs a x y. returned;
  places-addressed = λ κs a x y. returned;
  find-find-fid = λ κs a x y. returned;
  find-find-sfi = λ κs a x y. returned;
  find-find-folder = λ κs a x y. returned;
  run-show = λ κs a x y p q i. let z = reading p q i in (z.0, (tt, (tt, (tt, (z.1, tt)))));
  run-store = λ κs a x y p q i. let z = writing p q i in (z.0, (z.1, (tt, (tt, tt))));
  run-clear = λ κs a x y p q i. (tt, (one_answer p q i, tt));
  binary-in-binary = λ κs a x y. returned;
  binary-read = λ κs a x y p q i. let z = reading p q i in (z.0, (tt, (tt, (tt, (tt, (z.1, tt))))));
  binary-update = λ κs a x y p q i. let z = writing p q i in (z.0, (tt, (z.1, (tt, (tt, tt)))));
  record-bytes-used = λ κs a x y. bounded;
  record-sound-held = λ κs a x y. returned;
  record-locate = λ κs a x y. returned;
  record-grows = λ κs a x y. returned;
  record-is-record = λ κs a x y. returned;
  record-has-room = λ κs a x y. returned;
  record-next-start = λ κs a x y. bounded;
  record-lead = λ κs a x y. bounded;
  record-after-append = λ κs a x y. returned;
  record-read = λ κs a x y p q i. let z = reading p q i in (z.0, (tt, (tt, (tt, (z.1, tt)))));
  record-update = λ κs a x y p q i. let z = writing p q i in (z.0, (tt, (z.1, (tt, (tt, tt)))));
  record-append = λ κs a x y p q i. let z = file-writing p q i in (z.0, (tt, (z.1, (tt, tt))));
  create-good-sfi = λ κs a x y. returned;
  create-good-contents = λ κs a x y. returned;
  create-name-unused = λ κs a x y. returned;
  create-room = λ κs a x y. returned;
  create-fid-unused = λ κs a x y. returned;
  create-folder-room = λ κs a x y. returned;
  sound-is-sound = λ κs a x y. returned;
  area-read-binary = λ κs a x y p q i. let z = reading p q i in (z.0, (tt, (tt, (tt, (tt, (z.1, tt))))));
  area-update-binary = λ κs a x y p q i. let z = writing p q i in (z.0, (tt, (z.1, (tt, (tt, tt)))));
  area-locate = λ κs a x y. returned;
  area-locate-in = λ κs a x y. returned;
  area-read-record = λ κs a x y p q i. let z = reading p q i in (z.0, (tt, (tt, (tt, (z.1, tt)))));
  area-update-record = λ κs a x y p q i. let z = writing p q i in (z.0, (tt, (z.1, (tt, (tt, tt)))));
  area-append-record = λ κs a x y p q i. let z = file-writing p q i in (z.0, (tt, (z.1, (tt, tt))));
  area-clear = λ κs a x y p q i. let z = writing p q i in (z.0, (tt, (z.1, tt)));
}
