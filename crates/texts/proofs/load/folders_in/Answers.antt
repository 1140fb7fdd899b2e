use Rattle.texts.specs.Reading.{most_folders_of}
use Rattle.texts.specs.Forms.{is_new}
use Rattle.texts.proofs.Scanning.{folders-begin, folders-over, folders-goes, folders-full}
use native.Mathlib.Omega.{arith}
use Rattle.texts.proofs.load.folders_in.Goals as goal

pub loop-init : goal.loop-init
loop-init c = folders-begin c.args.s.now (most_folders_of (is_new c.args.form)) _ c.no_files-d.ensures

pub returns-then-not-folder_next : goal.returns-then-not-folder_next
returns-then-not-folder_next c = let l = c.loop in folders-over c.args.s.now (most_folders_of (is_new c.args.form)) l.d l.rest.now l.counter l.invariant _ (omega arith) c.folder_next.ensures c.if-not-folder_next.true

pub loop-preserved : goal.loop-preserved
loop-preserved c = let l = c.loop in folders-goes c.args.s.now (most_folders_of (is_new c.args.form)) l.d l.rest.now l.counter l.invariant _ (omega arith) c.folder_next.ensures _ _ _ (omega arith) c.if-not-folder_next.false c.folder_in.ensures c.added_folder-d.ensures c.fields-rest.ensures

pub returns : goal.returns
returns c = let l = c.loop in folders-full c.args.s.now (most_folders_of (is_new c.args.form)) l.d l.rest.now l.counter l.invariant (omega arith)
