use Rattle.std.proofs.Common.{rules, ◌∙◌, sym}
use Rattle.rules.specs.Create.{create_checks, creation_right, good_folder_given}
use Rattle.rules.specs.Words.{unless}
use Rattle.files.specs.Words.{two}
use Rattle.files.specs.Directory.{good_sfi}
use Rattle.std.proofs.Common.{◌≡◌, ◌%◌}
use Rattle.card.specs.Checks.{checked}
use Rattle.card.proofs.Checking.{goes, stops, raised}
use Rattle.card.proofs.create.check_create.Goals as goal

pub returns-in_err-unless : goal.returns-in_err-unless
unfolding create_checks creation_right good_folder_given
returns-in_err-unless c = let fid : c.from_be_bytes-fid.result ≡ two c.args.h.p1 c.args.h.p2 = search rules in
    let first-is : c.unless.result ≡ checked (unless (good_sfi (two c.args.h.p1 c.args.h.p2 % 32)) 0x6A86) = c.unless.ensures ∙ rw (c.good_sfi.ensures, fid) in
    let k = c.from_residual.ensures in
    (raised _ k.0 k.1 ∙ sym (stops _ _ (sym first-is ∙ c.in_err-unless.was)))

pub returns-in_err-check_lc : goal.returns-in_err-check_lc
unfolding create_checks creation_right good_folder_given
returns-in_err-check_lc c = let fid : c.from_be_bytes-fid.result ≡ two c.args.h.p1 c.args.h.p2 = search rules in
    let first-is : c.unless.result ≡ checked (unless (good_sfi (two c.args.h.p1 c.args.h.p2 % 32)) 0x6A86) = c.unless.ensures ∙ rw (c.good_sfi.ensures, fid) in
    let k = c.from_residual-in_err-check_lc.ensures in
    (raised _ k.0 k.1 ∙ sym (goes _ _ (sym first-is ∙ c.in_ok-unless.was) ∙ stops _ _ (sym c.check_lc.ensures ∙ c.in_err-check_lc.was)))

pub returns-in_err-check_right : goal.returns-in_err-check_right
unfolding create_checks creation_right good_folder_given
returns-in_err-check_right c = let fid : c.from_be_bytes-fid.result ≡ two c.args.h.p1 c.args.h.p2 = search rules in
    let first-is : c.unless.result ≡ checked (unless (good_sfi (two c.args.h.p1 c.args.h.p2 % 32)) 0x6A86) = c.unless.ensures ∙ rw (c.good_sfi.ensures, fid) in
    let k = c.from_residual-in_err-check_right.ensures in
    rw (← c.creation_right.ensures)
    (raised _ k.0 k.1 ∙ sym (goes _ _ (sym first-is ∙ c.in_ok-unless.was) ∙ goes _ _ (sym c.check_lc.ensures ∙ c.in_ok-check_lc.was) ∙ stops _ _ (sym c.check_right.ensures ∙ c.in_err-check_right.was)))

pub returns-in_err-check_root : goal.returns-in_err-check_root
unfolding create_checks creation_right good_folder_given
returns-in_err-check_root c = let fid : c.from_be_bytes-fid.result ≡ two c.args.h.p1 c.args.h.p2 = search rules in
    let first-is : c.unless.result ≡ checked (unless (good_sfi (two c.args.h.p1 c.args.h.p2 % 32)) 0x6A86) = c.unless.ensures ∙ rw (c.good_sfi.ensures, fid) in
    let k = c.from_residual-in_err-check_root.ensures in
    rw (← c.creation_right.ensures)
    (raised _ k.0 k.1 ∙ sym (goes _ _ (sym first-is ∙ c.in_ok-unless.was) ∙ goes _ _ (sym c.check_lc.ensures ∙ c.in_ok-check_lc.was) ∙ goes _ _ (sym c.check_right.ensures ∙ c.in_ok-check_right.was) ∙ stops _ _ (sym c.check_root.ensures ∙ c.in_err-check_root.was)))

pub returns-in_err-check_contents : goal.returns-in_err-check_contents
unfolding create_checks creation_right good_folder_given
returns-in_err-check_contents c = let fid : c.from_be_bytes-fid.result ≡ two c.args.h.p1 c.args.h.p2 = search rules in
    let first-is : c.unless.result ≡ checked (unless (good_sfi (two c.args.h.p1 c.args.h.p2 % 32)) 0x6A86) = c.unless.ensures ∙ rw (c.good_sfi.ensures, fid) in
    let k = c.from_residual-in_err-check_contents.ensures in
    rw (← c.creation_right.ensures, ← c.file_given-f.ensures)
    (raised _ k.0 k.1 ∙ sym (goes _ _ (sym first-is ∙ c.in_ok-unless.was) ∙ goes _ _ (sym c.check_lc.ensures ∙ c.in_ok-check_lc.was) ∙ goes _ _ (sym c.check_right.ensures ∙ c.in_ok-check_right.was) ∙ goes _ _ (sym c.check_root.ensures ∙ c.in_ok-check_root.was) ∙ stops _ _ (sym c.check_contents.ensures ∙ c.in_err-check_contents.was)))

pub returns-in_err-check_name : goal.returns-in_err-check_name
unfolding create_checks creation_right good_folder_given
returns-in_err-check_name c = let fid : c.from_be_bytes-fid.result ≡ two c.args.h.p1 c.args.h.p2 = search rules in
    let first-is : c.unless.result ≡ checked (unless (good_sfi (two c.args.h.p1 c.args.h.p2 % 32)) 0x6A86) = c.unless.ensures ∙ rw (c.good_sfi.ensures, fid) in
    let k = c.from_residual-in_err-check_name.ensures in
    rw (← c.creation_right.ensures, ← c.file_given-f.ensures)
    (raised _ k.0 k.1 ∙ sym (goes _ _ (sym first-is ∙ c.in_ok-unless.was) ∙ goes _ _ (sym c.check_lc.ensures ∙ c.in_ok-check_lc.was) ∙ goes _ _ (sym c.check_right.ensures ∙ c.in_ok-check_right.was) ∙ goes _ _ (sym c.check_root.ensures ∙ c.in_ok-check_root.was) ∙ goes _ _ (sym c.check_contents.ensures ∙ c.in_ok-check_contents.was) ∙ stops _ _ (sym (c.check_name.ensures ∙ rw fid) ∙ c.in_err-check_name.was)))

pub returns : goal.returns
unfolding create_checks creation_right good_folder_given
returns c = let fid : c.from_be_bytes-fid.result ≡ two c.args.h.p1 c.args.h.p2 = search rules in
    let first-is : c.unless.result ≡ checked (unless (good_sfi (two c.args.h.p1 c.args.h.p2 % 32)) 0x6A86) = c.unless.ensures ∙ rw (c.good_sfi.ensures, fid) in
    rw (← c.creation_right.ensures, ← c.file_given-f.ensures)
    (c.check_room.ensures ∙ sym (goes _ _ (sym first-is ∙ c.in_ok-unless.was) ∙ goes _ _ (sym c.check_lc.ensures ∙ c.in_ok-check_lc.was) ∙ goes _ _ (sym c.check_right.ensures ∙ c.in_ok-check_right.was) ∙ goes _ _ (sym c.check_root.ensures ∙ c.in_ok-check_root.was) ∙ goes _ _ (sym c.check_contents.ensures ∙ c.in_ok-check_contents.was) ∙ goes _ _ (sym (c.check_name.ensures ∙ rw fid) ∙ c.in_ok-check_name.was)))
