use mathlib.Core.Path.{◌∙◌, ◌≡◌, ap, ap₂, refl, sym}
use mathlib.Core.Bool.{◌||◌, false, not, true}
use Prim.Native.Nat.{ℕ}
use native.Mathlib.Omega.{arith}
use borrow.Author.Tests.{eq-eqb, ne_eqb}
use lib.Dec.{eqb}
use Rattle.files.specs.Words.{is_zero}
use Rattle.rules.specs.Words.{first, or_else}
use Rattle.rules.specs.Frame.{lc_sw, p_sw}
use Rattle.rules.specs.Select.{entered, fid_given, root, select_checks, select_deed, selected}
use Rattle.rules.specs.Step.{did}
use Rattle.card.specs.Head.{command_of}
use Rattle.card.specs.Carried.{carried}
use Rattle.card.proofs.Checking.{passed, refused, refuses}
use Rattle.card.proofs.Carrying.{leaves-current, leaves-folder, leaves-same, refused-quietly}
use Rattle.card.proofs.Selecting.{select-early, select-file, select-folder, select-none}
use Rattle.card.proofs.select.select.Goals as goal

pub returns-in-Err : goal.returns-in-Err
returns-in-Err c = λ card es ed.
    let a = c.args in
    let k = command_of a.h a.given.now in
    let o = c.check_select in
    let e = sym o.ensures ∙ c.in-Err.is in
    refused-quietly (first (select_checks card k)) card (did card (select_deed card k)) _ (select-early card k _ (refused _ e) (refuses _ e)) (refuses _ e) c.same_session.result (leaves-same card a.session es c.same_session.result c.in-Err.refused.sw c.same_session.ensures)

pub returns-then-place-ne0 : goal.returns-then-place-ne0
returns-then-place-ne0 c = λ card es ed.
    let a = c.args in
    let k = command_of a.h a.given.now in
    let o = c.check_select in
    let fid = c.fid_given-fid in
    let p = c.find_fid-place in
    let file : p.result ≡ selected card k = p.ensures ∙ rw (fid.ensures, ← es, ← ed) in
    select-file card k _ refl (passed _ (sym o.ensures ∙ c.in_default.is)) c.carried.result (ne_eqb _ 0 (λ e. c.if-place-ne0.true (file ∙ e)))
    (leaves-current card a.session es c.carried.result _ (selected card k) 0 refl refl (c.carried.ensures ∙ ap (λ (z : ℕ). carried 0x9000 z a.session.folder 0 0) file))

pub returns-then-folder-fid : goal.returns-then-folder-fid
returns-then-folder-fid c = λ card es ed.
    let a = c.args in
    let k = command_of a.h a.given.now in
    let o = c.check_select in
    let fid = c.fid_given-fid in
    let p = c.find_fid-place in
    let file : p.result ≡ selected card k = p.ensures ∙ rw (fid.ensures, ← es, ← ed) in
    let d = c.find_folder-folder in
    let folder : d.result ≡ entered card k = d.ensures ∙ rw (fid.ensures, ← ed) in
    let none : is_zero (selected card k) ≡ true = eq-eqb _ 0 (sym file ∙ c.if-place-ne0.false) in
    let test : (not (is_zero (entered card k)) || eqb (fid_given k) root) ≡ true = ap₂ (λ (y z : ℕ). not (is_zero y) || eqb z root) (sym folder) (sym fid.ensures) ∙ c.if-folder-fid.true in
    select-folder card k _ refl (passed _ (sym o.ensures ∙ c.in_default.is)) c.carried-then-folder-fid.result none test (leaves-folder card c.carried-then-folder-fid.result (entered card k) (c.carried-then-folder-fid.ensures ∙ ap (λ (z : ℕ). carried 0x9000 0 z 0 0) folder))

pub returns : goal.returns
returns c = λ card es ed.
    let a = c.args in
    let k = command_of a.h a.given.now in
    let o = c.check_select in
    let fid = c.fid_given-fid in
    let p = c.find_fid-place in
    let file : p.result ≡ selected card k = p.ensures ∙ rw (fid.ensures, ← es, ← ed) in
    let d = c.find_folder-folder in
    let folder : d.result ≡ entered card k = d.ensures ∙ rw (fid.ensures, ← ed) in
    let none : is_zero (selected card k) ≡ true = eq-eqb _ 0 (sym file ∙ c.if-place-ne0.false) in
    let test : (not (is_zero (entered card k)) || eqb (fid_given k) root) ≡ false = ap₂ (λ (y z : ℕ). not (is_zero y) || eqb z root) (sym folder) (sym fid.ensures) ∙ c.if-folder-fid.false in
    refused-quietly (first (select_checks card k)) card (did card (select_deed card k)) 0x6A82 (select-none card k _ refl (passed _ (sym o.ensures ∙ c.in_default.is)) none test) (λ e. omega (arith, e)) c.same_session-2.result (leaves-same card a.session es c.same_session-2.result 0x6A82 c.same_session-2.ensures)
