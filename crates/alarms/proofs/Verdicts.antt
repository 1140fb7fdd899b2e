-- What is told of lines that are good, of the first bad one and of one too many.
-- Assumes nothing.
use Prim.Native.Nat.{ℕ, suc, ◌+◌, ◌≤◌}
use mathlib.Core.Bool.{true, false}
use mathlib.Core.List.{List, [], ◌∷◌, ◌++◌, append_assoc, append-nil}
use mathlib.Core.Path.{◌≡◌, refl, sym, ap, ap₂, ◌∙◌}
use native.Mathlib.Omega.{arith}
use lib.ListN.{length}
use borrow.Author.Tests.{le-leb}
use Rattle.files.proofs.Checks.{both}
use Rattle.sums.specs.declared.Alarm.{Alarm}
use Rattle.alarms.specs.Line.{good_line, alarm_in, lines_of}
use Rattle.alarms.specs.Report.{table, refused, told, report}
use Rattle.alarms.specs.Says.{all_good, alarms_in, GoodLinesTold, FirstBadTold, SurplusTold}

next : (l : List ℕ) (ls : List (List ℕ)) (xs : List Alarm) (n : ℕ) → good_line l ≡ true → n ≤ 65535 → told n xs (l ∷ ls) ≡ told (suc n) (xs ++ (alarm_in l ∷ [])) ls
unfolding told
next l ls xs n g h = rw (g, le-leb n 65535 h)

-- good lines are passed, and their alarms kept
told-good : (lines : List (List ℕ)) (xs : List Alarm) (n : ℕ) (behind : List (List ℕ)) → all_good lines ≡ true → n + length lines ≤ 65536
    → told n xs (lines ++ behind) ≡ told (n + length lines) (xs ++ alarms_in lines) behind
told-good [] xs n behind g h = let z : n + 0 ≡ n = omega arith in rw (z, append-nil xs)
told-good (l ∷ ls) xs n behind g h =
    let k = both (good_line l) (all_good ls) g in
    let few : n ≤ 65535 = omega arith in
    let s : suc n + length ls ≡ n + suc (length ls) = omega arith in
    next l (ls ++ behind) xs n k.0 few
    ∙ told-good ls (xs ++ (alarm_in l ∷ [])) (suc n) behind k.1 (omega arith)
    ∙ ap₂ (λ (m : ℕ) (ys : List Alarm). told m ys behind) s (append_assoc xs (alarm_in l ∷ []) (alarms_in ls))

told-all : (xs : List Alarm) (n : ℕ) → told n xs [] ≡ table xs
unfolding told
told-all xs n = refl

told-bad : (l : List ℕ) (ls : List (List ℕ)) (xs : List Alarm) (n : ℕ) → good_line l ≡ false → told n xs (l ∷ ls) ≡ refused 14 n
unfolding told
told-bad l ls xs n b = rw b

told-surplus : (l : List ℕ) (ls : List (List ℕ)) (xs : List Alarm) → good_line l ≡ true → told 65536 xs (l ∷ ls) ≡ refused 15 65536
unfolding told
told-surplus l ls xs g = rw g

pub good-lines-told : GoodLinesTold
unfolding report
good-lines-told input g h =
    let lines = lines_of input in
    ap (told 1 []) (sym (append-nil lines)) ∙ told-good lines [] 1 [] g (omega arith) ∙ told-all (alarms_in lines) (1 + length lines)

pub first-bad-told : FirstBadTold
unfolding report
first-bad-told input before line behind e g h b =
    let n : 1 + length before ≡ suc (length before) = omega arith in
    ap (told 1 []) e ∙ told-good before [] 1 (line ∷ behind) g (omega arith) ∙ told-bad line behind (alarms_in before) (1 + length before) b ∙ ap (refused 14) n

pub surplus-told : SurplusTold
unfolding report
surplus-told input before line behind e g h b =
    let n : 1 + length before ≡ 65536 = omega arith in
    ap (told 1 []) e
    ∙ told-good before [] 1 (line ∷ behind) g (omega arith)
    ∙ ap (λ (m : ℕ). told m (alarms_in before) (line ∷ behind)) n
    ∙ told-surplus line behind (alarms_in before) b
