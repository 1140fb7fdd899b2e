use Prim.Native.Nat.{◌*◌, ◌%◌, ◌<◌}
use mathlib.Core.Path.{◌≡◌, ◌∙◌}
use Rattle.std.proofs.Common.{arith}
use Rattle.std.proofs.lemmas.Nat.{and_mask, or_shifted}
use borrow.Author.Tests.{le-ltb}
use Rattle.alarms.specs.Feed.{word_after}
use Rattle.alarms.proofs.scanning.word_after.Goals as goal

pub returns : goal.returns
unfolding word_after
returns c =
    let w : c.args.w * 16 % 18446744073709551616 ≡ c.args.w % 1152921504606846976 * 16 = omega arith in
    let v : c.from.result ≡ c.args.v % 16 = c.from.ensures ∙ and_mask c.args.v 4 in
    let l : c.args.v % 16 < 16 = omega arith in
    rw (le-ltb _ _ c.if-at-lt-AFTER_TAB.false, w, v) (or_shifted (c.args.w % 1152921504606846976) 4 (c.args.v % 16) l)
