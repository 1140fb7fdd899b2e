-- Credentials after a cut, in the ledger's words.
use Prim.Native.Nat.{ℕ}
use mathlib.Core.Bool.{Bool, true, false, cond, ◌&&◌}
use mathlib.Core.List.{List}
use mathlib.Core.Path.{◌≡◌, refl, sym, ap, ◌∙◌}
use lib.Dec.{eqb, leb}
use Rattle.files.specs.Words.{is_zero}
use Rattle.rules.specs.declared.Card.{Card}
use Rattle.rules.specs.Words.{same}
use Rattle.rules.specs.Tries.{restored, lowered}
use Rattle.rules.specs.State.{Which, number_of, how_many_rights, login, with_login_at, with_value_at}
use Rattle.rules.specs.Pins.{compared_at}
use Rattle.rules.specs.Effect.{Touch, nothing, presents, changes, reloads, challenges}
use Rattle.rules.specs.Calls.{cleared}
use Rattle.rules.proofs.Good.{zero-at}
use Rattle.demands.specs.Ledger.{Kind, other, right, wrong, changed, reloaded, ended, presented, about}
use Rattle.demands.proofs.Presented.{presented-is}
use Rattle.demands.proofs.Rows.{kind_of}
use Rattle.demands.proofs.Credentials.{Full, act, compare, change, reload}
use Rattle.cuts.specs.Ledger.{journal_bytes, change_stores, cut_kind}
use Rattle.cuts.proofs.Touches.{cut_touch}

-- the session is over
pub cleared-login : (c : Card) (w : Which) → login w (cleared c) ≡ act w ended (login w c)
cleared-login c w = rw (zero-at (number_of w) how_many_rights)

-- only the credential that is named
cut-about : (n : ℕ) (e : Bool) (x : Kind) → cut_kind n (cond e x other) ≡ cond e (cut_kind n x) other
unfolding cut_kind
cut-about n true x = refl
cut-about n false x = refl

module _ (c : Card) (q : Full c) (v w : Which) where
  none_other : (e : Bool) → login w c ≡ act w (cond e other other) (login w c)
  none_other true = refl
  none_other false = refl

  presented-cut : (b z t : Bool)
      → login w (cond z c (cond (t && b) (with_login_at (number_of v) c (restored (login v c).tries) true) (with_login_at (number_of v) c (lowered (login v c).tries) false)))
      ≡ act w (about v w (cond b (cond z other (cond t right wrong)) (cond z other wrong))) (login w c)
  unfolding compared_at
  presented-cut true true t = none_other (eqb (number_of v) (number_of w))
  presented-cut false true t = none_other (eqb (number_of v) (number_of w))
  presented-cut true false true = compare c q v true w
  presented-cut true false false = compare c q v false w
  presented-cut false false true = compare c q v false w
  presented-cut false false false = compare c q v false w

  changed-cut : (d : List ℕ) (z : Bool) → login w (cond z c (with_value_at (number_of v) c d)) ≡ act w (about v w (cond z other (changed d))) (login w c)
  changed-cut d true = none_other (eqb (number_of v) (number_of w))
  changed-cut d false = change c q v d w

  reloaded-cut : (d : List ℕ) (z t : Bool)
      → login w (cond z c (cond t (with_value_at (number_of v) c d) (with_login_at (number_of v) (with_value_at (number_of v) c d) (restored (login v c).tries) false)))
      ≡ act w (about v w (cond z other (cond t (changed d) (reloaded d)))) (login w c)
  reloaded-cut d true t = none_other (eqb (number_of v) (number_of w))
  reloaded-cut d false true = change c q v d w
  reloaded-cut d false false = reload c q v d w

-- what a presentation is when it is cut
cut-presented : (k : ℕ) (b : Bool) → cut_kind k (cond b right wrong) ≡ cond b (cond (is_zero k) other (cond (leb 2 k) right wrong)) (cond (is_zero k) other wrong)
unfolding cut_kind
cut-presented k true = refl
cut-presented k false = refl

pub touch-login : (c : Card) → Full c → (t : Touch) (k : ℕ) (w : Which) → login w (cut_touch c t k) ≡ act w (cut_kind k (kind_of t w)) (login w c)
unfolding cut_kind
touch-login c q nothing k w = refl
touch-login c q (presents v value given) k w =
    presented-cut c q v w (same value given) (is_zero k) (leb 2 k)
    ∙ ap (λ (x : Kind). act w (about v w x) (login w c))
    (sym (cut-presented k (same value given)) ∙ ap (cut_kind k) (presented-is value given))
    ∙ ap (λ (x : Kind). act w x (login w c)) (sym (cut-about k (eqb (number_of v) (number_of w)) (presented value given)))
touch-login c q (changes v d) k w =
    changed-cut c q v w d (leb k journal_bytes)
    ∙ ap (λ (x : Kind). act w x (login w c)) (sym (cut-about k (eqb (number_of v) (number_of w)) (changed d)))
touch-login c q (reloads v d) k w =
    reloaded-cut c q v w d (leb k journal_bytes) (leb k change_stores)
    ∙ ap (λ (x : Kind). act w x (login w c)) (sym (cut-about k (eqb (number_of v) (number_of w)) (reloaded d)))
touch-login c q (challenges n) k w = refl
