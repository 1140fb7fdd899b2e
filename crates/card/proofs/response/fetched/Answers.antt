use native.Mathlib.Omega.{arith}
use mathlib.Core.List.{[]}
use mathlib.Core.Path.{◌∙◌, refl, sym}
use Rattle.card.specs.Head.{command_of}
use Rattle.card.proofs.Checking.{passed, refused, refuses}
use Rattle.card.proofs.Fetching.{few-asked, fetched-some, fetched-none}
use Rattle.card.proofs.response.fetched.Goals as goal

pub returns-in-Err : goal.returns-in-Err
returns-in-Err c = let a = c.args in
    let w = c.waiting_length-all in
    let e = sym c.check_get_response.ensures ∙ c.in-Err.is in
    fetched-none a.card (command_of a.h []) w.result w.ensures.is _ (refused _ e) a.reply.now _ c.answer.result
    (refuses _ e) c.put_sw.ensures c.answer.ensures

pub given-requires : goal.given-requires
given-requires c = let w = c.waiting_length-all in
    let k = command_of c.args.h [] in
    let few = few-asked w.result k (passed _ (sym c.check_get_response.ensures ∙ c.in_default.is)) in
    (w.ensures.is, w.ensures.low, omega (arith, few, c.fetch_count.ensures), c.requires)

pub returns : goal.returns
returns c = let a = c.args in
    let w = c.waiting_length-all in
    fetched-some a.card (command_of a.h []) w.result w.ensures.is _ refl c.fetch_count.result a.reply.now _ c.given.result
    (passed _ (sym c.check_get_response.ensures ∙ c.in_default.is)) c.fetch_count.ensures c.given.ensures
