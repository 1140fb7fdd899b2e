use mathlib.Core.Path.{ap, refl, sym, ◌∙◌}
use borrow.Author.Rules.{rules}
use Rattle.rules.specs.declared.Card.{Card}
use Rattle.rules.specs.Calls.{answer}
use Rattle.texts.specs.Forms.{is_new}
use Rattle.texts.proofs.Loading.{given_so, convert-unsound, convert-other, convert-13, convert-done, write-short, write_done}
use Rattle.texts.proofs.calls.convert.Goals as goal

pub card_in-card-requires : goal.card_in-card-requires
card_in-card-requires c = refl

pub returns-then-not-is_sound : goal.returns-then-not-is_sound
returns-then-not-is_sound c = convert-unsound (is_new c.args.given) (is_new c.args.wanted) c.args.s.now c.args.out.now _ _ c.card_in-card.ensures _ c.is_sound.ensures _ c.if-not-is_sound.true (c.answer.ensures ∙ ap (λ (x : Card). answer 11 x 0) c.blank.ensures)

pub is_text-requires-clause-form : goal.is_text-requires-clause-form
is_text-requires-clause-form c = given_so (is_new c.args.given) (is_new c.args.wanted) c.args.s.now c.args.out.now _ _ c.card_in-card.ensures _ c.is_sound.ensures

pub returns-then-not-is_text : goal.returns-then-not-is_text
returns-then-not-is_text c = convert-other (is_new c.args.given) (is_new c.args.wanted) c.args.s.now c.args.out.now _ _ c.card_in-card.ensures _ c.is_sound.ensures c.if-not-is_sound.false _ c.is_text.ensures _ c.if-not-is_text.true (c.answer-then-not-is_text.ensures ∙ ap (λ (x : Card). answer 11 x 0) c.blank-then-not-is_text.ensures)

pub returns-then-not-of_form : goal.returns-then-not-of_form
returns-then-not-of_form c = convert-13 (is_new c.args.given) (is_new c.args.wanted) c.args.s.now c.args.out.now _ _ c.card_in-card.ensures _ c.is_sound.ensures c.if-not-is_sound.false _ c.is_text.ensures c.if-not-is_text.false _ c.of_form.ensures _ c.if-not-of_form.true c.answer-then-not-of_form.ensures

pub returns-then-not-show : goal.returns-then-not-show
returns-then-not-show c = convert-done (is_new c.args.given) (is_new c.args.wanted) c.args.s.now c.args.out.now _ _ c.card_in-card.ensures _ c.is_sound.ensures c.if-not-is_sound.false _ c.is_text.ensures c.if-not-is_text.false _ _
    (write-short (is_new c.args.wanted) c.card_in-card.result _ c.args.out.now (search rules) (sym c.is_sound.ensures ∙ c.if-not-is_sound.false) (sym c.of_form.ensures ∙ c.if-not-of_form.false) _ (search rules) _ _ (search rules) c.put_card-m.ensures _ _ c.show.ensures _ c.if-not-show.true c.answer-then-not-show.ensures)

pub returns : goal.returns
returns c = convert-done (is_new c.args.given) (is_new c.args.wanted) c.args.s.now c.args.out.now _ _ c.card_in-card.ensures _ c.is_sound.ensures c.if-not-is_sound.false _ c.is_text.ensures c.if-not-is_text.false _ _
    (write_done (is_new c.args.wanted) c.card_in-card.result _ c.args.out.now (search rules) (sym c.is_sound.ensures ∙ c.if-not-is_sound.false) (sym c.of_form.ensures ∙ c.if-not-of_form.false) _ (search rules) _ _ (search rules) c.put_card-m.ensures _ _ c.show.ensures _ c.if-not-show.false c.answer-2.ensures)
