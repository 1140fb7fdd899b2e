use mathlib.Core.Path.{ap, refl, ◌∙◌}
use Rattle.rules.specs.declared.Card.{Card}
use Rattle.rules.specs.Calls.{answer}
use Rattle.texts.specs.Text.{new}
use Rattle.texts.proofs.Loading.{read-area, read-of-form, read-unsound, read-other, read-good}
use Rattle.texts.proofs.calls.from_text.Goals as goal

pub returns-then-area-ne-AREA_SIZE : goal.returns-then-area-ne-AREA_SIZE
returns-then-area-ne-AREA_SIZE c = read-area new c.args.s.now c.args.area.now _ c.if-area-ne-AREA_SIZE.true (c.answer.ensures ∙ ap (λ (c : Card). answer 2 c 0) c.blank.ensures)

pub card_in-card-requires : goal.card_in-card-requires
card_in-card-requires c = refl

pub returns-then-not-is_sound : goal.returns-then-not-is_sound
returns-then-not-is_sound c = read-unsound new c.args.s.now c.args.area.now c.if-area-ne-AREA_SIZE.false _ _ c.card_in-card.ensures _ c.is_sound.ensures _ c.if-not-is_sound.true (c.answer-then-not-is_sound.ensures ∙ ap (λ (c : Card). answer 11 c 0) c.blank-then-not-is_sound.ensures)

pub is_text-requires-clause-form : goal.is_text-requires-clause-form
is_text-requires-clause-form c = read-of-form new c.args.s.now c.args.area.now c.if-area-ne-AREA_SIZE.false _ _ c.card_in-card.ensures _ c.is_sound.ensures

pub returns-then-not-is_text : goal.returns-then-not-is_text
returns-then-not-is_text c = read-other new c.args.s.now c.args.area.now c.if-area-ne-AREA_SIZE.false _ _ c.card_in-card.ensures _ c.is_sound.ensures c.if-not-is_sound.false _ c.is_text.ensures _ c.if-not-is_text.true (c.answer-then-not-is_text.ensures ∙ ap (λ (c : Card). answer 11 c 0) c.blank-then-not-is_text.ensures)

pub returns : goal.returns
returns c = read-good new c.args.s.now c.args.area.now c.if-area-ne-AREA_SIZE.false _ _ c.card_in-card.ensures _ c.is_sound.ensures c.if-not-is_sound.false _ c.is_text.ensures _ _ _ c.if-not-is_text.false c.answer-2.ensures c.store.ensures
