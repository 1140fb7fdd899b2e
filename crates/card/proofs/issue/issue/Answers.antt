use Rattle.card.specs.Ordered.{order_of}
use Rattle.card.proofs.Issuing.{not_area, not_good, is-issued}
use Rattle.card.proofs.issue.issue.Goals as goal

pub returns-then-area-ne-AREA_SIZE : goal.returns-then-area-ne-AREA_SIZE
returns-then-area-ne-AREA_SIZE c = let a = c.args in
    not_area (order_of a.key.now a.device_limit a.admin_pin.now a.admin_limit a.user_pin.now a.user_limit a.mode a.transport_key.now a.transport_limit) a.area.now _ _ c.if-area-ne-AREA_SIZE.true c.blank.ensures c.answer.ensures

pub returns-then-not-good_order : goal.returns-then-not-good_order
returns-then-not-good_order c = let a = c.args in
    not_good (order_of a.key.now a.device_limit a.admin_pin.now a.admin_limit a.user_pin.now a.user_limit a.mode a.transport_key.now a.transport_limit) a.area.now _ _ _ c.if-area-ne-AREA_SIZE.false c.good_order.ensures c.if-not-good_order.true c.blank-then-not-good_order.ensures c.answer-then-not-good_order.ensures

pub shape_of-area : goal.shape_of-area
shape_of-area c = c.area-1.given

pub returns : goal.returns
returns c = let a = c.args in
    is-issued (order_of a.key.now a.device_limit a.admin_pin.now a.admin_limit a.user_pin.now a.user_limit a.mode a.transport_key.now a.transport_limit) a.area.now _ _ _ c.if-area-ne-AREA_SIZE.false c.good_order.ensures _ c.if-not-good_order.false c.clear.ensures c.ordered.ensures c.answer-2.ensures
