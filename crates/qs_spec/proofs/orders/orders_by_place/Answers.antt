use Rattle.qs_spec.specs.Order.{overlap}
use Rattle.qs_spec.proofs.Places.{by_places}
use Rattle.qs_spec.proofs.orders.orders_by_place.Goals as goal

pub returns : goal.returns
returns c = by_places overlap
