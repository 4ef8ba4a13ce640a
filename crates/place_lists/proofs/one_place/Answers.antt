use native.Mathlib.Omega.{arith}
use mathlib.Core.List.{[]}
use Rattle.place_lists.proofs.Noting.{counted_as}
use Rattle.place_lists.proofs.one_place.Goals as goal

pub push-requires-clause-room : goal.push-requires-clause-room
push-requires-clause-room c = omega (arith, counted_as [] c.no_places-one.result c.no_places-one.ensures)

pub returns : goal.returns
returns c = c.push.ensures [] c.no_places-one.ensures
