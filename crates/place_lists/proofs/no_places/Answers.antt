use mathlib.Core.Path.{refl}
use Rattle.blocks.specs.Made.{number_bytes, place_list}
use Rattle.place_lists.proofs.no_places.Goals as goal

pub returns : goal.returns
unfolding place_list number_bytes
returns c = refl
