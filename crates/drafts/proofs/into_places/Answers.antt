-- `into_places` has the numbers of the places in the front of the room. Assumes nothing.
use mathlib.Core.Path.{◌≡◌, ap, ◌∙◌}
use Prim.Native.Nat.{◌*◌}
use native.Mathlib.Omega.{arith}
use lib.ListN.{length, take}
use lib.Seq.{take_at}
use borrow.Author.Rules.{rules}
use Rattle.rules.specs.Final.{put_at}
use Rattle.jobs.specs.Jobs.{place_room}
use Rattle.drafts.proofs.Drafting.{places_means}
use Rattle.drafts.proofs.into_places.Goals as goal

pub copy-requires : goal.copy-requires
copy-requires c =
    let all_numbers : length c.args.found.places ≡ 2 * place_room = search rules in omega (arith, all_numbers, c.requires)

pub returns : goal.returns
unfolding put_at
returns c =
    let all_numbers : length c.args.found.places ≡ 2 * place_room = search rules in
    let a = c.args in
    places_means a.to.len a.to.granule c.places_plan.result a.offset a.to.at1 a.to.at0 a.value
    a.found _ c.places_plan.ensures
    (ap (take (2 * place_room)) c.copy.ensures
    ∙ take_at a.found.places _ (2 * place_room) (all_numbers))
