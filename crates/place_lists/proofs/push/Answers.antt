use Rattle.place_lists.proofs.Noting.{pushed}
use Rattle.place_lists.proofs.push.Goals as goal

pub returns : goal.returns
returns c = λ ks e. pushed ks c.args.place.0 c.args.list.now c.store.new.out e c.requires.room c.store.ensures
