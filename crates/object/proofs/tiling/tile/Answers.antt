use Rattle.std.proofs.lemmas.Result.{MatchResult-weaker}
use Rattle.object.specs.Readers.{rest_of}
use Rattle.object.proofs.Trees.{refuted}
use Rattle.object.proofs.Unique.{once}
use Rattle.object.proofs.tiling.tile.Goals as goal

pub returns : goal.returns
returns c = MatchResult-weaker c.read_objects.result c.read_objects.ensures (λ _ t. once c.args.levels (rest_of c.args.reader) t) (λ q f. refuted f)
