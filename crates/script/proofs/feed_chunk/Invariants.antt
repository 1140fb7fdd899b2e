use lib.ListN.{length}
use Rattle.script.proofs.feed_chunk.Given as goal

abbrev pub decreases-loop-piece : goal.decreases-loop-piece
decreases-loop-piece g l = length l.rest
