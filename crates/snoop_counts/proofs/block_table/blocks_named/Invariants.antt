use Rattle.snoop_counts.proofs.Common.{◌≡◌, blocks_named, CountsBlocks, Happening, List, map, with_requests}
use Rattle.snoop_counts.proofs.block_table.blocks_named.Given as goal

-- the blocks so far
abbrev pub invariant-loop-block : goal.invariant-loop-block
invariant-loop-block l = (seen : List Happening) → CountsBlocks l.blocks seen l.tally → l.named.items ≡ map (with_requests seen) (blocks_named l.block seen)
