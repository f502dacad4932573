use Rattle.snoop_counts.{proofs.Common.{◌++◌, ◌<◌, ◌≡◌, All, Blocks, CountsBlocks, flat_map, Happening, List, take, true}, specs.ByBlock.block_line}
use Rattle.snoop_counts.specs.Counted.{is_named}
use Rattle.snoop_counts.proofs.block_table.push_blocks.Given as goal

-- the lines so far
abbrev pub invariant-loop-shown : goal.invariant-loop-shown
invariant-loop-shown l = (seen : List Happening) → CountsBlocks l.shape.blocks seen l.tally → All (λ shown. (shown.block < l.shape.blocks) × (is_named Blocks seen shown.block ≡ true)) l.blocks
    → l.out.items ≡ l.fn.out.items ++ flat_map (λ shown. block_line l.shape seen shown.block) (take l.shown-index l.blocks)
