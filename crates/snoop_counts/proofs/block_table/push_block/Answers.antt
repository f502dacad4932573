use Rattle.snoop_counts.{proofs.{Common.{append_assoc, Blocks, counted_of, IfOk-equal, rules}, BlockLemmas.fields_are}, specs.ByBlock.block_counts}
use Rattle.snoop_counts.specs.declared.count.Count.TheVariants.{Lines}
use Rattle.snoop_counts.proofs.block_table.push_block.Goals as goal

pub returns-in_ok-push_counts-in-Some : goal.returns-in_ok-push_counts-in-Some
returns-in_ok-push_counts-in-Some c seen far there named =
    let row = c.in-Some.ensures c.args.shape.blocks seen far there in
    let sharing = c.in_ok-push_sharing-in-Some.ensures Blocks Lines c.args.shape.blocks seen far.named far.readers far.writers there in
    let fields = fields_are c.in-Some.row (counted_of Blocks seen c.args.block) row.1 block_counts in
    search (rules, append_assoc, IfOk-equal)
