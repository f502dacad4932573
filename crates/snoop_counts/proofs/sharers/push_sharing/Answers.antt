use Rattle.snoop_counts.proofs.Common.{append_assoc, IfOk-equal, rules}
use Rattle.snoop_counts.specs.declared.count.Count.TheVariants as count
use Rattle.snoop_counts.proofs.sharers.push_sharing.Goals as goal

pub returns : goal.returns
returns c whose counted many seen all readers writers there =
    let of_all = c.of.ensures whose counted many seen all there c.requires in
    let of_readers = c.of-2.ensures whose count.Loads many seen readers there c.requires in
    let of_writers = c.of-3.ensures whose count.Stores many seen writers there c.requires in
    search (rules, append_assoc, IfOk-equal)
