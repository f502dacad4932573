use Rattle.snoop_counts.proofs.{Common.{append-nil, append_assoc, Cores, counted_of, IfOk-equal, rules, sym}, BlockLemmas.fields_are}
use Rattle.snoop_counts.specs.CoreTable.{core_counts}
use Rattle.snoop_counts.proofs.core_table.push_core.Goals as goal

pub returns-in_ok-push_counts-in-Some : goal.returns-in_ok-push_counts-in-Some
returns-in_ok-push_counts-in-Some c cores seen far there =
    let row = c.in-Some.ensures Cores cores seen far there in
    let fields = fields_are c.in-Some.row (counted_of Cores seen c.args.core) row.1 core_counts in
    rw row.0 (search (rules, append_assoc, IfOk-equal))

pub returns-in-None : goal.returns-in-None
returns-in-None c cores seen far there = rw (c.in-None.ensures Cores cores seen far there) (sym (append-nil c.args.out.now.items))
