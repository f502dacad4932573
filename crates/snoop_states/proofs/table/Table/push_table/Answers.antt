use Rattle.snoop_states.proofs.{Common.{append-nil, append_assoc, IfOk-equal, rules, sym}, TableLemmas.{table_shown, table_unshown}}
use Rattle.snoop_states.proofs.table.Table.push_table.Goals as goal

pub returns-in_ok-push_bytes : goal.returns-in_ok-push_bytes
returns-in_ok-push_bytes c choice columns frames is =
    let shown = table_shown is c.if-self.true in
    let names = (rw c.deref.ensures.value at c.in_ok-push_names_line.ensures) columns _ shown.0.cells in
    let rows = rw c.deref-then-self.ensures.value at c.in_ok-push_bytes.ensures in
    rw shown.1 (search (rules, append_assoc, IfOk-equal))

pub returns-else-self : goal.returns-else-self
returns-else-self c choice columns frames is = rw (table_unshown is c.if-self.false) (sym (append-nil c.args.out.now.items))
