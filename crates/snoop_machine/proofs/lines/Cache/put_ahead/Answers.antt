use Rattle.snoop_machine.proofs.Common.{ℕ, [], ◌∷◌, Result, IsOk, OnOk, nat_eq, map-append, Line, nothing_held, arith}
use Rattle.indexmap.proofs.CallerLemmas.{insert_entry-new}
use Rattle.snoop_machine.proofs.lines.Cache.put_ahead.Goals as goal

-- what holds on success holds of a success
on_ok : {A B : Type 0} {P : Type 0} (r : Result A B) → OnOk r P → IsOk r → P
on_ok r p h = grind arith

pub returns-clause-blocks : goal.returns-clause-blocks
returns-clause-blocks g c =
    let m = c.self.inside.lines in
    let block = c.args.block in
    let room = rw (← c.self.view_is) at c.requires.room in
    let absent = rw (← c.self.view_is) at c.requires.absent in
    let entries = on_ok c.insert.result c.insert.ensures.entries (c.insert.ensures.succeeds room) in
    let new = insert_entry-new nat_eq m block nothing_held (grind (arith, absent)) in
    grind (arith, entries, new, map-append (λ (e : ℕ × Line). e.0) m.entries ((block, nothing_held) ∷ []), c.self.view_is)
