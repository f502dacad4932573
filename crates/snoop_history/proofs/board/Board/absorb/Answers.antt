use Rattle.std.{proofs.Common.{rules, ◌≡◌, ◌∙◌, ◌<◌, arith, ap, length, Some, true}, specs.Prelude.{slice_index, slice_set}}
use Rattle.snoop_history.{proofs.Common.{counted, get_or_read}, specs.Board.{Tables, operation_within, absorbed}}
use Rattle.snoop_history.proofs.Boards.{board_after, absorbed_as, operation_within-lies, place-within, same_tables}
use Rattle.snoop_history.proofs.board.Board.absorb.Goals as goal

pub write_value-requires : goal.write_value-requires
write_value-requires c =
    let b = c.self.inside in
    let own : operation_within (length b.counts.items) b.blocks b.words c.args.item ≡ Some c.in-Some.did = search rules in
    let lies = operation_within-lies _ _ _ c.args.item _ own in
    rw c.self.invariant.1 (place-within b.blocks b.words _ _ lies.1 lies.2)

pub returns-in-Some : goal.returns-in-Some
returns-in-Some c =
    let counts = c.self.inside.counts.items in
    let core = c.in-Some.did.core in
    let own : operation_within (length counts) c.self.inside.blocks c.self.inside.words c.args.item ≡ Some c.in-Some.did = search rules in
    let within : core < length counts = (operation_within-lies _ _ _ c.args.item c.in-Some.did own).0 in
    let read : c.index.result.now ≡ slice_index counts core = get_or_read _ _ _ within c.index.ensures 0 in
    let one_more : c.saturating_add.result ≡ counted (slice_index counts core) true = omega arith in
    let after = absorbed_as _ _ c.args.item c.in-Some.did own
    (same_tables _ _ (search rules) (search rules) (search rules) (ap (λ n. slice_set counts core n) one_more) (search rules) (search rules)) in
    record { value = after ∙ ap (λ (t : Tables). absorbed t c.args.item) c.self.view_is; board = board_after c.self.view_is c.args.item after }

pub returns-in_default : goal.returns-in_default
returns-in_default c = record { value = search rules ∙ ap (λ (t : Tables). absorbed t c.args.item) c.self.view_is; board = board_after c.self.view_is c.args.item (search rules) }
