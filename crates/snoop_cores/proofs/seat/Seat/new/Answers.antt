use Rattle.snoop_cores.proofs.Common.{answers_of, ap, Did, List, sym, ◌++◌}
use Rattle.snoop_cores.proofs.seat.Seat.new.Goals as goal

pub invariant_of-result : goal.invariant_of-result
invariant_of-result c =
    let seen : List Did = answers_of c.args.reader.seen c.args.core in
    (c.requires.reader, c.requires.core, (seen, ap (λ (l : List Did). l ++ seen) (sym c.new.ensures.items)))
