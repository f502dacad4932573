use Rattle.snoop_cores.proofs.{Common.{arith, get_or_default, length, None, slice_index_or, ◌<◌}, Joining.no_seat, Performed.ran_to}
use Rattle.snoop_cores.proofs.rows.run_seats.Goals as goal

pub returns-clause-on_time : goal.returns-clause-on_time
returns-clause-on_time g c = λ never k d lt.
    let late = c.run_all.ensures.on_time k no_seat (omega (arith, lt)) never in
    rw (get_or_default c.loop-i.stops.items k d None lt, c.loop-i.invariant.1 k no_seat (omega (arith, lt))) late

pub deal-requires : goal.deal-requires
deal-requires g c = λ k d lt.
    let served = c.in_default.ensures.none k d lt in
    omega (arith, c.core_count.ensures served.has.0 no_seat served.has.1, served.has.2 no_seat)

pub returns-clause-ran : goal.returns-clause-ran
returns-clause-ran g c = λ k d lt.
    let old = slice_index_or c.args.seats.now k d in
    let new = slice_index_or c.run_all.new.seats k d in
    let few : old.core < length c.in-Ok-deal.dealt.items = omega (arith, c.core_count.ensures k d lt, c.in-Ok-deal.ensures.cores) in
    rw (c.loop-i.invariant.1 k d (omega (arith, lt)))
    (ran_to c.args.rows.now c.in-Ok-deal.dealt.items old new c.in-Ok-deal.ensures.dealt few ((rw c.deref.ensures.value at c.run_all.ensures.ran) k d lt))
