use Rattle.std.proofs.Common.{◌≡◌, All, None, take}
use Rattle.snoop_sim.proofs.threads.check_stops.Given as goal

-- none of the stops so far
abbrev pub invariant-loop-stop : goal.invariant-loop-stop
invariant-loop-stop l = All (λ stop. stop ≡ None) (take l.stop-index l.stops)
