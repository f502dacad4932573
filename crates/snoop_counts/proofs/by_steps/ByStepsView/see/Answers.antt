use Rattle.snoop_counts.proofs.Common.{[], ◌++◌, ◌∷◌, ◌≡◌, append-nil, arith, frame_seen, length, length-append, non_zero_u64_get, sym}
use Rattle.snoop_counts.{proofs.LastLemmas.{line_now, no_line_yet}, specs.declared.count.Subjects.TheVariants.Machine}
use Rattle.snoop_counts.proofs.by_steps.ByStepsView.see.Goals as goal

pub returns-then-seen-every-ne0 : goal.returns-then-seen-every-ne0
returns-then-seen-every-ne0 c first frames before has next =
    let frame = frame_seen before c.args.seen c.args.machine.now.situation in
    let get : c.get-every.result ≡ non_zero_u64_get first.every = rw has.every at c.get-every.ensures.value in
    let number : c.args.seen.number ≡ length (frames ++ frame ∷ []) = omega (arith, next.number, length-append frames (frame ∷ [])) in
    let watched = c.in_ok-see.ensures _ _ frames before _ has.watched next c.log.ensures.items in
    let counted = rw (c.happenings.ensures, watched.1) at (c.add_all.ensures (Machine, 1) _ (rw c.in-Some.is at has.counted)) in
    let none = no_line_yet _ (omega (arith, get, c.get-every.ensures.nonzero)) frames frame (rw (get, number) at c.if-seen-every-ne0.true) in
    (record { every = has.every; steps = number; watched = watched.0; counted = rw none.0 at counted }, rw none.1 (sym (append-nil c.args.out.now.items)))

pub returns-in_ok-push_steps-in-Some : goal.returns-in_ok-push_steps-in-Some
returns-in_ok-push_steps-in-Some c first frames before has next =
    let frame = frame_seen before c.args.seen c.args.machine.now.situation in
    let get : c.get-every.result ≡ non_zero_u64_get first.every = rw has.every at c.get-every.ensures.value in
    let number : c.args.seen.number ≡ length (frames ++ frame ∷ []) = omega (arith, next.number, length-append frames (frame ∷ [])) in
    let watched = c.in_ok-see.ensures _ _ frames before _ has.watched next c.log.ensures.items in
    let counted = rw (c.happenings.ensures, watched.1) at (c.add_all.ensures (Machine, 1) _ (rw c.in-Some.is at has.counted)) in
    let line = line_now _ (omega (arith, get, c.get-every.ensures.nonzero)) frames frame (rw (get, number) at c.if-seen-every-ne0.false) c.first_of.result (rw (get, number) at c.first_of.ensures) in (
      record { every = has.every; steps = number; watched = watched.0; counted = rw (← line.0) (c.restart.ensures Machine _ counted) },
      rw (← line.1, ← number) (c.in_ok-push_steps-in-Some.ensures _ counted),
    )
