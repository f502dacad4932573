use Rattle.snoop_bench.proofs.{Common.{ap, case_of, is_some, Locked, refl, Situation, Some, state_of, Step, sym, true, turn_of, waiting_request, Work, well_kept_in, ◌∙◌, ◌≡◌}, Outcomes.{finished_turn, served_turn}}
use Rattle.std.proofs.Common.{ℕ, Option}
use Rattle.snoop_bench.proofs.Turning.{at_case, Facing, facing, finished, IsCase, never, serving_step, stepped, turn_within}
use Rattle.snoop_bench.proofs.bench.Bench.go_on.{Given.Over, Goals.After-recorded}
use Rattle.snoop_bench.proofs.bench.Bench.go_on.Goals as goal

-- the step of the turn, as a machine in the same situation found it
found_by : {s m : Situation} (core : ℕ) (work : Work) {found : Option Step} {step : Step} → m ≡ s → found ≡ turn_of m core work.block work.word work.op true
    → found ≡ Some step → turn_of s core work.block work.word work.op true ≡ Some step
found_by core work same found is = rw (← same) (sym found ∙ is)

module _ (g : Over) (c : After-recorded g) where
  faces : Facing c.self.inside.recorder.situation c.self.inside.works.items c.args.core c.args.work (Some c.in-Some.step)
  faces =
      let same = c.machine-machine.ensures ∙ ap (λ (l : Locked). l.situation) c.self.view_is in
      facing c.self.view_is c.args.core c.args.work c.self.invariant (well_kept_in _ c.recorded.ensures.safe) c.requires.inside c.requires.its
      (found_by c.args.core c.args.work same c.turn_step.ensures c.in-Some.is)

  waits : c.waits_on-waits.result ≡ is_some (waiting_request (state_of c.self.inside.recorder.situation c.args.core c.args.work.block))
  waits = (rw c.machine-machine.ensures at c.waits_on-waits.ensures.inside) faces.inside.0 faces.inside.1

  case : IsCase c.args.core c.args.work.block (case_of c.self.inside.recorder.situation c.args.core c.args.work.block true) c.waits_on-waits.result (Some c.in-Some.step)
  case = at_case c.self.inside.recorder.situation c.args.core c.args.work.block c.args.work.word c.args.work.op (sym waits) faces.step_is

pub take-requires-clause-allowed : goal.take-requires-clause-allowed
take-requires-clause-allowed g c = never c.turns_are_served.ensures (faces g (goal.at.take-requires-clause-allowed g c).After-recorded)

pub take-requires-clause-within : goal.take-requires-clause-within
take-requires-clause-within g c =
    let d = (goal.at.take-requires-clause-within g c).After-recorded in
    turn_within c.self.inside.recorder.situation.shape (faces g d).inside.0 (faces g d).inside.1 (case g d)

pub invariant_of-self-then-waits : goal.invariant_of-self-then-waits
invariant_of-self-then-waits g c =
    let d = (goal.at.invariant_of-self-then-waits g c).After-recorded in
    let m = stepped c.turns_are_served.ensures (well_kept_in _ c.recorded.ensures.safe) c.in_ok-take.ensures.takes c.in_ok-take.ensures.once c.take.ensures.stays.1 in
    serving_step c.turns_are_served.ensures m c.self.inside.works.items (faces g d).under (case g d)

pub returns-then-waits-clause-ok : goal.returns-then-waits-clause-ok
returns-then-waits-clause-ok g c =
    let d = (goal.at.returns-then-waits-clause-ok g c).After-recorded in
    rw (← c.self.view_is, (faces g d).its)
    (served_turn c.args.core c.args.work _ _ (rw c.if-waits.true at (case g d)) c.in_ok-take.ensures.takes refl)

pub invariant_of-self-2 : goal.invariant_of-self-2
invariant_of-self-2 g c =
    let d = (goal.at.invariant_of-self-2 g c).After-recorded in
    let m = stepped c.turns_are_served.ensures (well_kept_in _ c.recorded.ensures.safe) c.in_ok-take.ensures.takes c.in_ok-take.ensures.once c.take.ensures.stays.1 in
    serving_step c.turns_are_served.ensures m c.self.inside.works.items (faces g d).under (case g d)

pub close-requires-2-clause-closed : goal.close-requires-2-clause-closed
close-requires-2-clause-closed g c =
    let d = (goal.at.close-requires-2-clause-closed g c).After-recorded in
    let m = stepped c.turns_are_served.ensures (well_kept_in _ c.recorded.ensures.safe) c.in_ok-take.ensures.takes c.in_ok-take.ensures.once c.take.ensures.stays.1 in
    (finished c.turns_are_served.ensures (rw c.if-waits.false at (case g d)) (faces g d) (sym c.if-waits.false ∙ waits g d) m).step_is

pub returns-clause-ok : goal.returns-clause-ok
returns-clause-ok g c =
    let d = (goal.at.returns-clause-ok g c).After-recorded in
    rw (← c.self.view_is, (faces g d).its)
    (finished_turn c.args.core c.args.work c.close-2.result _ (record { situation = c.take.new.self.situation; steps = c.take.new.self.steps; works = c.self.inside.works.items; published = c.take.new.self.published }) _ (rw c.if-waits.false at (case g d)) c.in_ok-take.ensures.takes refl c.close-2.ensures)
