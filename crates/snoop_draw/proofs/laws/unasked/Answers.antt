use Rattle.std.{proofs.{Common.{◌≡◌, ℕ, List, [], ◌∷◌, false, ap, arith}, lemmas.Bool.or_parts}, specs.Prelude.{Ok, Err, Result}}
use Rattle.snoop_engine.proofs.Common.{Ask, GoesFirst, I, Line, Refused, Reply, Step, nat_tests}
use Rattle.snoop_engine.{proofs.PossibleHolderLemmas.{IsAskOf, stays_in_i}, specs.{Frames.{Frame, FramesFrom, steps_of}, Askers.{asks_for, is_asker}}}
use Rattle.snoop_model.proofs.{Common.{Situation, reset, state_of}, Invariant.Runs.reset_line}
use Rattle.snoop_draw.specs.Laws.{HoldsNothing}
use Rattle.snoop_draw.proofs.laws.unasked.Goals as goal

module _ (block core : ℕ) where
  -- only the core's Ask for the block moves it out of I
  step_stays : (old new : Situation) (step : Step) (outcome : Result Reply Refused) → GoesFirst old step outcome new → asks_for block core step ≡ false
      → state_of old core block ≡ I → state_of new core block ≡ I
  step_stays old new step (Err cause) goes never idle = rw goes.1 idle
  step_stays old new step (Ok answer) goes never idle = stays_in_i old new step answer goes core block (another step never) idle
    where
      another : (step : Step) → asks_for block core step ≡ false → IsAskOf step core block → ⊥
      another (Ask asker on word op) never is = grind (arith, nat_tests)
      another _ never is = is

  frames_stay : (old : Situation) (frames : List Frame) (final : Situation) → FramesFrom old frames final
      → is_asker (steps_of frames) block core ≡ false → state_of old core block ≡ I → HoldsNothing block core frames
  frames_stay old [] final run never idle = tt
  frames_stay old (frame ∷ frames) final run never idle =
      let parts = or_parts (asks_for block core frame.step) (is_asker (steps_of frames) block core) never in
      let after = step_stays frame.before frame.after frame.step frame.outcome run.0.goes parts.0 (rw run.0.before idle) in
      (after, frames_stay frame.after frames final run.1 parts.1 after)

-- a core that asks for a block in no step is in I throughout
pub returns : goal.returns
returns c protocol shape steps frames final are block core never =
    frames_stay block core (reset protocol shape) frames final are.run (rw (← are.whole) at never)
    (ap (λ (line : Line). line.state) (reset_line protocol shape core block))
