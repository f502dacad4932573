use Rattle.std.proofs.{Common.{ap, length, sym}, lemmas.Result.{on_err_weaker, on_ok_weaker}}
use Rattle.snoop_engine.proofs.Common.{◌≡◌, List, [], ◌∷◌, refl, ◌∙◌, AreFrames, Chosen, Extent, Frame, FramesFrom, Protocol, Situation, Step, steps_of}
use Rattle.snoop_model.proofs.{Queues.keeps_well, Runs.GoOn.{IsSteady, reset_steady, steady_on}, Steps.goes_is}
use Rattle.snoop_engine.proofs.ShownLemmas.{begun_so, shown_so}
use Rattle.snoop_svg.specs.{declared.paper.Paper.Paper, Drawings.{drawing_text, drawn, plan_for, planned_text}, Sheets.Plan, Simulated.IsPlanOf}
use Rattle.snoop_svg.proofs.simulate.draw_planned.Goals as goal

-- the frames of some steps are the only ones: each step comes to what is computed of it
frames_one : (frames others : List Frame) (here final end : Situation) → IsSteady here → FramesFrom here frames final → FramesFrom here others end
    → steps_of frames ≡ steps_of others → frames ≡ others
frames_one [] [] here final end steady run other same = refl
frames_one (f ∷ fs) (o ∷ os) here final end steady run other same =
    let step : f.step ≡ o.step = cc in
    let rest : steps_of fs ≡ steps_of os = cc in
    let goes = rw run.0.before at run.0.goes in
    let is = goes_is here steady.1.queued f.step in
    let came = is f.outcome f.after goes ∙ sym (is o.outcome o.after (rw (other.0.before, ← step) at other.0.goes)) in
    let tail = frames_one fs os f.after final end (steady_on keeps_well here f.step f.outcome f.after steady goes) run.1 (rw (← ap (λ x. x.1) came) at other.1) rest in
    λ i. record { step = step i; outcome = (came i).0; before = (run.0.before ∙ sym other.0.before) i; after = (came i).1 } ∷ tail i
frames_one _ _ here final end steady run other same = absurd cc

-- a run of the steps has as many rows as were counted, so the plan is its own
whole_text : {protocol : Protocol} {shape : Extent} {choice : Chosen} {paper : Paper} {steps : List Step} {plan now : Plan}
    → IsPlanOf protocol shape choice paper steps plan → now ≡ plan → (frames : List Frame) (final : Situation) → AreFrames protocol shape steps frames final
    → planned_text now protocol shape frames final ≡ drawing_text protocol shape choice paper frames final
whole_text {protocol = protocol} {shape = shape} {choice = choice} {paper = paper} planned same frames final are =
    let had = planned.has.run in
    let run = frames_one planned.has.frames frames _ _ _ (reset_steady protocol shape) had.run are.run (had.whole ∙ sym are.whole) in
    let count : planned.rows ≡ length (drawn choice frames) = planned.has.count ∙ (λ i. length (drawn choice (run i))) in
    λ i. planned_text ((same ∙ planned.is ∙ (λ j. plan_for shape choice paper (sym are.whole j) (count j))) i) protocol shape frames final

pub returns-clause-ok : goal.returns-clause-ok
returns-clause-ok g c choice paper is = on_ok_weaker c.show_steps.result (shown_so (whole_text is c.new-drawing.ensures)) c.show_steps.ensures.ok

pub returns-clause-front : goal.returns-clause-front
returns-clause-front g c choice paper is = on_err_weaker c.show_steps.result (begun_so (whole_text is c.new-drawing.ensures)) c.show_steps.ensures.front
