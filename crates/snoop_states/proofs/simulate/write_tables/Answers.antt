use Rattle.std.proofs.lemmas.Result.{on_err_weaker}
use Rattle.snoop_trace.{proofs.OutputLemmas.on_err, specs.declared.step.Step.Step}
use Rattle.snoop_engine.proofs.{ShownLemmas.{begins_nothing, begun_so, shown_so}, ViewLemmas.quiet_view}
use Rattle.snoop_engine.specs.{Frames.AreFrames, Views.view_text}
use Rattle.snoop_states.proofs.Common.{[], ℕ, ◌∙◌, ◌≡◌, Chosen, columns_in, Extent, Frame, List, on_ok_weaker, Protocol, refl, Situation}
use Rattle.snoop_states.specs.{Views.IsFor, Whole.{states_table_text, tables_text}}
use Rattle.snoop_states.specs.declared.tables.Tables.{Tables}
use Rattle.snoop_states.proofs.simulate.write_tables.Goals as goal

-- the text of the view that is for these steps is theirs
text_same : {protocol : Protocol} {shape : Extent} {choice : Chosen} {steps : List Step} {view : Tables} → IsFor shape choice steps view
    → (frames : List Frame) (final : Situation) → AreFrames protocol shape steps frames final
    → view_text [] (λ fs f. []) (λ fs s. tables_text view.widths view.choice protocol shape (columns_in view.askers) fs s) frames final ≡ states_table_text protocol shape choice frames final
text_same {protocol = protocol} {shape = shape} {choice = choice} {steps = steps} {view = view} for_steps frames final are =
    quiet_view (λ fs s. tables_text view.widths view.choice protocol shape (columns_in view.askers) fs s) frames final ∙ rw (for_steps.widths, for_steps.choice, for_steps.askers, are.whole) refl

pub returns-in_err-view-clause-front : goal.returns-in_err-view-clause-front
returns-in_err-view-clause-front g c =
    let text : List Frame → Situation → List ℕ = states_table_text c.args.protocol c.args.shape c.args.choice in
    on_err c.from_residual.result _ (begun_so (λ frames final are. quiet_view text frames final)
    (begins_nothing c.args.protocol c.args.shape [] (λ fs f. []) text c.args.steps.now (g.W.Write.contents c.args.writer.now)))

pub returns-clause-ok : goal.returns-clause-ok
returns-clause-ok g c = on_ok_weaker c.show_steps.result (shown_so (text_same c.in_ok-view.ensures)) c.show_steps.ensures.ok

pub returns-clause-front : goal.returns-clause-front
returns-clause-front g c = on_err_weaker c.show_steps.result (begun_so (text_same c.in_ok-view.ensures)) c.show_steps.ensures.front
