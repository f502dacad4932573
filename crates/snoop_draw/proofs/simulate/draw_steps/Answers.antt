use Rattle.std.proofs.Common.{◌≡◌, ◌+◌, List, [], length, refl, inr, Option, ℕ, Result, Ok, Err, IsErrAnd}
use Rattle.snoop_trace.specs.declared.fault.WriteFault.{WriteFault}
use Rattle.snoop_trace.specs.declared.fault.WriteFault.TheVariants as write
use Rattle.snoop_engine.proofs.Common.{AreFrames, Chosen, Extent, Frame, Protocol, Situation, Step, fault_of_write, view_text}
use Rattle.snoop_engine.proofs.{ShownLemmas.{begun_so, shown_so}, ViewLemmas.shown_numbered}
use Rattle.snoop_draw.specs.{Drawings.{Sheet, beginning_text, rows_at, sheet_for}, Headings.legend_text, Simulated.{BeginsToDraw, DrawsSteps, drawing}, declared.{fault.DrawFault.{DrawFault, TheVariants.Simulation}, marks.Charset.Charset}}
use Rattle.snoop_draw.proofs.simulate.draw_steps.Goals as goal

-- the view of the sheet for these steps writes their drawing
whole_text : {protocol : Protocol} {shape : Extent} {charset : Charset} {choice : Chosen} {steps : List Step} {sheet : Sheet}
    → sheet ≡ sheet_for shape charset choice steps → (frames : List Frame) (final : Situation) → AreFrames protocol shape steps frames final
    → view_text (beginning_text sheet protocol shape) (λ seen frame. rows_at sheet shape (1 + length seen) frame) (λ frames final. legend_text sheet.style.charset) frames final
    ≡ drawing protocol shape charset choice frames final
whole_text {shape = shape} {charset = charset} {choice = choice} {steps = steps} made frames final are =
    rw (made, are.whole, shown_numbered (rows_at (sheet_for shape charset choice steps) shape) [] frames) refl

-- a drawing that stopped at a write has begun
stopped : (protocol : Protocol) (shape : Extent) (charset : Charset) (choice : Chosen) (steps : List Step) (old new : Option (List ℕ)) (result : Result (Unit {0}) DrawFault) (fault : WriteFault)
    → IsErrAnd result (λ e. e ≡ Simulation (fault_of_write fault)) → BeginsToDraw protocol shape charset choice steps old new → DrawsSteps protocol shape charset choice steps result old new
stopped protocol shape charset choice steps old new (Err e) write.Write is begins = rw is begins
stopped protocol shape charset choice steps old new (Err e) write.NoMemory is begins = rw is (inr begins)
stopped protocol shape charset choice steps old new (Ok u) fault is begins = absurd is

pub returns-in_err-show_steps-clause-does : goal.returns-in_err-show_steps-clause-does
returns-in_err-show_steps-clause-does g c =
    let panels = rw c.block.ensures at c.in_ok-panels.ensures in
    let made = rw (c.in_ok-widths.ensures, panels) at c.new-drawing.ensures in
    stopped _ _ _ _ _ _ _ c.from_residual-in_err-show_steps.result c.in_err-show_steps.field-0.0 c.from_residual-in_err-show_steps.ensures.1
    (rw (c.deref.ensures.value, panels) at (c.if-not-is_small.ensures.0 refl), begun_so (whole_text made) c.in_err-show_steps.ensures.front)

pub returns-clause-does : goal.returns-clause-does
returns-clause-does g c =
    let panels = rw c.block.ensures at c.in_ok-panels.ensures in
    let made = rw (c.in_ok-widths.ensures, panels) at c.new-drawing.ensures in (
      rw (c.deref.ensures.value, panels) at (c.if-not-is_small.ensures.0 refl),
      shown_so (whole_text made) c.in_ok-show_steps.ensures.ok,
    )
