use Rattle.std.{proofs.Common.{◌≡◌, List}, specs.List.{flat_map, range_with_len}}
use Rattle.snoop_trace.specs.declared.step.Step.{Step}
use Rattle.snoop_engine.specs.Askers.{all_askers, askers}
use Rattle.snoop_draw.specs.Panels.{panel_with}
use Rattle.snoop_draw.proofs.panels.all_panels.Given as goal

-- the panels so far, whatever steps these ask in
abbrev pub invariant-loop-block : goal.invariant-loop-block
invariant-loop-block l = (steps : List Step) → l.askers ≡ all_askers l.fn.shape steps → l.panels.items ≡ flat_map (λ block. panel_with block (askers l.fn.shape steps block)) (range_with_len 0 l.block)
