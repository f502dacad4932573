use Rattle.std.proofs.Common.{◌≡◌, ◌-◌, ◌^◌, min, take}
use Rattle.snoop_draw.specs.Size.{columns_of}
use Rattle.snoop_draw.proofs.size.columns_of.Given as goal

-- the columns so far
abbrev pub invariant-loop-panel : goal.invariant-loop-panel
invariant-loop-panel l = l.columns ≡ min (columns_of (take l.panel-index l.panels)) (2 ^ 64 - 1)
