use Rattle.std.proofs.Common.{◌≡◌, ◌+◌, ◌*◌, ◌<◌, ◌^◌, ◌++◌, drop}
use Rattle.snoop_draw.specs.Size.{columns_of}
use Rattle.snoop_svg.specs.Layout.{after_panels, columns_from}
use Rattle.snoop_svg.proofs.columns.columns_for.Given as goal

-- what is left follows the columns so far
abbrev pub invariant-loop-panel : goal.invariant-loop-panel
invariant-loop-panel l = record {
  columns : l.columns.items ++ columns_from l.sizes l.x (drop l.panel-index l.panels) ≡ columns_from l.sizes l.start l.panels;
  next : after_panels l.sizes l.x (drop l.panel-index l.panels) ≡ after_panels l.sizes l.start l.panels;
  room : l.x + 12000 * columns_of (drop l.panel-index l.panels) < 2 ^ 32;
}
