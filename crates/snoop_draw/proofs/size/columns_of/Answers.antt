use Rattle.std.proofs.{Common.{◌≡◌, ◌+◌, List, [], ◌∷◌, ◌++◌, length, take, ap, arith}, lemmas.List.take_more}
use Rattle.snoop_draw.specs.{Panels.Panel, Size.columns_of}
use Rattle.snoop_draw.proofs.size.columns_of.Goals as goal

-- one panel more
columns_more : (panels : List Panel) (panel : Panel) → columns_of (panels ++ panel ∷ []) ≡ columns_of panels + (length panel.cores + 2)
columns_more [] panel = omega arith
columns_more (first ∷ panels) panel = omega (arith, columns_more panels panel)

pub loop-panel-preserved : goal.loop-panel-preserved
loop-panel-preserved c =
    let i = c.loop-panel.panel-index in
    let next = rw (← c.panel-item.is) at (take_more c.args.panels.now i c.panel-item.result c.loop-panel-test.true) in
    omega (arith, c.saturating_add-columns.ensures, ap columns_of next, columns_more (take i c.args.panels.now) c.panel-item.result, ap length c.cores.ensures)
