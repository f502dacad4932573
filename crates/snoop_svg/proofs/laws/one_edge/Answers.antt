use Rattle.std.proofs.{Common.{◌≡◌, refl, arith}, lemmas.List.Elements.All-weaker}
use Rattle.snoop_rules.specs.declared.names.CacheState.{CacheState}
use Rattle.snoop_model.specs.Pictures.Situation.{Situation, reset}
use Rattle.snoop_draw.specs.Laws.{HasOneEdge as HasOneMark}
use Rattle.snoop_draw.specs.{Events.may, Rows.held_in, declared.marks.Mark.{Mark, TheVariants.MayWrite}}
use Rattle.snoop_svg.specs.{Bands.{HasEdge, marked_band}, Laws.HasOneEdge}
use Rattle.snoop_svg.proofs.laws.one_edge.Goals as goal

-- a band with an edge is that of a core that may write
edged : (mark : Mark) (held : CacheState) → HasEdge (marked_band mark held) → mark ≡ MayWrite
edged mark held edge = grind arith

banded_once : (s : Situation) → HasOneMark s → HasOneEdge s
banded_once s marks block core other edge apart =
    rw (marks block core other (edged (may s.protocol (held_in s block core)) (held_in s block core) edge) apart) refl

pub returns : goal.returns
returns c protocol shape steps frames final are =
    let marks = c.one_edge.ensures protocol shape steps frames final are in
    (banded_once (reset protocol shape) marks.0, All-weaker (λ frame. HasOneMark frame.after) (λ frame. HasOneEdge frame.after) (λ frame. banded_once frame.after) frames marks.1)
