use Rattle.std.proofs.Common.{◌≡◌, ◌&&◌, nat_lt, Bool, true, false, cond, Some, None, List, [], ◌∷◌, ◌++◌, refl, unwrap_or, arith}
use Rattle.snoop_rules.specs.{Possible.{MayLoad, MayStore}, declared.names.CacheState.CacheState}
use Rattle.snoop_model.{proofs.Runs.Along.run_more, specs.{Coherent.IsCoherent, Runs.Safe.TheRunIsCoherent}}
use Rattle.snoop_engine.proofs.Common.{All, All-cons, All-nil, Extent, Frame, FramesFrom, GoesFirst, I, Protocol, Refused, Reply, Result, Situation, Step, TheRun, reset, state_of}
use Rattle.snoop_draw.specs.{declared.marks.Mark.TheVariants.{Blank, MayWrite}, Events.may, Laws.HasOneEdge}
use Rattle.snoop_draw.proofs.laws.one_edge.Goals as goal

-- a core's state is shown, or I where there is no such core or block
module _ (protocol : Protocol) (held : CacheState) where
  may_store : (there : Bool) → may protocol (unwrap_or (cond there (Some held) None) I) ≡ MayWrite → MayStore protocol held
  may_store true marked = grind arith
  may_store false marked = grind arith

  unmarked : (there : Bool) → (¬ MayLoad protocol held) × (¬ MayStore protocol held) → may protocol (unwrap_or (cond there (Some held) None) I) ≡ Blank
  unmarked true none = grind arith
  unmarked false none = grind arith

marked_once : (s : Situation) → IsCoherent s → HasOneEdge s
marked_once s coherent block core other marked apart =
    let stores = may_store s.protocol (state_of s core block) (nat_lt core s.shape.cores && nat_lt block s.shape.blocks) marked in
    unmarked s.protocol (state_of s other block) (nat_lt other s.shape.cores && nat_lt block s.shape.blocks) (coherent.one_writer block core other stores apart)

module _ (protocol : Protocol) (shape : Extent) (coherent : TheRunIsCoherent) where
  -- where some steps have led
  reached : (steps : List Step) (outcomes : List (Result Reply Refused)) (here : Situation) → TheRun protocol shape steps outcomes here → HasOneEdge here
  reached steps outcomes here run = marked_once here (coherent protocol shape steps outcomes here run).coherent

  -- and after each further one
  after_each : (steps : List Step) (outcomes : List (Result Reply Refused)) (here : Situation) (frames : List Frame) (final : Situation)
      → TheRun protocol shape steps outcomes here → FramesFrom here frames final → All (λ frame. HasOneEdge frame.after) frames
  after_each steps outcomes here [] final run on = All-nil (λ frame. HasOneEdge frame.after)
  after_each steps outcomes here (frame ∷ frames) final run on =
      let goes : GoesFirst here frame.step frame.outcome frame.after = rw (← on.0.before) on.0.goes in
      let more = run_more GoesFirst steps outcomes (reset protocol shape) here frame.after frame.step frame.outcome run goes in
      let further = steps ++ frame.step ∷ [] in
      let answers = outcomes ++ frame.outcome ∷ [] in
      All-cons (λ frame. HasOneEdge frame.after) frame frames (reached further answers frame.after more) (after_each further answers frame.after frames final more on.1)

pub returns : goal.returns
returns c protocol shape steps frames final are =
    let coherent = c.the_run_is_coherent.ensures.coherent in
    let first = reset protocol shape in
    (reached protocol shape coherent [] [] first refl, after_each protocol shape coherent [] [] first frames final refl are.run)
