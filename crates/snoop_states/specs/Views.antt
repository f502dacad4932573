-- The view of a run as tables.
-- Source: this project's profile.
use Rattle.std.specs.Prelude.{◌≡◌, List}
use Rattle.snoop_trace.specs.{Extent.Extent, declared.{protocol.Protocol.Protocol, step.Step.Step}}
use Rattle.snoop_engine.specs.{Frames.Frame, Chosen.Chosen, Askers.all_askers}
use Rattle.snoop_states.specs.{declared.tables.Tables.Tables, Columns.columns_in}
use Rattle.snoop_states.specs.{Seen.{AreTables, IsTable}, Widths.widths_of}

-- the view is for these steps
pub record IsFor (shape : Extent) (wanted : Chosen) (steps : List Step) (view : Tables) : Type 0 where
  pub choice : view.choice ≡ wanted
  pub widths : view.widths ≡ widths_of shape steps
  pub askers : view.askers ≡ all_askers shape steps

-- the view that was begun has seen these frames, and is this now
pub record HasSeen (first : Tables) (protocol : Protocol) (shape : Extent) (frames : List Frame) (now : Tables) : Type 0 where
  pub choice : now.choice ≡ first.choice
  pub widths : now.widths ≡ first.widths
  pub tables : AreTables shape now.choice (λ block. IsTable now.widths now.choice protocol shape (columns_in first.askers block) frames block) now.tables.items
