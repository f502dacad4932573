-- What holds of every drawing.
-- Source: "A Primer on Memory Consistency and Cache Coherence", 2nd edition: the single-writer-multiple-reader invariant.
use Rattle.std.specs.Prelude.{◌≡◌, ◌≢◌, ⊤, ℕ, false, List, [], ◌∷◌, All}
use Rattle.snoop_rules.specs.declared.names.CacheState.TheVariants.{I}
use Rattle.snoop_model.specs.Pictures.Situation.{Situation, reset, state_of}
use Rattle.snoop_engine.specs.{Frames.{Frame, OfAnySteps}, Askers.is_asker}
use Rattle.snoop_draw.specs.{declared.marks.Mark.TheVariants.{Blank, MayWrite}, Events.may, Rows.held_in}

-- where a core is marked as one that may write, no other has a mark
abbrev pub HasOneEdge : Situation → Type 0
HasOneEdge s = (block core other : ℕ) → may s.protocol (held_in s block core) ≡ MayWrite → other ≢ core → may s.protocol (held_in s block other) ≡ Blank

-- in the run of any steps, at reset and after each step, which is what rows show: where a core is marked as one that may write, no other has a mark
abbrev pub RowsHaveOneEdge : Type 0
RowsHaveOneEdge = OfAnySteps (λ protocol shape steps frames final. HasOneEdge (reset protocol shape) × All (λ frame. HasOneEdge frame.after) frames)

-- in each of these frames the core is in I
abbrev pub HoldsNothing : ℕ → ℕ → List Frame → Type 0
HoldsNothing block core [] = ⊤
HoldsNothing block core (frame ∷ frames) = (state_of frame.after core block ≡ I) × HoldsNothing block core frames

-- in the run of some steps a core that asks for a block in none of them is in I throughout: the columns that are left out would hold nothing
abbrev pub UnaskedHoldNothing : Type 0
UnaskedHoldNothing = OfAnySteps (λ protocol shape steps frames final. (block core : ℕ) → is_asker steps block core ≡ false → HoldsNothing block core frames)
