-- What holds of every drawing.
-- Source: "A Primer on Memory Consistency and Cache Coherence", 2nd edition: the single-writer-multiple-reader invariant.
use Rattle.std.specs.Prelude.{◌≡◌, ◌≢◌, ◌↔◌, ℕ, List, All, codes, Some}
use Rattle.snoop_model.specs.Pictures.Situation.{Situation, reset}
use Rattle.snoop_engine.specs.Frames.{OfAnySteps}
use Rattle.snoop_draw.specs.Rows.{held_in}
use Rattle.snoop_svg.specs.{declared.bands.Band.TheVariants.Bare, Bands.{HasEdge, core_band}, Cells.{class_of_words, is_new}, Looks.Look}

-- where a core's band has an edge, no other core has a band
abbrev pub HasOneEdge : Situation → Type 0
HasOneEdge s = (block core other : ℕ) → HasEdge (core_band s.protocol (held_in s block core)) → other ≢ core → core_band s.protocol (held_in s block other) ≡ Bare

-- in the run of any steps, at reset and after each step, which is what rows show: where a core's band has an edge, no other core has a band
abbrev pub RowsHaveOneEdge : Type 0
RowsHaveOneEdge = OfAnySteps (λ protocol shape steps frames final. HasOneEdge (reset protocol shape) × All (λ frame. HasOneEdge frame.after) frames)

-- words are bold exactly where they differ from those above
abbrev pub NewWordsAreBold : Type 0
NewWordsAreBold = (above : Look) (words : List ℕ) → (class_of_words (is_new (Some above) words) ≡ codes "s") ↔ (above.words ≢ words)
