-- What can be counted of a run.
-- Source: this project's profile.
use Rattle.std.specs.Prelude.{List, [], ◌∷◌, ◌++◌, map, option_to_list}
use Rattle.snoop_engine.specs.{Frames.Frame, Taken.lines_of_step}
use Rattle.snoop_counts.specs.{Causes.{cause_of, item_of, operation_in}, declared.count.Happening.Happening}
use Rattle.snoop_counts.specs.declared.count.Happening.TheVariants as happening

-- what can be counted of a step: its lines, with what was answered to it and the causes of misses, and what it adds to the history
abbrev pub seen_in : List Frame → Frame → List Happening
seen_in earlier frame =
    map (λ line. happening.Line frame.step frame.outcome line (cause_of earlier (operation_in frame) line)) (lines_of_step frame.before frame.step frame.outcome)
    ++ map happening.Item (option_to_list (item_of frame))

-- what can be counted of some steps, by the steps before them
abbrev pub seen_after : List Frame → List Frame → List Happening
seen_after earlier [] = []
seen_after earlier (frame ∷ frames) = seen_in earlier frame ++ seen_after (earlier ++ frame ∷ []) frames

-- what can be counted of a run
abbrev pub happenings : List Frame → List Happening
happenings frames = seen_after [] frames
