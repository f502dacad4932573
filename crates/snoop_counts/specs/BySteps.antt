-- The counts of the whole machine for each so many steps, as a text of fields.
-- Source: the fields and their form are this project's profile.
use Rattle.std.specs.{Prelude.{ℕ, ◌+◌, ◌-◌, ◌%◌, ◌==◌, List, [], ◌∷◌, ◌++◌, codes, drop, length, take, if◌then◌else◌}, Fmt.decimal}
use Rattle.snoop_model.specs.Pictures.Situation.{Situation}
use Rattle.snoop_engine.specs.{Frames.Frame, Views.view_text}
use Rattle.snoop_counts.specs.{CoreTable.{core_counts, count_fields, header}, Counted.counted_of, Happenings.seen_after, declared.count.Count.Count}
use Rattle.snoop_counts.specs.declared.count.{Count.TheVariants.NoTransaction, Happening.Happening, Subjects.TheVariants.Machine}

-- the counts of the machine
abbrev pub machine_counts : List Count
machine_counts = core_counts ++ NoTransaction ∷ []

-- the names of the fields
abbrev pub steps_header : List ℕ
steps_header = header (codes "first,last") machine_counts

-- what can be counted of the last so many of these steps
abbrev pub seen_last : ℕ → List Frame → List Happening
seen_last size frames = seen_after (take (length frames - size) frames) (drop (length frames - size) frames)

-- a line: the numbers of the first and the last step, and what was counted of the machine
abbrev pub steps_fields : ℕ → ℕ → List Happening → List ℕ
steps_fields first last seen = decimal first ++ codes "," ++ decimal last ++ count_fields machine_counts (counted_of Machine seen 0) ++ codes "\n"

-- the line of the last so many of these steps
abbrev pub steps_line : ℕ → List Frame → List ℕ
steps_line size frames = steps_fields (length frames + 1 - size) (length frames) (seen_last size frames)

-- after each so many steps there is a line of them
abbrev pub steps_shown : ℕ → List Frame → Frame → List ℕ
steps_shown every earlier frame = if (length earlier + 1) % every == 0 then steps_line every (earlier ++ frame ∷ []) else []

-- and at the end one of those that are left, if any
abbrev pub steps_left : ℕ → List Frame → Situation → List ℕ
steps_left every frames final = if length frames % every == 0 then [] else steps_line (length frames % every) frames

-- the table of a run
abbrev pub counts_by_steps : ℕ → List Frame → Situation → List ℕ
counts_by_steps every = view_text steps_header (steps_shown every) (steps_left every)
