use Rattle.std.{proofs.Common.{◌≡◌, ◌++◌}, specs.List.{flat_map, range_with_len}}
use Rattle.snoop_draw.specs.Marks.{mark_text}
use Rattle.snoop_draw.proofs.marks.push_marks.Given as goal

-- the marks so far
abbrev pub invariant-loop-place : goal.invariant-loop-place
invariant-loop-place l = l.out.items ≡ l.fn.out.items ++ flat_map (λ _. mark_text l.charset l.mark) (range_with_len 0 l._place)
