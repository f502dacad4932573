use Rattle.snoop_engine.proofs.Common.{◌≡◌, ℕ, List, [], ◌∷◌, length, length-append, filter, flat_map, refl, append-nil, arith}
use Rattle.snoop_engine.proofs.{Common.{Chosen, Frame, Numbered, block_of_step, numbered_from}, ViewLemmas.shown_numbered}
use Rattle.snoop_svg.specs.{Drawings.has_row, Size.mark_text}
use Rattle.snoop_svg.proofs.rows.rows_of.Goals as goal

abbrev mark_of : Chosen → ℕ → Frame → List ℕ
mark_of choice number frame = mark_text choice number (block_of_step frame.before frame.step)

-- as many marks as rows
marks_of : (choice : Chosen) (ns : List Numbered) → length (flat_map (λ n. mark_of choice n.number n.frame) ns) ≡ length (filter (has_row choice) ns)
marks_of choice [] = refl
marks_of choice (n ∷ ns) = grind (arith, length-append, marks_of choice ns)

pub returns-in-Ok : goal.returns-in-Ok
returns-in-Ok c =
    let h = c.in-Ok.ensures.ok in
    let whole = rw c.new-marks.ensures.items at h.output in
    record {
      frames = h.frames;
      final = h.final;
      run = h.run;
      count = rw (c.count.ensures, c.deref.ensures.value, whole, append-nil, shown_numbered (mark_of c.args.choice) [] h.frames)
          (marks_of c.args.choice (numbered_from 1 h.frames));
    }
