use Rattle.snoop_bench.proofs.{Common.{access_of, well_kept_in}, Outcomes.{ends_with, closed_turn}}
use Rattle.snoop_bench.proofs.bench.Bench.kept.Goals as goal

pub returns-clause-kept : goal.returns-clause-kept
returns-clause-kept c =
    let s = c.self.inside.recorder.situation in
    let u = c.self.invariant in
    let r = c.recorded.ensures.recorded in
    rw (← c.self.view_is) (record {
      run = r.run;
      readable = r.readable;
      places = u.places;
      serving = u.serving;
      closed = λ core work its isnt closed.
          ends_with s core work (c.turns_are_served.ensures.closed_is_last s core work.block work.word work.op (access_of work)
          (well_kept_in _ c.recorded.ensures.safe) (u.owed core work its isnt) (closed_turn s core work.block work.word work.op closed));
      published = r.published;
    })
