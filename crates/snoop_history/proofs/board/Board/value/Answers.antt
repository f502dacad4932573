use Rattle.std.{proofs.{Common.{◌≡◌, ◌∙◌, ◌&&◌, None, Some, ap, subst}, lemmas.Bool.lt-ltb}, specs.Prelude.{slice_index, nat_lt, if◌then◌else◌}}
use Rattle.snoop_trace.specs.Words.{place_of}
use Rattle.snoop_history.{specs.{Board.Tables, History.flat, Within.inside}, proofs.Boards.value-read}
use Rattle.snoop_history.proofs.board.Board.value.Goals as goal

pub returns-then-word-self-clause-board : goal.returns-then-word-self-clause-board
returns-then-word-self-clause-board c cores blocks words items is =
    let block = c.args.block in
    let word = c.args.word in
    subst (λ (t : Tables). Some c.read_value.result ≡ (if nat_lt block t.blocks && nat_lt word t.words then Some (slice_index t.values (place_of t.words block word)) else None)) (c.self.view_is ∙ is)
    (rw (lt-ltb _ _ c.if-block-self.true, lt-ltb _ _ c.if-word-self.true) (ap Some c.read_value.ensures)) ∙ value-read (flat (inside cores blocks words items)) blocks words block word
