use Rattle.snoop_history.proofs.Boards.{board-shape}
use Rattle.snoop_history.proofs.board.Board.has_shape.Goals as goal

pub returns-clause-board : goal.returns-clause-board
returns-clause-board c cores blocks words items is =
    let (same_cores, same_blocks, same_words) = board-shape cores blocks words items is in
    rw (same_cores, same_blocks, same_words, c.cores-cores.ensures.value, c.blocks-blocks.ensures.value, c.words-words.ensures.value) at c.has_sizes.ensures
