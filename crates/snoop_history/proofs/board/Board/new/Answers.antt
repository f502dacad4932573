use Rattle.std.proofs.Common.{◌≡◌, ◌*◌, [], None, refl, ap, ◌∙◌, rules, replicate}
use Rattle.snoop_history.{specs.Board.board_of, proofs.Boards.{table-of, same_tables, value_at, count_in, last_in}}
use Rattle.snoop_history.proofs.board.Board.new.Goals as goal

pub returns : goal.returns
returns c =
    let cores = c.args.shape.cores in
    let blocks = c.args.shape.blocks in
    let words = c.args.shape.words in
    let values : c.in_ok-vec.field-0.items ≡ replicate (blocks * words) 0 = c.in_ok-vec.ensures.items_if_clones_equal (λ y h. h) ∙ (ap (λ n. replicate (n * c.words-words.result) 0) c.blocks-blocks.ensures.value ∙ ap (λ n. replicate (blocks * n) 0) c.words-words.ensures.value) in
    let counts : c.in_ok-vec-2.field-0.items ≡ replicate cores 0 = c.in_ok-vec-2.ensures.items_if_clones_equal (λ y h. h) ∙ ap (λ n. replicate n 0) c.cores-cores.ensures.value in
    let lasts : c.in_ok-vec-3.field-0.items ≡ replicate cores None = c.in_ok-vec-3.ensures.items_if_clones_equal (λ y h. search (rules, h)) ∙ ap (λ n. replicate n None) c.cores-cores.ensures.value in
    same_tables _ (board_of cores blocks words []) c.blocks-blocks.ensures.value c.words-words.ensures.value
    (values ∙ table-of (value_at words []) 0 0 (blocks * words) (λ j. refl))
    (counts ∙ table-of (count_in []) 0 0 cores (λ j. refl))
    (lasts ∙ table-of (last_in []) None 0 cores (λ j. refl))
    (search rules)
