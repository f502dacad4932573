use Rattle.std.proofs.Common.{◌≡◌, ◌-◌, ◌^◌, min, vec_capacity, vec_len, [], ◌∙◌, map, sym, ap, arith}
use Rattle.snoop_history.proofs.{Common.{Mentions, unpacked}, Boards.board-shape, Kept.tallied_as}
use Rattle.snoop_history.proofs.log.Log.new.Goals as goal

pub invariant_of-result : goal.invariant_of-result
invariant_of-result c =
    record {
      kept = rw (ap (map unpacked) c.new.ensures.items)
          (tallied_as (omega arith) (omega (arith, c.blocks-2.ensures.within)) (omega (arith, c.words.ensures.within.1)) (record { within = λ k entry at. cc; in_order = λ k entry at. cc }) c.in_ok-new.ensures (ap (λ (m : Mentions). m.order) c.in_ok-new-2.ensures));
      as_many = ap (λ (m : Mentions). m.blocks) c.in_ok-new-2.ensures ∙ (c.blocks-2.ensures.value ∙ sym (board-shape _ _ _ [] c.in_ok-new.ensures).1);
    }

pub returns : goal.returns
returns c =
    let room : min (vec_capacity c.new.result) (2 ^ 48) - vec_len c.new.result ≡ 0 = omega (arith, c.new.ensures.len, c.new.ensures.capacity) in
    let (cores, blocks, words) = board-shape _ _ _ [] c.in_ok-new.ensures in
    let items = ap (map unpacked) c.new.ensures.items in
    λ i. record { cores = cores i; blocks = blocks i; words = words i; items = items i; room = room i }
