use Rattle.snoop_machine.proofs.Common.{◌≡◌, ℕ, List, [], length, replicate, Option, None, refl, ◌∙◌, ap, arith, slice_index_or, All, length-replicate, get_or-replicate, get_or_past, Extent, Open, Traffic, Waiting, no_queue, waiting_of, nothing_held, line_at, queues_of, IsSound, replicated, zero_words, first_memory, constant, map, Request}
use Rattle.snoop_machine.proofs.parts.Parts.reset.Goals as goal
use Rattle.snoop_machine.proofs.PartsViews.{pictures_of-replicate}

module _ (shape : Extent) (bus : Traffic) (long : length bus.queues ≡ shape.cores) (idle : All (λ q. q.requests ≡ []) bus.queues) (closed : bus.transactions ≡ replicate shape.blocks None) where
  line_is : (k b : ℕ) → line_at (replicate shape.blocks (replicate shape.cores nothing_held)) k b ≡ nothing_held
  line_is k b =
      let row = replicate shape.cores nothing_held in
      grind (arith, get_or-replicate shape.blocks b row [], get_or_past (replicate shape.blocks row) b [], length-replicate shape.blocks row, replicated shape.cores k nothing_held)

  queue_is : (k : ℕ) → (waiting_of bus k).requests ≡ []
  queue_is k = grind (arith, idle k no_queue, get_or_past bus.queues k no_queue)

  queues_of-reset : queues_of bus.queues ≡ replicate (length bus.queues) []
  queues_of-reset = constant (λ (q : Waiting). map (λ (r : Request × ℕ). r.1) q.requests) bus.queues no_queue [] (λ k. rw (queue_is k) refl)

  IsSound-reset : IsSound shape (replicate shape.blocks (replicate shape.cores nothing_held)) bus
  IsSound-reset = record {
    rows = length-replicate shape.blocks (replicate shape.cores nothing_held);
    row = λ b h. ap length (get_or-replicate shape.blocks b (replicate shape.cores nothing_held) [] h) ∙ length-replicate shape.cores nothing_held;
    queues = long;
    transactions = ap length closed ∙ length-replicate shape.blocks None;
    proper = λ k b. (rw (line_is k b) (record { kept = refl; waiting = refl }));
    opened = λ b t h. cc (ap (λ (l : List (Option Open)). slice_index_or l b None) closed ∙ replicated shape.blocks b None);
    waits = λ k b. rw (queue_is k, line_is k b) refl;
  }

pub invariant_of-result : goal.invariant_of-result
invariant_of-result g c =
    let lines = length-replicate {A = List ℕ} c.args.shape.cores [] in
    let states = length-replicate c.blocks-2.result c.match-protocol.first in
    let words = length-replicate c.blocks-2.result zero_words in
    record {
      sized = grind (arith, c.in_ok-lines.ensures.lines, c.in_ok-states.ensures, c.in_ok-words.ensures, c.blocks-2.ensures.value, c.blocks-3.ensures.value, c.in_ok-log.ensures, c.requires.words, lines, states, words);
      sound = rw (← c.in_ok-lines.ensures.rows) at (IsSound-reset c.args.shape c.in_ok-bus.bus c.in_ok-bus.ensures.queues.0 c.in_ok-bus.ensures.queues.1 c.in_ok-bus.ensures.transactions);
    }

pub returns : goal.returns
returns g c =
    let shape = c.args.shape in
    let bus = c.in_ok-bus.ensures in
    let queues = queues_of-reset shape c.in_ok-bus.bus bus.queues.0 bus.queues.1 bus.transactions in
    let first : c.match-protocol.first ≡ first_memory c.args.protocol = grind (arith, c.match-protocol.branch) in
    let pictures = pictures_of-replicate shape.blocks (replicate shape.cores nothing_held) (first_memory c.args.protocol) zero_words None in
    record {
      situation = rw (c.in_ok-lines.ensures.rows, c.in_ok-states.ensures, c.in_ok-words.ensures, c.zero.ensures, bus.transactions, c.blocks-2.ensures.value, c.blocks-3.ensures.value, first, pictures, queues, bus.queues.0, c.in_ok-log.ensures) refl;
      empty = λ core. rw (c.in_ok-lines.ensures.lines, replicated {X = List ℕ} shape.cores core []) refl;
    }
