-- Counters, one of which goes up.
use Rattle.snoop_engine.proofs.Common.{◌≡◌, ℕ, ◌+◌, ◌<◌, Bool, List, [], ◌∷◌, ◌++◌, filter, length, length-append, get_or, set, replicate, sym, ◌∙◌, arith, ◌==◌, Some, nat_tests, common_steps, CacheState, CacheEvent, MemState, MemEvent, ne_eqb, length-replicate, length-set, get_or-replicate, get_or-set_other, get_or-set_same, filter-append, takes_memory_row, takes_row, Tallies, core_place, memory_place, Taken, Core, Memory}
use Rattle.snoop_history.specs.Totals.{capped}
use Rattle.snoop_engine.specs.Numbers.{event_number, memory_event_number}

-- the numbers are within the tables
event_within : (e : CacheEvent) → event_number e < 11
event_within e = grind arith

memory_event_within : (e : MemEvent) → memory_event_number e < 6
memory_event_within e = grind arith

core_below : (s : CacheState) (e : CacheEvent) → core_place s e < 143
core_below s e = grind (arith, event_within e)

memory_below : (s : MemState) (e : MemEvent) → memory_place s e < 203
memory_below s e = grind (arith, memory_event_within e)

-- nothing is counted yet
pub tallies_none : Tallies (replicate 203 0) []
tallies_none =
    record {
      long = length-replicate {A = ℕ} 203 0;
      cores = λ s e. let lt = core_below s e in get_or-replicate {A = ℕ} 203 (core_place s e) 0 0 (omega arith);
      memory = λ s e. get_or-replicate {A = ℕ} 203 (memory_place s e) 0 0 (memory_below s e);
    }

-- one line more, of which the test says whether its counter is the one here
module _ (p : Taken → Bool) (lines : List Taken) (line : Taken) where
  counted_more : (counters new : List ℕ) (place here : ℕ) → place < length counters → new ≡ set counters place (capped (get_or counters place 0 + 1))
      → p line ≡ (place == here) → get_or counters here 0 ≡ capped (length (filter p lines)) → get_or new here 0 ≡ capped (length (filter p (lines ++ line ∷ [])))
  counted_more counters new place here lt is test before =
      let longer = filter-append p lines (line ∷ []) in
      let long = length-append (filter p lines) (filter p (line ∷ [])) in
      grind (arith, common_steps, nat_tests, get_or-set_same counters place (capped (get_or counters place 0 + 1)) 0 lt, get_or-set_other counters place here (capped (get_or counters place 0 + 1)) 0)

-- a line is counted at one place
tallies_at : (lines : List Taken) (line : Taken) (place : ℕ) (counters new : List ℕ) → place < 203 → new ≡ set counters place (capped (get_or counters place 0 + 1))
    → ((s : CacheState) (e : CacheEvent) → takes_row s e line ≡ (place == core_place s e)) → ((s : MemState) (e : MemEvent) → takes_memory_row s e line ≡ (place == memory_place s e))
    → Tallies counters lines → Tallies new (lines ++ line ∷ [])
tallies_at lines line place counters new below is core_line memory_line far =
    let lt : place < length counters = (let long = far.long in omega arith) in
    record {
      long = rw is (length-set counters place (capped (get_or counters place 0 + 1)) ∙ far.long);
      cores = λ s e. counted_more (takes_row s e) lines line counters new place (core_place s e) lt is (core_line s e) (far.cores s e);
      memory = λ s e. counted_more (takes_memory_row s e) lines line counters new place (memory_place s e) lt is (memory_line s e) (far.memory s e);
    }

-- a core's row is counted, or one of memory's
pub tallies_core : (lines : List Taken) (core block : ℕ) (met : CacheEvent) (at : CacheState) (counters new : List ℕ) → new ≡ set counters (core_place at met) (capped (get_or counters (core_place at met) 0 + 1))
    → Tallies counters lines → Tallies new (lines ++ Core core block (Some met) at ∷ [])
tallies_core lines core block met at counters new is =
    let below = core_below at met in
    tallies_at lines (Core core block (Some met) at) (core_place at met) counters new (omega arith) is
    (λ s e. let own = event_within met in let other = event_within e in grind (arith, common_steps, nat_tests))
    (λ s e. sym (ne_eqb (core_place at met) (memory_place s e) (λ q. omega arith)))

pub tallies_memory : (lines : List Taken) (block : ℕ) (met : MemEvent) (at : MemState) (counters new : List ℕ) → new ≡ set counters (memory_place at met) (capped (get_or counters (memory_place at met) 0 + 1))
    → Tallies counters lines → Tallies new (lines ++ Memory block met at ∷ [])
tallies_memory lines block met at counters new is =
    tallies_at lines (Memory block met at) (memory_place at met) counters new (memory_below at met) is
    (λ s e. let other = core_below s e in sym (ne_eqb (memory_place at met) (core_place s e) (λ q. omega arith)))
    (λ s e. let own = memory_event_within met in let other = memory_event_within e in grind (arith, common_steps, nat_tests))
