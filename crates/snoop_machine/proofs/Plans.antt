-- What a planned step adds and needs, and how many lines each core's map has after it, or after the room for it was made.
use Rattle.snoop_machine.proofs.Common.{◌≡◌, ℕ, ◌++◌, Option, None, Some, append-nil, arith, ◌⊎◌, option_to_list, Step, Item, FirstMove, Refuses, Situation, Refused, Reply, IsPlan, IsPlanFor, HasRoom, planned_step, room_for, entry_of, IsFull, IsPrepared, Standing, Plan, ◌+◌, cases_eq, get_or-set_other, LosesLines, AddsLines, NeedsLine, MovesToI, HoldsOn, KeepsRoom, line_count, get_or-set_same}
use Rattle.snoop_trace.specs.declared.step.Step.TheVariants as step
use Rattle.snoop_machine.specs.declared.parts.step.Plan.TheVariants as plan
use Rattle.snoop_model.proofs.Tables.Rows.{no_row}

-- a planned step is refused for no cause
pub plan-allowed : (s : Situation) (x : Plan) → IsPlan s x → (cause : Refused) → ¬ Refuses s (planned_step x) cause
plan-allowed s x h cause g = grind (arith, h)

-- a planned step adds the plan's item, whatever move it is
plan-adds : (s : Situation) (x : Plan) → IsPlan s x → (answer : Reply) (new : Situation) → FirstMove s (planned_step x) answer new → new.log ≡ s.log ++ option_to_list (entry_of s.log x)
plan-adds s (plan.Ask core block word asking asked) h answer new m =
    grind (arith, h.1, rw (← m.1.1.on_block) at m.1.1.moves, append-nil s.log)
plan-adds s (plan.Order core request block from payload memory) h answer new m =
    grind (arith, m.1.0, h.1.head.first, h.1.head.waits, m.1.1.orders.ready, m.1.1.orders.after)
plan-adds s (plan.Respond came memory None) h answer new m =
    grind (arith, h.1.opened, m.1.1.on_block, m.1.1.responds.opened, h.2, m.1.1.responds.after, m.1.1.responds.requestor)
plan-adds s (plan.Respond came memory (Some filled)) h answer new m =
    let responds = m.1.1.responds in
    let fills = rw (m.1.1.on_block, responds.opened) at h.2.1 in
    grind (arith, h.1.opened, m.1.1.on_block, m.1.1.responds.opened, h.2.0, responds.after, responds.requestor, fills)

-- where the plan has no room the step has none
pub IsFull-plan : (before : Standing) (taking : Step) (x : Plan) → IsPlanFor before.situation taking x → room_for before x ≡ 0 → IsFull before taking
IsFull-plan before taking x h none = rw (← h.0) (grind (arith, h))

-- a planned step with its room is prepared
pub IsPrepared-plan : (before : Standing) (taking : Step) (x : Plan) (entry : Option Item) → IsPlanFor before.situation taking x → HasRoom before x → entry ≡ entry_of before.situation.log x
    → IsPrepared before taking entry
IsPrepared-plan before taking x entry h some is =
    rw (← h.0) (record {
      allowed = plan-allowed before.situation x h.1;
      room = λ full. grind (arith, h, some, full);
      adds = λ answer new move. rw is (plan-adds before.situation x h.1 answer new move);
    })

-- a core that leaves I on a block moves to I on none
stays_out : (before : Standing) (new : Situation) (taking : Step) (core : ℕ) (answer : Reply) → FirstMove before.situation taking answer new → NeedsLine before taking core → ¬ MovesToI before.situation new core
stays_out before new (step.Ask asker block word asking) core answer m leaves moved =
    grind (arith, m.1.1.moves, m.1.1.on_block, get_or-set_same before.situation.pictures m.0, get_or-set_other before.situation.pictures m.0 moved.0, cases_eq moved.0 m.0)
stays_out before new _ core answer m leaves moved = leaves

-- the room for a step adds a line where the step needs one
adds_step : (old new : Standing) (taking : Step) (x : Plan) (core : ℕ) → IsPlanFor old.situation taking x → AddsLines x old new core → (line_count new core ≡ line_count old core) ⊎ (NeedsLine old taking core × (line_count new core ≡ line_count old core + 1))
adds_step old new taking x core h adds = rw (← h.0) (grind (arith, h, adds, no_row old.situation.protocol))

-- the room for the step was made, and nothing else
pub HoldsOn-room : (old new : Standing) (taking : Step) (x : Plan) (core : ℕ) → IsPlanFor old.situation taking x → new.situation ≡ old.situation → AddsLines x old new core → HoldsOn old new taking core
HoldsOn-room old new taking x core h unchanged adds = grind (arith, adds_step old new taking x core h adds)

-- the room was made, and the step was taken
module _ (old middle new : Standing) (taking : Step) (x : Plan) (answer : Reply) (h : IsPlanFor old.situation taking x)
    (unchanged : middle.situation ≡ old.situation)
    (adds : (core : ℕ) → AddsLines x old middle core) (loses : (core : ℕ) → LosesLines middle new core)
    (move : FirstMove old.situation taking answer new.situation) where
  pub HoldsOn-taken : (core : ℕ) → HoldsOn old new taking core
  HoldsOn-taken core =
      let out = stays_out old new.situation taking core answer move in
      grind (arith, adds_step old middle taking x core h (adds core), loses core, unchanged, out)

  -- and of the room as much is there as before, but for what was put in
  pub KeepsRoom-taken : KeepsRoom old middle → KeepsRoom middle new → KeepsRoom old new
  KeepsRoom-taken made taken = record {
    items = (let first = made.items in let then = taken.items in omega arith);
    requests = λ core. (let first = made.requests core in let then = taken.requests core in omega arith);
    lines = λ core had has.
        let out = stays_out old new.situation taking core answer move in
        let adds = adds_step old middle taking x core h (adds core) in
        grind (arith, made.requests core, made.lines core, taken.lines core, adds, loses core, unchanged, out);
  }
